-- How much has come of a source.
use Rattle.std.specs.Prelude.{ℕ, ◌+◌, ◌-◌, ◌^◌, min, List, length, fold}
use Rattle.hopmap.specs.declared.totals.Totals.{Totals}

-- a count stays at the largest number of 64 bits
abbrev pub held : ℕ → ℕ
held n = min n (2 ^ 64 - 1)

abbrev pub no_batches : Totals
no_batches = record { batches = 0; rows = 0 }

abbrev pub with_batch : Totals → ℕ → Totals
with_batch t rows = record { batches = held (t.batches + 1); rows = held (t.rows + rows) }

-- the totals of batches
abbrev pub totals_of : {A : Type 0} → List (List A) → Totals
totals_of = fold (λ t batch. with_batch t (length batch)) no_batches
