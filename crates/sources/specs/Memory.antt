-- Rows in memory, cut every n rows.
use Rattle.std.specs.Prelude.{◌≡◌, ℕ, zero, suc, ◌≤◌, max, List, [], ◌∷◌, length, take, drop, Ok}
use Rattle.std.specs.List.{flat_map}
use Rattle.rows.specs.declared.row.Row.{Row}
use Rattle.sources.specs.declared.memory.Memory.{Memory}
use Rattle.sources.specs.Meaning.{Closing}

-- the first m batches of the rows cut every n
abbrev pub first_cut : {A : Type 0} → ℕ → ℕ → List A → List (List A)
first_cut zero n rows = []
first_cut (suc m) n [] = []
first_cut (suc m) n (row ∷ rows) = take n (row ∷ rows) ∷ first_cut m n (drop n (row ∷ rows))

-- the rows cut every n, where 0 counts as 1; there are no more batches than rows
abbrev pub cut : {A : Type 0} → ℕ → List A → List (List A)
cut n rows = first_cut (length rows) (max n 1) rows

-- every batch but the last has n rows, and the last has 1 to n
abbrev pub Filled : {A : Type 0} → ℕ → List (List A) → Type 0
Filled n [] = Unit {0}
Filled n (batch ∷ []) = (1 ≤ length batch) × (length batch ≤ n)
Filled n (batch ∷ next ∷ left) = (length batch ≡ n) × Filled n (next ∷ left)

-- What it means that batches are the rows cut every n, where 0 counts as 1: no other batches are so, as `Memory::new` says.
pub record CutEvery {A : Type 0} (n : ℕ) (rows : List A) (batches : List (List A)) : Type 0 where
  -- the rows of all batches in sequence are the rows
  pub whole : flat_map (λ batch. batch) batches ≡ rows
  pub filled : Filled (max n 1) batches

-- what rows in memory mean as a source: batches, then the end
abbrev pub batches_of : {K : Type 0} → Memory K → List (List (Row K))
batches_of memory = cut memory.every memory.rows.now

abbrev pub closing_of : {K : Type 0} → Memory K → Closing
closing_of memory = Ok tt
