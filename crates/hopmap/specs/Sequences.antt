-- Keys that come one by one, and the first that is before its predecessor.
use Rattle.std.specs.Prelude.{ℕ, ◌+◌, cond, List, Some, None, fold, Option}
use Rattle.std.specs.declared.cmp.Ordering.{Ordering}
use Rattle.rows.specs.declared.row.Row.{Row}
use Rattle.rows.specs.Order.{is_after}
use Rattle.hopmap.specs.declared.sequence.Sequence.{Sequence}
use Rattle.hopmap.specs.Totals.{held}

-- the place of a key, if it is the first before its predecessor
abbrev pub breaks : {K : Type 0} → (K → K → Ordering) → Option ℕ → Option K → ℕ → K → Option ℕ
breaks within (Some place) last count key = Some place
breaks within None None count key = None
breaks within None (Some last) count key = cond (is_after (within last key)) (Some count) None

abbrev pub checked : {K : Type 0} → (K → K → Ordering) → Sequence K → K → Sequence K
checked within s key = record { last = Some key; count = held (s.count + 1); broken = breaks within s.broken s.last s.count key }

abbrev pub no_keys : {K : Type 0} → Sequence K
no_keys = record { last = None; count = 0; broken = None }

-- with the keys of rows, one by one
abbrev pub checked_rows : {K : Type 0} → (K → K → Ordering) → Sequence K → List (Row K) → Sequence K
checked_rows within = fold (λ s row. checked within s row.key)
