-- An order that asks one order and, at same, another.
use Rattle.std.specs.declared.cmp.Ordering.{Ordering}
use Rattle.std.specs.Ordering.{ordering_then}

-- the answer of the first, and of the second where that is same
abbrev pub chained : {K : Type 0} → (K → K → Ordering) → (K → K → Ordering) → K → K → Ordering
chained first second a b = ordering_then (first a b) (second a b)
