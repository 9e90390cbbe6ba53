-- How the values of a column compare when it runs up.
use Rattle.std.specs.Prelude.{◌≡◌, ℕ, cond, List, [], ◌∷◌, ◌==◌, nat_lt}
use Rattle.std.specs.declared.cmp.Ordering.TheVariants.{Less, Equal, Greater}
use Rattle.std.specs.declared.cmp.Ordering.{Ordering}
use Rattle.std.specs.Ordering.{ordering_then}
use Rattle.rows.specs.Order.{turned, Rises}

-- numbers compare by size
abbrev pub by_size : ℕ → ℕ → Ordering
by_size x y = cond (nat_lt x y) Less (cond (x == y) Equal Greater)

-- lists of bytes compare at the first place where they differ; a list that ends there is before
abbrev pub by_bytes : List ℕ → List ℕ → Ordering
by_bytes [] [] = Equal
by_bytes [] (y ∷ ys) = Less
by_bytes (x ∷ xs) [] = Greater
by_bytes (x ∷ xs) (y ∷ ys) = ordering_then (by_size x y) (by_bytes xs ys)

-- What the comparison of a column's values keeps.
pub record Total {V : Type 0} (compare : V → V → Ordering) : Type 0 where
  -- it turns round when its values are swapped
  pub turns_round : (x y : V) → compare y x ≡ turned (compare x y)
  -- if neither x is after y nor y after z, x is not after z
  pub passes_on : (x y z : V) → Rises compare x y → Rises compare y z → Rises compare x z
