-- An order for small examples: keys are numbers that may be missing; they run up, missing first, and across missing equals
-- nothing.
use Rattle.std.specs.Prelude.{ℕ, cond, Some, None, Option, ◌==◌, nat_lt}
use Rattle.std.specs.declared.cmp.Ordering.TheVariants.{Less, Equal, Greater}
use Rattle.std.specs.declared.cmp.Ordering.{Ordering}

abbrev pub by_number : ℕ → ℕ → Ordering
by_number a b = cond (nat_lt a b) Less (cond (a == b) Equal Greater)

abbrev pub numbers_within : Option ℕ → Option ℕ → Ordering
numbers_within None None = Equal
numbers_within None (Some b) = Less
numbers_within (Some a) None = Greater
numbers_within (Some a) (Some b) = by_number a b

abbrev pub numbers_across : Option ℕ → Option ℕ → Ordering
numbers_across None b = Less
numbers_across (Some a) None = Greater
numbers_across (Some a) (Some b) = by_number a b
