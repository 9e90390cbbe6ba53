-- How a column of a key compares: which way it runs, where missing stands, and whether missing equals missing.
use Rattle.std.specs.Prelude.{Some, None, Option}
use Rattle.std.specs.declared.cmp.Ordering.TheVariants.{Less, Equal, Greater}
use Rattle.std.specs.declared.cmp.Ordering.{Ordering}
use Rattle.orders.specs.declared.choices.Choices.{Choices}
use Rattle.orders.specs.declared.choices.Direction.{Direction}
use Rattle.orders.specs.declared.choices.Direction.TheVariants.{Up, Down}
use Rattle.orders.specs.declared.choices.MissingPlace.{MissingPlace}
use Rattle.orders.specs.declared.choices.MissingPlace.TheVariants.{First, Last}
use Rattle.orders.specs.declared.choices.MissingEquals.{MissingEquals}
use Rattle.orders.specs.declared.choices.MissingEquals.TheVariants.{Missing, Nothing}
use Rattle.rows.specs.Order.{turned}

-- a column that runs down turns the answer of two values round
abbrev pub directed : Direction → Ordering → Ordering
directed Up o = o
directed Down o = turned o

-- a missing value against one that is there, whichever way the column runs
abbrev pub missing_against : MissingPlace → Ordering
missing_against First = Less
missing_against Last = Greater

-- two missing values across: same, or before where missing equals nothing
abbrev pub two_missing : MissingEquals → Ordering
two_missing Missing = Equal
two_missing Nothing = Less

-- two values of a column, each perhaps missing; `both` is the answer for two missing ones
abbrev pub by_column : {V : Type 0} → Ordering → Direction → MissingPlace → (V → V → Ordering) → Option V → Option V → Ordering
by_column both direction place compare None None = both
by_column both direction place compare None (Some y) = missing_against place
by_column both direction place compare (Some x) None = turned (missing_against place)
by_column both direction place compare (Some x) (Some y) = directed direction (compare x y)

-- within, two missing are same
abbrev pub column_within : {V : Type 0} → Choices → (V → V → Ordering) → Option V → Option V → Ordering
column_within choices compare = by_column Equal choices.direction choices.missing compare

-- across equals within, but for two missing where missing equals nothing
abbrev pub column_across : {V : Type 0} → Choices → (V → V → Ordering) → Option V → Option V → Ordering
column_across choices compare = by_column (two_missing choices.equals) choices.direction choices.missing compare
