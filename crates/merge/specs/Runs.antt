-- Sorted logs and their runs. A run is a longest stretch of neighbouring rows that are same within.
use Rattle.std.specs.Prelude.{ℕ, suc, cond, List, [], ◌∷◌}
use Rattle.std.specs.declared.cmp.Ordering.{Ordering}
use Rattle.rows.specs.Order.{Rises, is_same}

module _ {X : Type 0} (within : X → X → Ordering) where
  -- x is not after the first row of the list
  abbrev pub Leads : X → List X → Type 0
  Leads x [] = Unit {0}
  Leads x (y ∷ l) = Rises within x y

  -- no row is after the next one
  abbrev pub Sorted : List X → Type 0
  Sorted [] = Unit {0}
  Sorted (x ∷ l) = Leads x l × Sorted l

  -- the rows after y that go on with y's run
  abbrev pub more_of_run : X → List X → List X
  more_of_run y [] = []
  more_of_run y (z ∷ b) = cond (is_same (within y z)) (z ∷ more_of_run z b) []

  -- what comes after y's run
  abbrev pub past_run : X → List X → List X
  past_run y [] = []
  past_run y (z ∷ b) = cond (is_same (within y z)) (past_run z b) (z ∷ b)

  -- the number of runs
  abbrev pub runs_from : X → List X → ℕ
  runs_from y [] = 1
  runs_from y (z ∷ b) = cond (is_same (within y z)) (runs_from z b) (suc (runs_from z b))

  abbrev pub runs : List X → ℕ
  runs [] = 0
  runs (y ∷ b) = runs_from y b
