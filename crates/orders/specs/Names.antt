-- The names of what a column can be told.
use Rattle.std.specs.Prelude.{ℕ, List, codes}
use Rattle.orders.specs.declared.choices.Direction.{Direction}
use Rattle.orders.specs.declared.choices.Direction.TheVariants.{Up, Down}
use Rattle.orders.specs.declared.choices.MissingPlace.{MissingPlace}
use Rattle.orders.specs.declared.choices.MissingPlace.TheVariants.{First, Last}
use Rattle.orders.specs.declared.choices.MissingEquals.{MissingEquals}
use Rattle.orders.specs.declared.choices.MissingEquals.TheVariants.{Missing, Nothing}

abbrev pub direction_name : Direction → List ℕ
direction_name Up = codes "up"
direction_name Down = codes "down"

abbrev pub missing_name : MissingPlace → List ℕ
missing_name First = codes "first"
missing_name Last = codes "last"

abbrev pub equals_name : MissingEquals → List ℕ
equals_name Missing = codes "missing"
equals_name Nothing = codes "nothing"
