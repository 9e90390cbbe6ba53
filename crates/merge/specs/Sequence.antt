-- Records, each naming the streamed row first, by rising streamed place and, for one streamed row, by rising buffered place.
use Rattle.std.specs.Prelude.{◌≡◌, ◌<◌, ◌⊎◌, List, [], ◌∷◌}
use Rattle.std.specs.List.{AllByRecursion}
use Rattle.rows.specs.declared.record.Record.{Record}
use Rattle.rows.specs.declared.record.Record.TheVariants.{Pair, LeftAlone, RightAlone}

-- A buffered row alone has no streamed place, so it comes before none and after none.
abbrev pub Before : Record → Record → Type 0
Before (Pair i j) (Pair i' j') = (i < i') ⊎ ((i ≡ i') × (j < j'))
Before (Pair i j) (LeftAlone i') = i < i'
Before (Pair i j) (RightAlone j') = ⊥
Before (LeftAlone i) (Pair i' j') = i < i'
Before (LeftAlone i) (LeftAlone i') = i < i'
Before (LeftAlone i) (RightAlone j') = ⊥
Before (RightAlone j) (Pair i' j') = ⊥
Before (RightAlone j) (LeftAlone i') = ⊥
Before (RightAlone j) (RightAlone j') = ⊥

abbrev pub InSequence : List Record → Type 0
InSequence [] = Unit {0}
InSequence (r ∷ l) = AllByRecursion (Before r) l × InSequence l
