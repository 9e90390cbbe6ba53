use Rattle.std.proofs.Common.{◌≡◌, ◌++◌, map, take, drop}
use Rattle.sources.specs.Clock.{moved_row}
use Rattle.sources.proofs.clock.move_all.Given as goal

abbrev pub invariant-loop-row : goal.invariant-loop-row
invariant-loop-row g l = take l.row-index l.row-items ++ map (moved_row l.offset) (drop l.row-index l.row-items) ≡ map (moved_row l.offset) l.initial.row-items
