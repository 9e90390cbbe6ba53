use Rattle.std.proofs.Common.{◌≡◌, ◌+◌, drop}
use Rattle.machine.specs.Machine.{disorder}
use Rattle.join.proofs.load.first_unsorted.Given as goal

-- what is left of the rows, from the place reached on, decides
abbrev pub invariant-loop-i : goal.invariant-loop-i
invariant-loop-i g l = disorder (g.O.KeyOrder.within l.order) l.before (drop l.i l.rows) (l.first + l.i) ≡ disorder (g.O.KeyOrder.within l.order) l.last l.rows l.first
