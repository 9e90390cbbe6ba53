use Rattle.std.proofs.Common.{◌≡◌, ◌++◌, drop, vec_items}
use Rattle.rows.specs.Sides.{alone_on}
use Rattle.merge.specs.Table.{listed}
use Rattle.merge.specs.Nested.{is_alone}
use Rattle.merge.proofs.nested_loops.Sides.add_lone.Given as goal

abbrev pub invariant-loop-i : goal.invariant-loop-i
invariant-loop-i g l = vec_items l.table ++ listed (alone_on l.side) (is_alone l.self l.side) l.i (drop l.i l.row-items) ≡ vec_items l.initial.table ++ listed (alone_on l.side) (is_alone l.self l.side) 0 l.row-items
