use Rattle.std.proofs.Common.{◌≡◌, ◌++◌, map, drop, vec_items}
use Rattle.rows.specs.declared.record.Record.TheVariants.{Pair}
use Rattle.rows.specs.Sides.{oriented}
use Rattle.merge.specs.Table.{listed, all_pairs}
use Rattle.merge.specs.Nested.{passing_sides}
use Rattle.merge.proofs.nested_loops.Sides.add_pairs.Given as goal

abbrev pub invariant-loop-j : goal.invariant-loop-j
invariant-loop-j g l = vec_items l.table ++ listed (λ j. oriented l.self.kind (Pair l.i j)) (passing_sides l.self l.x) l.j (drop l.j l.buffered) ≡ vec_items l.initial.table ++ listed (λ j. oriented l.self.kind (Pair l.i j)) (passing_sides l.self l.x) 0 l.buffered

abbrev pub invariant-loop-i : goal.invariant-loop-i
invariant-loop-i g l = vec_items l.table ++ map (oriented l.self.kind) (all_pairs (passing_sides l.self) l.i (drop l.i l.streamed) 0 l.buffered) ≡ vec_items l.initial.table ++ map (oriented l.self.kind) (all_pairs (passing_sides l.self) 0 l.streamed 0 l.buffered)
