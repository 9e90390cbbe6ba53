use Rattle.std.proofs.Common.{false}
use Rattle.pipeline.specs.Correction.{corrected}
use Rattle.pipeline.proofs.Compacting.{Compacting}
use Rattle.pipeline.proofs.correction.correct_entries.Given as goal

abbrev pub invariant-loop-i : goal.invariant-loop-i
invariant-loop-i l = Compacting (corrected l.kind) (corrected l.kind false l.initial.entries) l.initial.entries l.entries l.left l.i l.seen
