use Rattle.sources.proofs.Rows.{Writing}
use Rattle.sources.proofs.batch.write_rows.Given as goal

abbrev pub invariant-loop-slot : goal.invariant-loop-slot
invariant-loop-slot g l = Writing g.F.KeyKind.layout l.rows l.slot-index l.slot-items l.rest
