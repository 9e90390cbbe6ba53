use Rattle.std.proofs.Common.{length}
use Rattle.sources.proofs.Scan.{Passed}
use Rattle.sources.proofs.batch.next_batch.Given as goal

abbrev pub invariant-loop-rest : goal.invariant-loop-rest
invariant-loop-rest g l = Passed g.F.KeyKind.layout l.total l.bytes l.rest

abbrev pub decreases-loop-rest : goal.decreases-loop-rest
decreases-loop-rest g l = length l.rest
