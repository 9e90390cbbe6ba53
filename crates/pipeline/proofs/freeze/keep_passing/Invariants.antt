use Rattle.pipeline.specs.Freezing.{passing}
use Rattle.pipeline.proofs.Compacting.{Compacting}
use Rattle.pipeline.proofs.freeze.keep_passing.Given as goal

abbrev pub invariant-loop-i : goal.invariant-loop-i
invariant-loop-i l = Compacting {S = Unit {0}} (λ _. passing) (passing l.initial.entries) l.initial.entries l.entries l.left l.i tt
