use Rattle.std.proofs.Common.{Bool, sym, subst, ◌∙◌, arith}
use Rattle.pipeline.proofs.Queues.{counts}
use Rattle.machine.specs.Machine.{let_go}
use Rattle.join.specs.Settled.{Settled}
use Rattle.join.proofs.Settling.{release_settles, settled_numbers}
use Rattle.join.proofs.settle.let_frozen_go.Goals as goal

pub returns-then-not-defers : goal.returns-then-not-defers
returns-then-not-defers g c =
    let s = release_settles c.requires.idle c.requires.unfrozen c.release.ensures in
    let n = settled_numbers s in
    record {
      queue = subst (λ (b : Bool). Settled (let_go b) c.args.queue.now c.args.block.now c.release.new.self c.release.new.block) (sym c.if-not-defers.true ∙ c.defers.ensures) s;
      numbers = (omega (arith, n.0), (n.1.0, n.1.1 ∙ (counts c.args.queue.now c.args.block.now c.requires.idle.roomy).0));
    }
