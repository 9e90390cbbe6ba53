use Rattle.std.proofs.Common.{is_ok, refl, ◌∙◌, arith}
use Rattle.pipeline.specs.Block.{queued}
use Rattle.pipeline.proofs.Queues.{counts}
use Rattle.join.specs.Settled.{asked}
use Rattle.join.proofs.Settling.{froze_now, idle_then, freeze_count, freeze_settles, settled_then, marked}
use Rattle.join.proofs.settle.freeze_unfrozen.Goals as goal

pub let_frozen_go-requires : goal.let_frozen_go-requires
let_frozen_go-requires g c = record {
  idle = idle_then c.requires c.freeze.ensures.block refl;
  unfrozen = (froze_now c.requires c.freeze.ensures.block).unfrozen;
}

pub returns : goal.returns
returns g c =
    let m = froze_now c.requires c.freeze.ensures.block in
    let n = c.let_frozen_go.ensures.numbers in
    record {
      queue = settled_then (freeze_settles c.requires (asked g.F.Filter.says c.args.judge.now) c.freeze.ensures.block) c.let_frozen_go.ensures.queue;
      states = marked g.F.Filter.says c.args.judge.now (queued c.args.queue.now c.args.block.now) c.args.states.now c.freeze.new.states (is_ok c.freeze.result) m.answers c.freeze.ensures.states;
      numbers = (omega (arith, n.0, m.frozen, freeze_count c.requires (asked g.F.Filter.says c.args.judge.now)), (n.1.0, n.1.1 ∙ m.noted ∙ (counts c.args.queue.now c.args.block.now c.requires.roomy).0));
    }
