use Rattle.std.proofs.Common.{is_ok, refl, ◌∙◌, arith}
use Rattle.pipeline.specs.Block.{queued}
use Rattle.join.specs.Settled.{asked}
use Rattle.join.proofs.Settling.{froze_now, idle_then, freeze_all_count, freeze_all_settles, settled_then, marked}
use Rattle.join.proofs.settle.freeze_everything.Goals as goal

pub let_frozen_go-requires : goal.let_frozen_go-requires
let_frozen_go-requires g c = record {
  idle = idle_then c.requires c.freeze_all.ensures.block refl;
  unfrozen = (froze_now c.requires c.freeze_all.ensures.block).unfrozen;
}

pub returns : goal.returns
returns g c =
    let m = froze_now c.requires c.freeze_all.ensures.block in
    let n = c.let_frozen_go.ensures.numbers in
    record {
      queue = settled_then (freeze_all_settles c.requires (asked g.F.Filter.says c.args.judge.now) c.freeze_all.ensures.block) c.let_frozen_go.ensures.queue;
      states = marked g.F.Filter.says c.args.judge.now (queued c.args.queue.now c.args.block.now) c.args.states.now c.freeze_all.new.states (is_ok c.freeze_all.result) m.answers c.freeze_all.ensures.states;
      numbers = (omega (arith, n.0, m.frozen, freeze_all_count c.requires (asked g.F.Filter.says c.args.judge.now)), (n.1.0, n.1.1 ∙ m.noted));
    }
