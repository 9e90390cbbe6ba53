use Rattle.std.proofs.Common.{◌≡◌, ◌+◌, ◌-◌, take, drop, sym, refl, ap, ◌∙◌, arith}
use Rattle.pipeline.specs.Freezing.{asking, judged_all}
use Rattle.pipeline.specs.States.{states_of, marking}
use Rattle.pipeline.proofs.Queues.{freeze_step}
use Rattle.pipeline.proofs.queue.Queue.freeze.Goals as goal

pub returns : goal.returns
returns g c =
    let q = c.args.self.now in
    let block = c.args.block.now in
    let asks = asking g.F.Filter.says c.args.judge.now.filter.now in
    let k = q.frozen + q.unfrozen - q.frozen in
    let all : k ≡ q.unfrozen = omega arith in
    record {
      block = freeze_step asks q block _ c.freeze_entries.new.entries k (sym c.has_room.ensures ∙ c.if-not-has_room.false) all c.freeze_entries.ensures.entries refl;
      states = c.freeze_entries.ensures.states ∙ ap (λ n. marking c.args.judge.now.kind c.args.judge.now.base (judged_all asks (take n (drop q.frozen block))) (states_of c.args.states.now)) all;
    }
