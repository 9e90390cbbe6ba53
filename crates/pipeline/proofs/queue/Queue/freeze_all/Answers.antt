use Rattle.std.proofs.Common.{◌+◌, ◌≤◌, cond, is_ok, length, sym, ap, ◌∙◌, arith}
use Rattle.pipeline.specs.Freezing.{asking, judged_all}
use Rattle.pipeline.specs.States.{states_of, marking}
use Rattle.pipeline.proofs.Queues.{room_parts, freeze_all_step, brought_unfrozen}
use Rattle.pipeline.proofs.queue.Queue.freeze_all.Goals as goal

pub returns : goal.returns
returns g c =
    let q = c.args.self.now in
    let block = c.args.block.now in
    let asks = asking g.F.Filter.says c.args.judge.now.filter.now in
    let parts = room_parts 0 q block (sym c.has_room.ensures ∙ c.if-not-has_room.false) in
    let fits : q.frozen + q.unfrozen + q.noted ≤ length block = omega (arith, parts.1) in
    let states = states_of c.args.states.now in
    record {
      block = freeze_all_step q block c.bring_in.new.block parts.0 fits c.bring_in.ensures asks c.freeze.result c.freeze.new.self c.freeze.new.block c.freeze.ensures.block;
      states = c.freeze.ensures.states
          ∙ ap (λ l. cond (is_ok c.freeze.result) (marking c.args.judge.now.kind c.args.judge.now.base (judged_all asks l) states) states) (brought_unfrozen q block c.bring_in.new.block parts.0 fits c.bring_in.ensures);
    }
