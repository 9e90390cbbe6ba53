use Rattle.std.proofs.Common.{◌≡◌, ◌+◌, ◌-◌, true, cond, ◌&&◌, eqb, leb, take, drop, sym, ap, ◌∙◌, arith}
use Rattle.pipeline.specs.States.{states_of}
use Rattle.pipeline.specs.Block.{has_room, can_leave, places}
use Rattle.pipeline.proofs.Queues.{leave_step}
use Rattle.pipeline.proofs.queue.Queue.leave.Goals as goal

pub returns : goal.returns
returns c =
    let q = c.args.self.now in
    let block = c.args.block.now in
    let full = c.args.full in
    let j = c.args.batch.first in
    let n = c.args.batch.rows in
    let keep = c.args.batch.keep in
    let out = c.saturating_sub-out.result in
    let most = c.most_failed-most.result in
    let is_out : out ≡ q.noted - keep = c.saturating_sub-out.ensures in
    let is_most : most ≡ cond full (n - out) 0 = c.most_failed-most.ensures in
    let can : can_leave full j n keep q block ≡ true =
    ap (λ m. eqb q.unfrozen 0 && (leb (j + n) places && has_room m q block)) (sym (is_most ∙ ap (λ m. cond full (n - m) 0) is_out))
    ∙ sym c.can_leave.ensures ∙ c.if-not-can_leave.false in
    leave_step c.args.kind full j n keep (take n (drop c.args.batch.from (states_of c.args.states.now))) q block c.bring_oldest.new.block c.list_failed-failed.new.out
    out most (q.frozen + out + most - (q.frozen + out)) c.list_failed-failed.result can is_out is_most (omega arith) c.bring_oldest.auto.block
    c.bring_oldest.ensures.front c.bring_oldest.ensures.back c.list_failed-failed.auto.out c.list_failed-failed.ensures.fits c.list_failed-failed.ensures.front
