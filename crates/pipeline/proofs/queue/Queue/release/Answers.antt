use Rattle.std.proofs.Common.{◌≡◌, ◌-◌, take, sym, refl, ap, ◌∙◌, arith}
use Rattle.pipeline.specs.Block.{records, release}
use Rattle.pipeline.specs.Freezing.{passing}
use Rattle.pipeline.proofs.Queues.{due_step, same_queued}
use Rattle.pipeline.proofs.queue.Queue.release.Goals as goal

pub returns : goal.returns
returns c =
    let q = c.args.self.now in
    let block = c.args.block.now in
    let k = q.frozen - 0 in
    let all : k ≡ q.frozen = omega arith in
    due_step release q c.make_due.new.self block c.keep_passing-count.new.entries (passing (take k block)) c.keep_passing-count.result k
    (sym c.can_hand.ensures ∙ c.if-not-can_hand.false) all c.keep_passing-count.auto.entries c.keep_passing-count.ensures.front c.keep_passing-count.ensures.count
    (same_queued refl refl refl (ap (λ n. records (passing (take n block))) (sym all))) c.make_due.ensures
