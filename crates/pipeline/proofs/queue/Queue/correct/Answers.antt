use Rattle.std.proofs.Common.{◌≡◌, ◌-◌, false, take, sym, refl, ap, ◌∙◌, arith}
use Rattle.pipeline.specs.Block.{records, correct}
use Rattle.pipeline.specs.Correction.{corrected}
use Rattle.pipeline.proofs.Queues.{due_step, same_queued}
use Rattle.pipeline.proofs.queue.Queue.correct.Goals as goal

pub returns : goal.returns
returns c =
    let q = c.args.self.now in
    let block = c.args.block.now in
    let k = q.frozen - 0 in
    let all : k ≡ q.frozen = omega arith in
    due_step (correct c.args.kind) q c.make_due.new.self block c.correct_entries-count.new.entries (corrected c.args.kind false (take k block)) c.correct_entries-count.result k
    (sym c.can_hand.ensures ∙ c.if-not-can_hand.false) all c.correct_entries-count.auto.entries c.correct_entries-count.ensures.front c.correct_entries-count.ensures.count
    (same_queued refl refl refl (ap (λ n. records (corrected c.args.kind false (take n block))) (sym all))) c.make_due.ensures
