use Rattle.std.proofs.Common.{drop, sym, refl, ap, ◌∙◌, arith}
use Rattle.pipeline.proofs.Blank.{blank}
use Rattle.pipeline.proofs.Queues.{due_more, due_some, same_queued}
use Rattle.pipeline.proofs.queue.Queue.hand.Goals as goal

pub returns-then-has_due : goal.returns-then-has_due
returns-then-has_due c =
    let is = sym c.has_due.ensures ∙ c.if-has_due.true in
    let some = due_some c.args.self.now c.args.block.now is in
    record {
      holds = same_queued refl refl refl (sym (ap (drop 1) (due_more c.args.self.now c.args.block.now blank is)));
      roomy = λ r. record { held = r.held; front = omega (arith, some, r.front) };
    }
