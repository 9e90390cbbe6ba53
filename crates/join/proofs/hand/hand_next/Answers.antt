use Rattle.std.proofs.Common.{length, sym, ap, ◌∙◌}
use Rattle.pipeline.specs.Block.{Queued}
use Rattle.pipeline.proofs.Queues.{counts}
use Rattle.join.proofs.hand.hand_next.Goals as goal

pub returns : goal.returns
returns c =
    let holds = c.hand.ensures.holds in
    let room = c.hand.ensures.roomy c.requires in
    let n = counts c.args.queue.now c.args.block.now c.requires in
    let after = counts c.hand.new.self c.args.block.now room in
    record {
      queue = holds;
      roomy = room;
      numbers = (sym after.2 ∙ ap (λ (x : Queued). length x.frozen) holds ∙ n.2, (sym after.1 ∙ ap (λ (x : Queued). length x.unfrozen) holds ∙ n.1, sym after.0 ∙ ap (λ (x : Queued). length x.noted) holds ∙ n.0));
    }
