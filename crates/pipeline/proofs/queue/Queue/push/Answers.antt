use Rattle.std.proofs.Common.{sym, ◌∙◌}
use Rattle.pipeline.proofs.Queues.{push_step}
use Rattle.pipeline.proofs.queue.Queue.push.Goals as goal

pub returns : goal.returns
returns c = push_step c.args.self.now c.args.block.now c.args.entry (sym c.has_room.ensures ∙ c.if-not-has_room.false)
