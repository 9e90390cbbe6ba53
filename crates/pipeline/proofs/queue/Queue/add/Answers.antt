use Rattle.std.proofs.Common.{sym, ◌∙◌}
use Rattle.pipeline.proofs.Queues.{add_step}
use Rattle.pipeline.proofs.queue.Queue.add.Goals as goal

pub returns : goal.returns
returns c = add_step c.args.self.now c.args.block.now c.args.n (sym c.has_room.ensures ∙ c.if-not-has_room.false)
