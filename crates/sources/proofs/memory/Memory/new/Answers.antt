use Rattle.sources.proofs.Cuts.{cuts_every, cuts_only}
use Rattle.sources.proofs.memory.Memory.new.Goals as goal

pub returns-clause-cuts : goal.returns-clause-cuts
returns-clause-cuts g c = cuts_every c.args.every c.args.rows.now

pub returns-clause-only : goal.returns-clause-only
returns-clause-only g c = cuts_only c.args.every c.args.rows.now
