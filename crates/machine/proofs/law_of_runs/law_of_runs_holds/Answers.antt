use Rattle.machine.proofs.Words.{law_of_runs}
use Rattle.machine.proofs.law_of_runs.law_of_runs_holds.Goals as goal

pub returns : goal.returns
returns g c = law_of_runs _ _ (g.O.KeyOrder.lawful c.args.order.now) g.T.Sink.fitting g.T.Sink.after
