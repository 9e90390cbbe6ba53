use Rattle.std.proofs.lemmas.Bool.{and_from}
use Rattle.join.specs.Shows.{with_block, setting_by}
use Rattle.join.proofs.Turning.{close_flushes}
use Rattle.join.proofs.state.Join.close.Goals as goal

pub returns-then-self-2-clause-does : goal.returns-then-self-2-clause-does
returns-then-self-2-clause-does g c = λ within across m.
    close_flushes (setting_by c.args.self.now.limits g.F.Filter.says c.args.filter.now within across) c.args.self.now (with_block c.args.block.now m) c.args.first _ c.requires.phase (and_from _ _ c.if-self.true c.if-self-2.true) (c.flush.ensures.does within across m)
