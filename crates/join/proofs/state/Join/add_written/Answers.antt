use Rattle.std.proofs.Common.{refl, arith}
use Rattle.pipeline.specs.States.{states_of}
use Rattle.join.specs.Shows.{with_block, setting_by}
use Rattle.machine.specs.Machine.{let_go}
use Rattle.pipeline.specs.Block.{queued, freeze_all}
use Rattle.join.specs.Settled.{defers, asked}
use Rattle.join.proofs.Settling.{settled_as, marked_as}
use Rattle.join.proofs.Writing.{adds_shown, freezes_shown}
use Rattle.join.proofs.state.Join.add_written.Goals as goal

pub returns-then-self : goal.returns-then-self
returns-then-self g c = record {
  does = λ within across m.
      let j = c.args.self.now in
      let after = c.freeze_everything.ensures in
      freezes_shown (setting_by j.limits g.F.Filter.says c.args.filter.now within across) j (with_block c.args.block.now m) refl c.args.count
      c.requires.ready.none_due (omega arith) c.if-self.true (states_of c.freeze_everything.new.states) (queued c.freeze_everything.new.queue c.freeze_everything.new.block)
      (marked_as g.F.Filter.says c.judge-judge.ensures after.states).marks (settled_as g.F.Filter.says c.judge-judge.ensures (λ judge q. let_go (defers judge) (freeze_all (asked g.F.Filter.says judge) q)) after.queue).holds;
  limits = refl;
}

pub returns-else-self : goal.returns-else-self
returns-else-self g c = record {
  does = λ within across m.
      let j = c.args.self.now in
      adds_shown (setting_by j.limits g.F.Filter.says c.args.filter.now within across) j (with_block c.args.block.now m) refl c.args.count
      c.requires.ready.none_due (omega arith) c.if-self.false;
  limits = refl;
}
