use Rattle.std.proofs.Common.{◌≡◌, true, sym, refl, ◌∙◌, arith}
use Rattle.rows.specs.Sides.{is_outer}
use Rattle.pipeline.specs.Block.{queued, freeze_all}
use Rattle.pipeline.specs.States.{states_of}
use Rattle.pipeline.proofs.Queues.{counts}
use Rattle.machine.specs.Machine.{passing, let_go}
use Rattle.join.specs.Settled.{defers, asked}
use Rattle.join.specs.Shows.{streamed_of, buffered_of, counts_of, setting_by}
use Rattle.join.proofs.Settling.{settled_as, marked_as}
use Rattle.join.proofs.Turning.{freeze_fills, lone_pushed}
use Rattle.join.proofs.state.Join.note_row.Goals as goal

pub returns-then-self : goal.returns-then-self
returns-then-self g c =
    let j = c.args.self.now in
    let q = queued j.queue c.args.block.now in
    let q' = queued c.push_lone.new.queue c.push_lone.new.block in
    let lists : is_outer j.limits.kind ≡ true = sym c.lists_streamed.ensures ∙ c.if-not-lists_streamed.false in
    let says = g.F.Filter.says in
    record {
      does = λ within across m.
          let s = setting_by j.limits says c.args.filter.now within across in
          lone_pushed s (streamed_of j m) (buffered_of j m) q q' (counts_of j.counts) lists c.push_lone.ensures.queue
          ∙ freeze_fills s passing (streamed_of j m) (buffered_of j m) q' (counts_of j.counts) (omega (arith, (counts c.push_lone.new.queue c.push_lone.new.block c.push_lone.ensures.roomy).1, c.if-self.true))
          (states_of c.freeze_everything.new.states) (queued c.freeze_everything.new.queue c.freeze_everything.new.block)
          (marked_as says c.judge-judge.ensures c.freeze_everything.ensures.states).marks
          (settled_as says c.judge-judge.ensures (λ judge q. let_go (defers judge) (freeze_all (asked says judge) q)) c.freeze_everything.ensures.queue).holds;
      limits = refl;
    }
