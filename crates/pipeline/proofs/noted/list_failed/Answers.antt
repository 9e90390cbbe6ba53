use Rattle.std.proofs.Common.{◌≡◌, ◌<◌, length, take, drop, sym, ap, ◌∙◌, arith}
use Rattle.std.proofs.lemmas.List.{length-set}
use Rattle.pipeline.specs.Entries.{lone}
use Rattle.pipeline.specs.States.{states_of, state_at}
use Rattle.pipeline.specs.Block.{all_failed}
use Rattle.pipeline.proofs.FailedRows.{state_in_batch, failed_write, failed_skip}
use Rattle.pipeline.proofs.noted.list_failed.Goals as goal
use Rattle.pipeline.proofs.noted.list_failed.Goals.{then-is_failed, else-is_failed}

pub loop-i-preserved : goal.loop-i-preserved
loop-i-preserved c =
    let kind = c.args.kind in
    let j = c.args.batch.first in
    let i = c.loop-i.i in
    let rows = take c.args.batch.rows (drop c.args.batch.from (states_of c.args.states.now)) in
    let state : c.is_failed.result ≡ all_failed (state_at i rows) =
    c.is_failed.ensures ∙ ap all_failed (c.get.ensures ∙ state_in_batch (states_of c.args.states.now) c.args.batch.from c.args.batch.rows i c.loop-i-test.true) in
    let inside : c.loop-i.count < length c.loop-i.out = omega (arith, c.if-count-out.false, c.loop-i.invariant.1) in
    elim c.if-is_failed.branch [
      | then-is_failed w ↦ rw (w.out-is, w.count-is) (
        failed_write kind j i rows c.loop-i.out c.loop-i.count c.loop-i.invariant.0 w.lone.result (w.lone.ensures ∙ ap lone w.buffered_record.ensures) (sym state ∙ w.if-is_failed.true) inside,
        omega (arith, length-set c.loop-i.out c.loop-i.count w.lone.result),
      )
      | else-is_failed w ↦ rw (w.out-is, w.count-is)
          (failed_skip kind j i rows c.loop-i.out c.loop-i.count c.loop-i.invariant.0 (sym state ∙ w.if-is_failed.false), c.loop-i.invariant.1)
    ]
