use Rattle.std.proofs.Common.{◌≡◌, ◌-◌, length, take, set, refl, ap, ◌∙◌, arith, length-take-le}
use Rattle.std.proofs.lemmas.List.{length-set}
use Rattle.std.proofs.lemmas.Result.{err_from_is_err_and}
use Rattle.pipeline.specs.Batches.{rows_of}
use Rattle.pipeline.specs.Held.{holding, extended, longer}
use Rattle.pipeline.proofs.Fronts.{set_same}
use Rattle.pipeline.proofs.Ranges.{with_batches, can_extend_yes, can_extend_no, last_changed, tail_end_is, rows_of_last}
use Rattle.pipeline.proofs.held.BufferedData.extend.Goals as goal

pub returns-in_err-extend : goal.returns-in_err-extend
returns-in_err-extend c =
    let s = c.args.self.now in
    let same : set s.batches (s.count - 1) c.extend.new.self ≡ s.batches = set_same s.batches (s.count - 1) _ c.extend.new.self c.in_err-extend.ensures.left in
    let refused = err_from_is_err_and c.from_residual.result c.from_residual.ensures.1 in
    rw refused.1 (record {
      answer = can_extend_no (holding s) c.args.more _ (tail_end_is s.batches s.count _ (omega arith) (omega arith)) c.in_err-extend.ensures.answer;
      left = ap (λ l. with_batches (holding s) (take s.count l)) same;
    })

pub invariant_of-self-2 : goal.invariant_of-self-2
invariant_of-self-2 c =
    let s = c.args.self.now in
    let made = last_changed (longer c.args.more) s.batches s.count _ c.extend.new.self (omega arith) (omega arith) c.in_ok-extend.ensures.left in
    record { room = length-set s.batches _ _ ∙ s.room; few = s.few; run = omega arith; within = omega arith; places = s.places; together = ap rows_of made ∙ rows_of_last (longer c.args.more) (λ b. refl) (take s.count s.batches) ∙ s.together }

pub returns : goal.returns
returns c =
    let s = c.args.self.now in
    let made = last_changed (longer c.args.more) s.batches s.count _ c.extend.new.self (omega arith) (omega arith) c.in_ok-extend.ensures.left in
    let len : length (take s.count s.batches) ≡ s.count = length-take-le s.count s.batches (omega arith) in
    record {
      answer = can_extend_yes (holding s) c.args.more _ (tail_end_is s.batches s.count _ (omega arith) (omega arith)) (omega arith) (omega arith) c.in_ok-extend.ensures.answer;
      left = ap (with_batches (extended c.args.more (holding s))) made;
    }
