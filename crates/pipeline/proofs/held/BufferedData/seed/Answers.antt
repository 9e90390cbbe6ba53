use Rattle.std.proofs.Common.{◌≡◌, ◌-◌, length, take, set, refl, ap, ◌∙◌, arith, length-take-le}
use Rattle.std.proofs.lemmas.List.{length-set}
use Rattle.std.proofs.lemmas.Result.{err_from_is_err_and}
use Rattle.pipeline.specs.Batches.{rows_of}
use Rattle.pipeline.specs.Held.{holding, seeded, begun}
use Rattle.pipeline.proofs.Fronts.{set_same}
use Rattle.pipeline.proofs.Ranges.{with_batches, can_seed_yes, can_seed_no, last_changed, tail_end_is, rows_of_last}
use Rattle.pipeline.proofs.held.BufferedData.seed.Goals as goal

pub returns-in_err-advance : goal.returns-in_err-advance
returns-in_err-advance c =
    let s = c.args.self.now in
    let same : set s.batches (s.count - 1) c.advance.new.self ≡ s.batches = set_same s.batches (s.count - 1) _ c.advance.new.self c.in_err-advance.ensures.left in
    let refused = err_from_is_err_and c.from_residual.result c.from_residual.ensures.1 in
    rw refused.1 (record {
      answer = can_seed_no (holding s) _ (tail_end_is s.batches s.count _ (omega arith) (omega arith)) c.in_err-advance.ensures.answer;
      left = ap (λ l. with_batches (holding s) (take s.count l)) same;
    })

pub invariant_of-self-2 : goal.invariant_of-self-2
invariant_of-self-2 c =
    let s = c.args.self.now in
    let made = last_changed begun s.batches s.count _ c.advance.new.self (omega arith) (omega arith) c.in_ok-advance.ensures.left in
    record { room = length-set s.batches _ _ ∙ s.room; few = s.few; run = omega arith; within = omega arith; places = s.places; together = ap rows_of made ∙ rows_of_last begun (λ b. refl) (take s.count s.batches) ∙ s.together }

pub returns : goal.returns
returns c =
    let s = c.args.self.now in
    let made = last_changed begun s.batches s.count _ c.advance.new.self (omega arith) (omega arith) c.in_ok-advance.ensures.left in
    let len : length (take s.count s.batches) ≡ s.count = length-take-le s.count s.batches (omega arith) in
    record {
      answer = can_seed_yes (holding s) _ (tail_end_is s.batches s.count _ (omega arith) (omega arith)) (omega arith) (omega arith) c.in_ok-advance.ensures.answer;
      left = ap (with_batches (seeded (holding s))) made;
    }
