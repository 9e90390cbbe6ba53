use Rattle.std.proofs.Common.{◌≡◌, true, false, length, take, sym, ap, ◌∙◌, rules, arith, length-take-le}
use borrow.Author.Tests.{tests}
use Rattle.std.specs.Option.{unwrap_or}
use Rattle.std.proofs.lemmas.Iterator.{YieldsList-from_slice, IsFirst-from_position}
use Rattle.pipeline.specs.declared.batch.BufferedBatch.{BufferedBatch}
use Rattle.pipeline.specs.Held.{is_consumed}
use Rattle.pipeline.proofs.Ranges.{leaving_first}
use Rattle.pipeline.proofs.held.BufferedData.leaving.Goals as goal

pub returns-in-Some : goal.returns-in-Some
returns-in-Some c =
    let s = c.args.self.now in
    let held = take s.count s.batches in
    sym (leaving_first held c.position.result
    (IsFirst-from_position _ _ c.position.result (λ (b : BufferedBatch). is_consumed b ≡ false) (λ (b : BufferedBatch). is_consumed b ≡ true)
    c.position.ensures.ran (YieldsList-from_slice held cc) (λ x q k. search (rules, tests)) (λ x q k. search (rules, tests)))
    ∙ ap (λ r. unwrap_or r (length held)) c.in-Some.is)

pub returns-in-None : goal.returns-in-None
returns-in-None c =
    let s = c.args.self.now in
    let held = take s.count s.batches in
    let len : length held ≡ s.count = length-take-le s.count s.batches (omega arith) in
    sym len ∙ sym (leaving_first held c.position.result
    (IsFirst-from_position _ _ c.position.result (λ (b : BufferedBatch). is_consumed b ≡ false) (λ (b : BufferedBatch). is_consumed b ≡ true)
    c.position.ensures.ran (YieldsList-from_slice held cc) (λ x q k. search (rules, tests)) (λ x q k. search (rules, tests)))
    ∙ ap (λ r. unwrap_or r (length held)) c.in-None.is)
