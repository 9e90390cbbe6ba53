use Rattle.std.proofs.Common.{◌≡◌, true, false, length, sym, ap, ◌∙◌, rules}
use borrow.Author.Tests.{tests}
use Rattle.std.specs.Option.{unwrap_or}
use Rattle.std.specs.Ordering.{is_ne}
use Rattle.std.proofs.lemmas.Iterator.{YieldsList-from_slice, IsFirst-from_position}
use Rattle.pipeline.proofs.Sameness.{run_first, read}
use Rattle.pipeline.proofs.run.same_from.Goals as goal

pub returns-in-Some : goal.returns-in-Some
returns-in-Some g c =
    let within = g.O.KeyOrder.within c.args.order.now in
    let key = c.args.key.now in
    let rows = c.args.rows.now in
    let all = read within key rows _ (sym (run_first within key rows c.position.result
    (IsFirst-from_position _ _ c.position.result (λ x. is_ne (within key x.key) ≡ true) (λ x. is_ne (within key x.key) ≡ false)
    c.position.ensures.ran (YieldsList-from_slice rows cc) (λ x q k. search (rules, tests)) (λ x q k. search (rules, tests)))
    ∙ ap (λ r. unwrap_or r (length rows)) c.in-Some.is)) in
    record { value = all.value; same = all.same; longest = all.longest; onward = all.onward }

pub returns-in-None : goal.returns-in-None
returns-in-None g c =
    let within = g.O.KeyOrder.within c.args.order.now in
    let key = c.args.key.now in
    let rows = c.args.rows.now in
    let all = read within key rows _ (sym (run_first within key rows c.position.result
    (IsFirst-from_position _ _ c.position.result (λ x. is_ne (within key x.key) ≡ true) (λ x. is_ne (within key x.key) ≡ false)
    c.position.ensures.ran (YieldsList-from_slice rows cc) (λ x q k. search (rules, tests)) (λ x q k. search (rules, tests)))
    ∙ ap (λ r. unwrap_or r (length rows)) c.in-None.is)) in
    record { value = all.value; same = all.same; longest = all.longest; onward = all.onward }
