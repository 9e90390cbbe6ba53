use Rattle.std.proofs.Common.{◌≡◌, ◌-◌, ◌<◌, ◌≤◌, length, get_or, set, Some, None, sym, ap, ◌∙◌, arith}
use Rattle.pipeline.specs.States.{states_of, mark_verdict, mark_at}
use Rattle.pipeline.specs.Orient.{buffered_place}
use Rattle.pipeline.specs.Freezing.{asking, verdict_of, judged}
use Rattle.pipeline.proofs.Blank.{blank}
use Rattle.pipeline.proofs.Freezes.{with_verdict, judged_more, marking_more, some_of, none_of, judged_lone, judged_end, marking_end}
use Rattle.pipeline.proofs.freeze.freeze_entries.Goals as goal
use Rattle.pipeline.proofs.freeze.freeze_entries.Goals.{then-is_some, else-is_some}

pub loop-entry-preserved : goal.loop-entry-preserved
loop-entry-preserved g c =
    let asks = asking g.F.Filter.says c.args.judge.now.filter.now in
    let xs = c.loop-entry.entries in
    let i = c.loop-entry.entry-index in
    let e = get_or xs i blank in
    let here : i < length xs = omega arith in
    elim c.if-is_some.branch [
      | then-is_some w ↦
          let some = some_of e.row (sym c.is_some.ensures ∙ w.if-is_some.true) in
          let verdict : Some w.lets_through-yes.result ≡ (judged asks e).verdict = ap (λ t. Some t) w.lets_through-yes.ensures ∙ sym (ap (λ r. verdict_of r e.verdict (asks e.left e.right)) some.1) in
          let is : c.if-is_some.entries ≡ set xs i (judged asks e) = w.entries-is ∙ ap (λ v. set xs i (with_verdict v e)) verdict in
          let marks : states_of c.if-is_some.states ≡ mark_verdict e.row (judged asks e).verdict (buffered_place c.args.judge.now.kind e.«record» - c.args.judge.now.base) (states_of c.loop-entry.states) =
          ap states_of w.states-is ∙ w.mark.ensures
          ∙ ap (λ n. mark_at n w.lets_through-yes.result (states_of c.loop-entry.states)) (w.saturating_sub-row.ensures ∙ ap (λ p. p - c.args.judge.now.base) w.partner_place.ensures)
          ∙ ap (λ v. mark_verdict (Some some.0) v (buffered_place c.args.judge.now.kind e.«record» - c.args.judge.now.base) (states_of c.loop-entry.states)) verdict
          ∙ ap (λ r. mark_verdict r (judged asks e).verdict (buffered_place c.args.judge.now.kind e.«record» - c.args.judge.now.base) (states_of c.loop-entry.states)) (sym some.1) in (
            judged_more asks xs i blank here c.if-is_some.entries is _ c.loop-entry.invariant.0,
            marking_more asks xs i blank here c.if-is_some.entries is c.args.judge.now.kind c.args.judge.now.base _ _ _ marks c.loop-entry.invariant.1,
          )
      | else-is_some w ↦
          let none : e.row ≡ None = none_of e.row (sym c.is_some.ensures ∙ w.if-is_some.false) in
          let is : c.if-is_some.entries ≡ set xs i (judged asks e) = w.entries-is ∙ judged_lone asks xs i blank none in
          let marks : states_of c.if-is_some.states ≡ mark_verdict e.row (judged asks e).verdict (buffered_place c.args.judge.now.kind e.«record» - c.args.judge.now.base) (states_of c.loop-entry.states) =
          ap states_of w.states-is ∙ ap (λ r. mark_verdict r (judged asks e).verdict (buffered_place c.args.judge.now.kind e.«record» - c.args.judge.now.base) (states_of c.loop-entry.states)) (sym none) in (
            judged_more asks xs i blank here c.if-is_some.entries is _ c.loop-entry.invariant.0,
            marking_more asks xs i blank here c.if-is_some.entries is c.args.judge.now.kind c.args.judge.now.base _ _ _ marks c.loop-entry.invariant.1,
          )
    ]

pub returns : goal.returns
returns g c =
    let asks = asking g.F.Filter.says c.args.judge.now.filter.now in
    let past : length c.loop-entry.entries ≤ c.loop-entry.entry-index = omega arith in
    record {
      entries = judged_end asks c.loop-entry.entries c.loop-entry.entry-index _ past c.loop-entry.invariant.0;
      states = marking_end asks c.loop-entry.entries c.loop-entry.entry-index c.args.judge.now.kind c.args.judge.now.base _ _ past c.loop-entry.invariant.1;
    }
