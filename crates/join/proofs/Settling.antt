-- What the steps of the queue come to where they are possible, with the numbers that they leave.
use Rattle.std.proofs.Common.{◌≡◌, ℕ, ◌+◌, ◌≤◌, Bool, true, cond, eqb, Result, is_ok, List, ◌++◌, length, sym, refl, ap, ◌∙◌, subst, arith}
use Rattle.std.proofs.lemmas.List.{length-append, length-take-le}
use Rattle.std.proofs.lemmas.Bool.{and_from, eq-eqb}
use Rattle.rows.specs.declared.kind.Kind.{Kind}
use Rattle.rows.specs.declared.reading.Reading.{Reading}
use Rattle.filters.specs.declared.filter.Verdict.{Verdict}
use Rattle.pipeline.specs.declared.entry.Entry.{Entry}
use Rattle.pipeline.specs.declared.freeze.Judge.{Judge}
use Rattle.pipeline.specs.declared.queue.Queue.{Queue}
use Rattle.pipeline.specs.declared.refused.Refused.{Refused}
use Rattle.pipeline.specs.declared.states.States.{States}
use Rattle.pipeline.specs.Block.{Queued, Roomy, Step, queued, has_room, can_hand, freeze, freeze_all, release, correct}
use Rattle.pipeline.specs.Freezing.{judged_all}
use Rattle.pipeline.specs.States.{states_of, marking}
use Rattle.pipeline.proofs.Queues.{counts, room_from, length_judged}
use Rattle.machine.proofs.Entries.{length_marking}
use Rattle.join.specs.declared.state.Join.{Join}
use Rattle.join.specs.Settled.{Idle, Settled, Marked, asked}

-- what the queue and the block then hold, and the numbers by it
pub record Made (s : Queued) (answer : Result (Unit {0}) Refused) (q : Queue) (block : List Entry) : Type 0 where
  pub holds : queued q block ≡ s
  pub answers : is_ok answer ≡ true
  pub roomy : Roomy q block
  pub noted : q.noted ≡ length s.noted
  pub unfrozen : q.unfrozen ≡ length s.unfrozen
  pub frozen : q.frozen ≡ length s.frozen
  pub due : q.due ≡ length s.due

module _ {possible : Bool} {step : Queued → Queued} {q q' : Queue} {block block' : List Entry} {answer : Result (Unit {0}) Refused} (s : Step possible step q block answer q' block') (can : possible ≡ true) (room : Roomy q block) where
  pub made_by : Made (step (queued q block)) answer q' block'
  made_by =
      let is = s.made can in
      let n = counts q' block' (s.roomy room) in
      record {
        holds = is;
        answers = s.answers ∙ can;
        roomy = s.roomy room;
        noted = sym n.0 ∙ ap (λ (x : Queued). length x.noted) is;
        unfrozen = sym n.1 ∙ ap (λ (x : Queued). length x.unfrozen) is;
        frozen = sym n.2 ∙ ap (λ (x : Queued). length x.frozen) is;
        due = sym n.3 ∙ ap (λ (x : Queued). length x.due) is;
      }

  -- a step that leaves nothing unfrozen, and no more than was counted
  settled_by : length (step (queued q block)).unfrozen ≡ 0 → length (step (queued q block)).noted ≤ q.noted → length (step (queued q block)).frozen + length (step (queued q block)).noted ≤ q.frozen + q.unfrozen + q.noted → Settled step q block q' block'
  settled_by unfrozen noted counted =
      let m = made_by in
      record { holds = m.holds; roomy = m.roomy; unfrozen = m.unfrozen ∙ unfrozen; noted = omega (arith, m.noted, noted); counted = omega (arith, m.frozen, m.noted, counted) }

-- the block has room for what a join counts in it
pub roomy_of : {K : Type 0} (j : Join K) (block : List Entry) → length block ≡ j.limits.block → Roomy j.queue block
roomy_of j block long = record { held = omega (arith, j.room, j.limits.room, long); front = omega (arith, j.front, long) }

-- the numbers that a settled step leaves are those of what it made
pub settled_numbers : {step : Queued → Queued} {q q' : Queue} {block block' : List Entry} → Settled step q block q' block'
    → (q'.frozen ≡ length (step (queued q block)).frozen) × ((q'.unfrozen ≡ 0) × (q'.noted ≡ length (step (queued q block)).noted))
settled_numbers {step} {q} {q'} {block} {block'} s =
    let n = counts q' block' s.roomy in
    (sym n.2 ∙ ap (λ (x : Queued). length x.frozen) s.holds, (s.unfrozen, sym n.0 ∙ ap (λ (x : Queued). length x.noted) s.holds))

-- two steps, one after the other
pub settled_then : {f g : Queued → Queued} {q q' q'' : Queue} {block block' block'' : List Entry} → Settled f q block q' block' → Settled g q' block' q'' block'' → Settled (λ x. g (f x)) q block q'' block''
settled_then {f} {g} a b = record { holds = b.holds ∙ ap g a.holds; roomy = b.roomy; unfrozen = b.unfrozen; noted = omega (arith, a.noted, b.noted); counted = omega (arith, a.counted, a.unfrozen, b.counted) }

module _ {q : Queue} {block : List Entry} (idle : Idle q block) where
  abbrev held : Queued
  held = queued q block

  pub freezes_now : has_room 0 q block ≡ true
  freezes_now = room_from 0 q block idle.none_due (omega (arith, idle.roomy.held))

  pub hands_now : q.unfrozen ≡ 0 → can_hand q block ≡ true
  hands_now none = and_from (eqb q.unfrozen 0) (has_room 0 q block) (eq-eqb q.unfrozen 0 none) freezes_now

  module _ (asks : Reading → Reading → Bool) where
    -- how many are frozen then
    pub freeze_count : length (freeze asks held).frozen ≡ q.frozen + q.unfrozen
    freeze_count =
        let n = counts q block idle.roomy in
        omega (arith, n.1, n.2, length-append held.frozen (judged_all asks held.unfrozen), length_judged asks held.unfrozen)

    pub freeze_all_count : length (freeze_all asks held).frozen ≡ q.frozen + q.unfrozen + q.noted
    freeze_all_count =
        let n = counts q block idle.roomy in
        let judges = judged_all asks held.unfrozen in
        omega (arith, n.0, n.1, n.2, length-append held.frozen (held.noted ++ judges), length-append held.noted judges, length_judged asks held.unfrozen)

  module _ {q' : Queue} {block' : List Entry} {answer : Result (Unit {0}) Refused} where
    -- a freeze is possible now
    pub froze_now : {step : Queued → Queued} → Step (has_room 0 q block) step q block answer q' block' → Made (step held) answer q' block'
    froze_now s = made_by s freezes_now idle.roomy

    pub idle_then : {step : Queued → Queued} → Step (has_room 0 q block) step q block answer q' block' → (step held).due ≡ held.due → Idle q' block'
    idle_then s same = record { none_due = (froze_now s).due ∙ ap length same ∙ (counts q block idle.roomy).3 ∙ idle.none_due; roomy = s.roomy idle.roomy }

    module _ (asks : Reading → Reading → Bool) where
      pub freeze_settles : Step (has_room 0 q block) (freeze asks) q block answer q' block' → Settled (freeze asks) q block q' block'
      freeze_settles s =
          let n = counts q block idle.roomy in
          settled_by s freezes_now idle.roomy refl (omega (arith, n.0)) (omega (arith, n.0, freeze_count asks))

      pub freeze_all_settles : Step (has_room 0 q block) (freeze_all asks) q block answer q' block' → Settled (freeze_all asks) q block q' block'
      freeze_all_settles s = settled_by s freezes_now idle.roomy refl (omega arith) (omega (arith, freeze_all_count asks))

    -- what is frozen is handed over, where nothing is unfrozen
    pub release_settles : q.unfrozen ≡ 0 → Step (can_hand q block) release q block answer q' block' → Settled release q block q' block'
    release_settles none s =
        let n = counts q block idle.roomy in
        settled_by s (hands_now none) idle.roomy (n.1 ∙ none) (omega (arith, n.0)) (omega (arith, n.0))

    pub correct_settles : q.unfrozen ≡ 0 → (kind : Kind) → Step (can_hand q block) (correct kind) q block answer q' block' → Settled (correct kind) q block q' block'
    correct_settles none kind s =
        let n = counts q block idle.roomy in
        settled_by s (hands_now none) idle.roomy (n.1 ∙ none) (omega (arith, n.0)) (omega (arith, n.0))

states_long : (s : States) → length (states_of s) ≡ s.len
states_long s = length-take-le s.len s.cells (omega (arith, s.room, s.few))

-- the states after a freeze that was made: the verdicts count, and no number of states changes
pub states_marked : (kind : Kind) (asks : Reading → Reading → Bool) (base : ℕ) (es : List Entry) (s s' : States) (made : Bool) → made ≡ true
    → states_of s' ≡ cond made (marking kind base es (states_of s)) (states_of s)
    → (states_of s' ≡ marking kind base es (states_of s)) × (s'.len ≡ s.len)
states_marked kind asks base es s s' made can is =
    let marks = is ∙ ap (λ (b : Bool). cond b (marking kind base es (states_of s)) (states_of s)) can in
    (marks, sym (states_long s') ∙ ap length marks ∙ length_marking kind asks base es (states_of s) ∙ states_long s)

-- the same with the verdicts of a judge
pub marked : {F : Type 0} (says : F → Reading → Reading → Verdict) (judge : Judge F) (q : Queued) (s s' : States) (made : Bool) → made ≡ true
    → states_of s' ≡ cond made (marking judge.kind judge.base (judged_all (asked says judge) q.unfrozen) (states_of s)) (states_of s) → Marked says judge q s s'
marked says judge q s s' made can is =
    let m = states_marked judge.kind (asked says judge) judge.base (judged_all (asked says judge) q.unfrozen) s s' made can is in
    record { marks = m.0; long = m.1 }

-- what a judge does, another of the same parts does
module _ {F : Type 0} (says : F → Reading → Reading → Verdict) {judge judge' : Judge F} (same : judge ≡ judge') where
  pub settled_as : {q q' : Queue} {block block' : List Entry} (step : Judge F → Queued → Queued) → Settled (step judge) q block q' block' → Settled (step judge') q block q' block'
  settled_as {q} {q'} {block} {block'} step s = subst (λ (x : Judge F). Settled (step x) q block q' block') same s

  pub marked_as : {q : Queued} {s s' : States} → Marked says judge q s s' → Marked says judge' q s s'
  marked_as {q} {s} {s'} m = subst (λ (x : Judge F). Marked says x q s s') same m
