-- The numbers of the queue over the block, and what they show.
use Rattle.std.proofs.Common.{◌≡◌, ℕ, zero, suc, ◌+◌, ◌-◌, ◌<◌, ◌≤◌, Bool, true, false, cond, ◌&&◌, eqb, ltb, leb, List, [], ◌∷◌, ◌++◌, reverse, length, get_or, take, drop, set, sym, refl, ap, ◌∙◌, subst, ⊎_elim, Result, Ok, append_assoc, arith, take-add}
use borrow.Rule.Slice.PartMut.{put_mid, same_len_mid}
use Rattle.std.proofs.lemmas.List.{length-set, length-take, length-take-le, length-drop, length-append, length-reverse, take-take, drop-take, drop-drop, drop-set-lt, drop-set-add, drop-set, take-set-le, take_more_set, take-append-le, take_at, drop_at, reverse-append, reverse-reverse, drop_more, drop_all}
use Rattle.std.proofs.lemmas.Slice.{take-put_mid, take-put_mid_below, drop-put_mid}
use Rattle.std.proofs.lemmas.Bool.{and_parts, and_cases, ltb-true, ltb-false, and_from, eqb-true, leb-true, eq-eqb, le-leb, true≢false}
use Rattle.rows.specs.declared.kind.Kind.{Kind}
use Rattle.rows.specs.declared.reading.Reading.{Reading}
use Rattle.rows.specs.declared.record.Record.{Record}
use Rattle.pipeline.specs.declared.entry.Entry.{Entry}
use Rattle.pipeline.specs.declared.queue.Queue.{Queue}
use Rattle.pipeline.specs.declared.refused.Refused.{Refused}
use Rattle.pipeline.specs.Entries.{lone}
use Rattle.pipeline.specs.Orient.{buffered_alone}
use Rattle.pipeline.specs.declared.states.FilterState.{FilterState}
use Rattle.pipeline.specs.States.{failed}
use Rattle.pipeline.specs.Freezing.{judged_all}
use Rattle.pipeline.specs.Block.{Queued, Roomy, Step, records, queued, has_room, pushed, freeze, freeze_all, lone_rows, noting, leave, can_leave, places}

-- two contents are the same where their parts are
pub same_queued : {n n' u u' f f' : List Entry} {d d' : List Record} → n ≡ n' → u ≡ u' → f ≡ f' → d ≡ d'
    → ◌≡◌ {A = Queued} (record { noted = n; unfrozen = u; frozen = f; due = d }) (record { noted = n'; unfrozen = u'; frozen = f'; due = d' })
same_queued {n} {n'} {u} {u'} {f} {f'} {d} {d'} en eu ef ed =
    ap (λ x. make x u f d) en ∙ ap (λ x. make n' x f d) eu ∙ ap (λ x. make n' u' x d) ef ∙ ap (λ x. make n' u' f' x) ed
  where
    make : List Entry → List Entry → List Entry → List Record → Queued
    make n u f d = record { noted = n; unfrozen = u; frozen = f; due = d }

-- a step that is made
pub done : {possible : Bool} {step : Queued → Queued} {q q' : Queue} {block block' : List Entry} → possible ≡ true
    → queued q' block' ≡ step (queued q block) → (Roomy q block → Roomy q' block') → Step possible step q block (Ok tt) q' block'
done can holds room = record {
  answers = sym can;
  made = λ _. holds;
  stays = λ not. absurd (true≢false (sym can ∙ not));
  roomy = room;
}

-- what the test for room tells, and what it asks
pub room_parts : (n : ℕ) (q : Queue) (block : List Entry) → has_room n q block ≡ true → (q.due ≡ 0) × (q.frozen + q.unfrozen + q.noted + n ≤ length block)
room_parts n q block room =
    let both = and_parts (eqb q.due 0) (leb (q.frozen + q.unfrozen + q.noted + n) (length block)) room in
    (eqb-true q.due 0 both.0, leb-true (q.frozen + q.unfrozen + q.noted + n) (length block) both.1)

pub room_from : (n : ℕ) (q : Queue) (block : List Entry) → q.due ≡ 0 → q.frozen + q.unfrozen + q.noted + n ≤ length block → has_room n q block ≡ true
room_from n q block none fits =
    and_from (eqb q.due 0) (leb (q.frozen + q.unfrozen + q.noted + n) (length block)) (eq-eqb q.due 0 none) (le-leb (q.frozen + q.unfrozen + q.noted + n) (length block) fits)

pub none_due : {n : ℕ} (l : List Entry) → n ≡ 0 → records (take n l) ≡ []
none_due l none = ap (λ n. records (take n l)) none

-- the part of a list that another list with the same front has too
pub inner_same : {X : Type 0} (f u n : ℕ) (xs ys : List X) → f + u ≤ n → take n ys ≡ take n xs → take u (drop f ys) ≡ take u (drop f xs)
inner_same f u n xs ys fits same =
    sym (drop-take f u ys) ∙ ap (drop f) (sym (take-take (f + u) n ys fits) ∙ ap (take (f + u)) same ∙ take-take (f + u) n xs fits) ∙ drop-take f u xs

pub front_same : {X : Type 0} (f n : ℕ) (xs ys : List X) → f ≤ n → take n ys ≡ take n xs → take f ys ≡ take f xs
front_same f n xs ys fits same = sym (take-take f n ys fits) ∙ ap (take f) same ∙ take-take f n xs fits

length_records : (es : List Entry) → length (records es) ≡ length es
length_records [] = refl
length_records (e ∷ es) = ap suc (length_records es)

-- the numbers are those of what they show
pub counts : (q : Queue) (block : List Entry) → Roomy q block
    → (length (queued q block).noted ≡ q.noted) × (length (queued q block).unfrozen ≡ q.unfrozen) × (length (queued q block).frozen ≡ q.frozen) × (length (queued q block).due ≡ q.due)
counts q block room = (
  length-reverse (drop (length block - q.noted) block) ∙ omega (arith, length-drop (length block - q.noted) block, room.held),
  length-take-le q.unfrozen (drop q.frozen block) (omega (arith, length-drop q.frozen block, room.held)),
  length-take-le q.frozen block (omega (arith, room.held)),
  length_records (take q.due (drop q.next block)) ∙ length-take-le q.due (drop q.next block) (omega (arith, length-drop q.next block, room.front)),
)

-- what is written between the unfrozen and the noted changes nothing
pub gap_free : (q : Queue) (block block' : List Entry) → q.due ≡ 0 → length block' ≡ length block
    → take (q.frozen + q.unfrozen) block' ≡ take (q.frozen + q.unfrozen) block
    → drop (length block - q.noted) block' ≡ drop (length block - q.noted) block → queued q block' ≡ queued q block
gap_free q block block' none long front back = same_queued
    (ap reverse (ap (λ n. drop (n - q.noted) block') long ∙ back))
    (inner_same q.frozen q.unfrozen (q.frozen + q.unfrozen) block block' (omega arith) front)
    (front_same q.frozen (q.frozen + q.unfrozen) block block' (omega arith) front)
    (none_due (drop q.next block') none ∙ sym (none_due (drop q.next block) none))

pub put_length : {X : Type 0} (at k : ℕ) (xs ys : List X) → length ys ≡ k → at + k ≤ length xs → length (put_mid at k xs ys) ≡ length xs
put_length at k xs ys long fits =
    let inside : k ≤ length (drop at xs) = omega (arith, length-drop at xs) in
    same_len_mid at k xs ys (long ∙ sym (length-take-le k (drop at xs) inside))

-- the same for a write to a part of the block
pub gap_write : (q : Queue) (block ys : List Entry) (at k : ℕ) → q.due ≡ 0 → length ys ≡ k
    → q.frozen + q.unfrozen ≤ at → at + k + q.noted ≤ length block → queued q (put_mid at k block ys) ≡ queued q block
gap_write q block ys at k none long from to =
    gap_free q block (put_mid at k block ys) none (put_length at k block ys long (omega arith))
    (take-put_mid_below at k block ys (q.frozen + q.unfrozen) from (omega arith))
    (drop-put_mid at k block ys (length block - q.noted) (omega arith) (omega arith) long)

module _ (q : Queue) (block : List Entry) where
  -- one entry is written behind the unfrozen
  pub push_step : (e : Entry) → has_room 1 q block ≡ true
      → Step (has_room 1 q block) (pushed (e ∷ [])) q block (Ok tt)
      (record { next = q.next; due = q.due; frozen = q.frozen; unfrozen = q.unfrozen + 1; noted = q.noted }) (set block (q.frozen + q.unfrozen) e)
  push_step e room =
      let at = q.frozen + q.unfrozen in
      let parts = room_parts 1 q block room in
      let none = parts.0 in
      let fits : q.frozen + q.unfrozen + q.noted + 1 ≤ length block = parts.1 in
      let long = length-set block at e in
      let inside : q.unfrozen < length (drop q.frozen block) = omega (arith, length-drop q.frozen block) in
      done room (same_queued
      (ap reverse (ap (λ n. drop (n - q.noted) (set block at e)) long ∙ drop-set-lt (length block - q.noted) block at e (omega arith)))
      (ap (take (q.unfrozen + 1)) (drop-set-add q.frozen block q.unfrozen e) ∙ take_more_set (drop q.frozen block) q.unfrozen e inside)
      (take-set-le q.frozen block at e (omega arith))
      (none_due (drop q.next (set block at e)) none ∙ sym (none_due (drop q.next block) none)))
      (λ r. record { held = omega arith; front = omega arith })

  -- n entries behind the unfrozen become unfrozen
  pub add_step : (n : ℕ) → has_room n q block ≡ true
      → Step (has_room n q block) (pushed (take n (drop (q.frozen + q.unfrozen) block))) q block (Ok tt)
      (record { next = q.next; due = q.due; frozen = q.frozen; unfrozen = q.unfrozen + n; noted = q.noted }) block
  add_step n room =
      let fits = (room_parts n q block room).1 in
      done room (same_queued refl
      (take-add q.unfrozen n (drop q.frozen block) ∙ ap (λ l. take q.unfrozen (drop q.frozen block) ++ take n l) (drop-drop q.unfrozen q.frozen block))
      refl refl)
      (λ r. record { held = omega (arith, fits); front = r.front })

none_taken : (n : ℕ) → records (take n []) ≡ []
none_taken zero = refl
none_taken (suc n) = refl

module _ (q : Queue) (block : List Entry) where
  -- the due records, one by one
  pub due_more : (d : Entry) → (ltb 0 q.due && ltb q.next (length block)) ≡ true
      → (queued q block).due ≡ (get_or block q.next d).«record» ∷ records (take (q.due - 1) (drop (q.next + 1) block))
  due_more d is =
      let both = and_parts (ltb 0 q.due) (ltb q.next (length block)) is in
      let some = ltb-true 0 q.due both.0 in
      let more : q.due ≡ suc (q.due - 1) = omega arith in
      ap (λ l. records (take q.due l)) (drop_more block q.next d (ltb-true q.next (length block) both.1))
      ∙ ap (λ n. records (take n (get_or block q.next d ∷ drop (q.next + 1) block))) more

  pub due_some : (ltb 0 q.due && ltb q.next (length block)) ≡ true → 0 < q.due
  due_some is = ltb-true 0 q.due (and_parts (ltb 0 q.due) (ltb q.next (length block)) is).0

  pub due_none : (ltb 0 q.due && ltb q.next (length block)) ≡ false → (queued q block).due ≡ []
  due_none not = ⊎_elim
      (λ none. ap (λ n. records (take n (drop q.next block))) (zero_of q.due (ltb-false 0 q.due none)))
      (λ past. ap (λ l. records (take q.due l)) (drop_all q.next block (ltb-false q.next (length block) past)) ∙ none_taken q.due)
      (and_cases (ltb 0 q.due) (ltb q.next (length block)) not)
    where
      zero_of : (n : ℕ) → n ≤ 0 → n ≡ 0
      zero_of n h = omega arith

-- what is left of the frozen, in front, becomes due
pub due_step : (step : Queued → Queued) (q q' : Queue) (block ys left : List Entry) (r k : ℕ)
    → (eqb q.unfrozen 0 && has_room 0 q block) ≡ true → k ≡ q.frozen → length ys ≡ length (take k block) → take r ys ≡ left → r ≡ length left
    → step (queued q block) ≡ record { noted = (queued q block).noted; unfrozen = (queued q block).unfrozen; frozen = []; due = records left }
    → q' ≡ record { next = 0; due = r; frozen = 0; unfrozen = q.unfrozen; noted = q.noted }
    → Step (eqb q.unfrozen 0 && has_room 0 q block) step q block (Ok tt) q' (put_mid 0 k block ys)
due_step step q q' block ys left r k can all same front count is numbers =
    let both = and_parts (eqb q.unfrozen 0) (has_room 0 q block) can in
    let none = eqb-true q.unfrozen 0 both.0 in
    let fits = (room_parts 0 q block both.1).1 in
    let block' = put_mid 0 k block ys in
    let many : length ys ≡ k = same ∙ length-take-le k block (omega (arith, fits)) in
    let long : length block' ≡ length block = put_length 0 k block ys many (omega (arith, fits)) in
    let fewer : r ≤ length ys = omega (arith, count, ap length front, length-take r ys) in
    let q₁ : Queue = record { next = 0; due = r; frozen = 0; unfrozen = q.unfrozen; noted = q.noted } in
    let holds : queued q₁ block' ≡ step (queued q block) =
    same_queued
    (ap reverse (ap (λ n. drop (n - q.noted) block') long ∙ drop-put_mid 0 k block ys (length block - q.noted) (omega (arith, fits)) (omega arith) many))
    (ap (λ n. take n block') none ∙ sym (ap (λ n. take n (drop q.frozen block)) none))
    refl
    (ap records (take-append-le r ys (drop k block) fewer ∙ front)) ∙ sym is in
    done can
    (ap (λ x. queued x block') numbers ∙ holds)
    (λ room. let room₁ : Roomy q₁ block' = record { held = omega (arith, fits); front = omega arith } in subst (λ x. Roomy x block') (sym numbers) room₁)

pub length_judged : (asks : Reading → Reading → Bool) (es : List Entry) → length (judged_all asks es) ≡ length es
length_judged asks [] = refl
length_judged asks (e ∷ es) = ap suc (length_judged asks es)

-- the unfrozen, judged, stand in their place
pub freeze_step : (asks : Reading → Reading → Bool) (q : Queue) (block block' ys : List Entry) (k : ℕ) → has_room 0 q block ≡ true → k ≡ q.unfrozen
    → ys ≡ judged_all asks (take k (drop q.frozen block)) → block' ≡ put_mid q.frozen k block ys
    → Step (has_room 0 q block) (freeze asks) q block (Ok tt) (record { next = q.next; due = q.due; frozen = q.frozen + q.unfrozen; unfrozen = 0; noted = q.noted }) block'
freeze_step asks q block block' ys k room all made is =
    let parts = room_parts 0 q block room in
    let none = parts.0 in
    let fits = parts.1 in
    let judges : ys ≡ judged_all asks (take q.unfrozen (drop q.frozen block)) = made ∙ ap (λ n. judged_all asks (take n (drop q.frozen block))) all in
    let inside : q.unfrozen ≤ length (drop q.frozen block) = omega (arith, length-drop q.frozen block, fits) in
    let many : length ys ≡ k = ap length judges ∙ length_judged asks (take q.unfrozen (drop q.frozen block)) ∙ length-take-le q.unfrozen (drop q.frozen block) inside ∙ sym all in
    let long : length block' ≡ length block = ap length is ∙ put_length q.frozen k block ys many (omega (arith, fits)) in
    done room (same_queued
    (ap reverse (ap (λ n. drop (n - q.noted) block') long ∙ ap (drop (length block - q.noted)) is
    ∙ drop-put_mid q.frozen k block ys (length block - q.noted) (omega (arith, fits)) (omega (arith, fits)) many))
    refl
    (ap (take (q.frozen + q.unfrozen)) is ∙ take-put_mid q.frozen k block ys (q.frozen + q.unfrozen) (omega arith) (omega (arith, fits))
    ∙ ap (λ l. take q.frozen block ++ l) judges)
    (none_due (drop q.next block') none ∙ sym (none_due (drop q.next block) none)))
    (λ r. record { held = omega (arith, fits); front = omega arith })

-- Freezing all: the noted were brought in before the unfrozen, and then the unfrozen freeze.
module _ (q : Queue) (block block' : List Entry) (none : q.due ≡ 0) (fits : q.frozen + q.unfrozen + q.noted ≤ length block)
    (is : block' ≡ take q.frozen block ++ (reverse (drop (length block - q.noted) block) ++ (take q.unfrozen (drop q.frozen block) ++ drop (q.frozen + q.unfrozen + q.noted) block))) where
  abbrev brought : Queue
  brought = record { next = q.next; due = q.due; frozen = q.frozen + q.noted; unfrozen = q.unfrozen; noted = 0 }

  abbrev frozen_part : List Entry
  frozen_part = take q.frozen block

  abbrev noted_part : List Entry
  noted_part = reverse (drop (length block - q.noted) block)

  abbrev unfrozen_part : List Entry
  unfrozen_part = take q.unfrozen (drop q.frozen block)

  abbrev rest_part : List Entry
  rest_part = drop (q.frozen + q.unfrozen + q.noted) block

  long_a : length frozen_part ≡ q.frozen
  long_a = length-take-le q.frozen block (omega arith)

  long_n : length noted_part ≡ q.noted
  long_n = length-reverse (drop (length block - q.noted) block) ∙ omega (arith, length-drop (length block - q.noted) block)

  long_u : length unfrozen_part ≡ q.unfrozen
  long_u = length-take-le q.unfrozen (drop q.frozen block) (omega (arith, length-drop q.frozen block))

  long_an : length (frozen_part ++ noted_part) ≡ q.frozen + q.noted
  long_an = length-append frozen_part noted_part ∙ omega (arith, long_a, long_n)

  split : block' ≡ (frozen_part ++ noted_part) ++ (unfrozen_part ++ rest_part)
  split = is ∙ sym (append_assoc frozen_part noted_part (unfrozen_part ++ rest_part))

  pub brought_long : length block' ≡ length block
  brought_long = ap length split ∙ length-append (frozen_part ++ noted_part) (unfrozen_part ++ rest_part) ∙ omega (arith, long_an, length-append unfrozen_part rest_part, long_u, length-drop (q.frozen + q.unfrozen + q.noted) block)

  pub brought_unfrozen : take q.unfrozen (drop (q.frozen + q.noted) block') ≡ unfrozen_part
  brought_unfrozen =
      ap (λ l. take q.unfrozen (drop (q.frozen + q.noted) l)) split
      ∙ ap (take q.unfrozen) (drop_at (frozen_part ++ noted_part) (unfrozen_part ++ rest_part) (q.frozen + q.noted) long_an) ∙ take_at unfrozen_part rest_part q.unfrozen long_u

  brought_queued : queued brought block' ≡ record { noted = []; unfrozen = unfrozen_part; frozen = frozen_part ++ noted_part; due = [] }
  brought_queued = same_queued
      (ap reverse (drop_all (length block' - 0) block' (omega arith)))
      brought_unfrozen
      (ap (take (q.frozen + q.noted)) split ∙ take_at (frozen_part ++ noted_part) (unfrozen_part ++ rest_part) (q.frozen + q.noted) long_an)
      (none_due (drop q.next block') none)

  pub freeze_all_step : (asks : Reading → Reading → Bool) (r : Result (Unit {0}) Refused) (q₂ : Queue) (block₂ : List Entry)
      → Step (has_room 0 brought block') (freeze asks) brought block' r q₂ block₂ → Step (has_room 0 q block) (freeze_all asks) q block r q₂ block₂
  freeze_all_step asks r q₂ block₂ step =
      let can : has_room 0 q block ≡ true = room_from 0 q block none (omega arith) in
      let can₁ : has_room 0 brought block' ≡ true = room_from 0 brought block' none (omega (arith, brought_long)) in
      record {
        answers = step.answers ∙ can₁ ∙ sym can;
        made = λ _. step.made can₁ ∙ ap (freeze asks) brought_queued
            ∙ same_queued refl refl (append_assoc frozen_part noted_part (judged_all asks unfrozen_part)) (sym (none_due (drop q.next block) none));
        stays = λ not. absurd (true≢false (sym can ∙ not));
        roomy = λ room. step.roomy (record { held = omega (arith, brought_long); front = omega (arith, brought_long) });
      }

-- one noted row more
pub note_queued : (q : Queue) (block : List Entry) (e : Entry) → q.due ≡ 0 → q.frozen + q.unfrozen + q.noted + 1 ≤ length block
    → queued (record { next = q.next; due = q.due; frozen = q.frozen; unfrozen = q.unfrozen; noted = q.noted + 1 }) (set block (length block - 1 - q.noted) e)
    ≡ record { noted = (queued q block).noted ++ e ∷ []; unfrozen = (queued q block).unfrozen; frozen = (queued q block).frozen; due = (queued q block).due }
note_queued q block e none fits =
    let at = length block - 1 - q.noted in
    let long = length-set block at e in
    let down : length (set block at e) - (q.noted + 1) ≡ at = omega arith in
    let up : at + 1 ≡ length block - q.noted = omega arith in
    let front : take (q.frozen + q.unfrozen) (set block at e) ≡ take (q.frozen + q.unfrozen) block = take-set-le (q.frozen + q.unfrozen) block at e (omega arith) in
    same_queued
    (ap reverse (ap (λ n. drop n (set block at e)) down ∙ drop-set block at e (omega arith) ∙ ap (λ n. e ∷ drop n block) up)
    ∙ reverse-append (e ∷ []) (drop (length block - q.noted) block))
    (inner_same q.frozen q.unfrozen (q.frozen + q.unfrozen) block (set block at e) (omega arith) front)
    (front_same q.frozen (q.frozen + q.unfrozen) block (set block at e) (omega arith) front)
    (none_due (drop q.next (set block at e)) none ∙ sym (none_due (drop q.next block) none))

pub lone_rows_more : (kind : Kind) (j i : ℕ) → lone_rows kind j (i + 1) ≡ lone_rows kind j i ++ lone (buffered_alone kind (j + i)) ∷ []
lone_rows_more kind j zero = ap (λ n. lone (buffered_alone kind n) ∷ []) (same j)
  where
    same : (j : ℕ) → j ≡ j + 0
    same j = omega arith
lone_rows_more kind j (suc i) =
    let one : suc i + 1 ≡ suc (i + 1) = omega arith in
    let at : suc j + i ≡ j + suc i = omega arith in
    ap (lone_rows kind j) one ∙ ap (λ l. lone (buffered_alone kind j) ∷ l) (lone_rows_more kind (suc j) i)
    ∙ ap (λ n. lone (buffered_alone kind j) ∷ (lone_rows kind (suc j) i ++ lone (buffered_alone kind n) ∷ [])) at

-- one more of the rows noted
pub noting_more : (kind : Kind) (j i : ℕ) (start : Queued) (e : Entry) (now : Queued) → e ≡ lone (buffered_alone kind (j + i)) → now ≡ noting kind j i start
    → ◌≡◌ {A = Queued} (record { noted = now.noted ++ e ∷ []; unfrozen = now.unfrozen; frozen = now.frozen; due = now.due }) (noting kind j (i + 1) start)
noting_more kind j i start e now is inv =
    ap {B = Queued} (λ (x : Queued). record { noted = x.noted ++ e ∷ []; unfrozen = x.unfrozen; frozen = x.frozen; due = x.due }) inv
    ∙ same_queued
    (append_assoc start.noted (lone_rows kind j i) (e ∷ [])
    ∙ ap (λ l. start.noted ++ l) (ap (λ x. lone_rows kind j i ++ x ∷ []) is ∙ sym (lone_rows_more kind j i)))
    refl refl refl

take_some : {X : Type 0} (full : Bool) (n : ℕ) (l : List X) → take (cond full n 0) l ≡ cond full (take n l) []
take_some true n l = refl
take_some false n l = refl

-- A batch leaves: the oldest noted were brought in behind the frozen, and the failed rows written behind them.
pub leave_step : (kind : Kind) (full : Bool) (j n keep : ℕ) (states : List FilterState) (q : Queue) (block block₁ ys : List Entry) (out most k r : ℕ)
    → can_leave full j n keep q block ≡ true → out ≡ q.noted - keep → most ≡ cond full (n - out) 0 → k ≡ most → length block₁ ≡ length block
    → take (q.frozen + out) block₁ ≡ take q.frozen block ++ take out (queued q block).noted
    → drop (length block - (q.noted - out)) block₁ ≡ reverse (drop out (queued q block).noted)
    → length ys ≡ length (take k (drop (q.frozen + out) block₁)) → r ≤ length (take k (drop (q.frozen + out) block₁))
    → take r ys ≡ take (length (take k (drop (q.frozen + out) block₁))) (failed kind j states)
    → Step (can_leave full j n keep q block) (leave kind full j n keep states) q block (Ok tt)
    (record { next = q.next; due = q.due; frozen = q.frozen + out + r; unfrozen = q.unfrozen; noted = q.noted - out }) (put_mid (q.frozen + out) k block₁ ys)
leave_step kind full j n keep states q block block₁ ys out most k r can is_out is_most is_k long₁ front back same fewer writes =
    let tests = and_parts (eqb q.unfrozen 0) (leb (j + n) places && has_room (cond full (n - (q.noted - keep)) 0) q block) can in
    let nothing = eqb-true q.unfrozen 0 tests.0 in
    let room = (and_parts (leb (j + n) places) (has_room (cond full (n - (q.noted - keep)) 0) q block) tests.1).1 in
    let parts = room_parts (cond full (n - (q.noted - keep)) 0) q block room in
    let none = parts.0 in
    let most_is : most ≡ cond full (n - (q.noted - keep)) 0 = is_most ∙ ap (λ m. cond full (n - m) 0) is_out in
    let fits : q.frozen + q.unfrozen + q.noted + most ≤ length block = omega (arith, parts.1) in
    let noted_part = (queued q block).noted in
    let long_n : length noted_part ≡ q.noted = length-reverse (drop (length block - q.noted) block) ∙ omega (arith, length-drop (length block - q.noted) block) in
    let at = q.frozen + out in
    let inside : length (take k (drop at block₁)) ≡ k = length-take-le k (drop at block₁) (omega (arith, length-drop at block₁)) in
    let many : length ys ≡ k = same ∙ inside in
    let block₂ = put_mid at k block₁ ys in
    let long₂ : length block₂ ≡ length block = put_length at k block₁ ys many (omega arith) ∙ long₁ in
    let failing = failed kind j states in
    let written : take r ys ≡ cond full (take (n - (length noted_part - keep)) failing) [] =
    writes ∙ ap (λ m. take m failing) (inside ∙ is_k ∙ most_is ∙ ap (λ m. cond full (n - (m - keep)) 0) (sym long_n)) ∙ take_some full (n - (length noted_part - keep)) failing in
    let gone : out ≡ length noted_part - keep = is_out ∙ ap (λ m. m - keep) (sym long_n) in
    done can (same_queued
    (ap reverse (ap (λ m. drop (m - (q.noted - out)) block₂) long₂
    ∙ drop-put_mid at k block₁ ys (length block - (q.noted - out)) (omega arith) (omega arith) many ∙ back)
    ∙ reverse-reverse (drop out noted_part) ∙ ap (λ m. drop m noted_part) gone)
    (ap (λ m. take m (drop (at + r) block₂)) nothing ∙ sym (ap (λ m. take m (drop q.frozen block)) nothing))
    (take-add at r block₂
    ∙ ap (λ l. l ++ take r (drop at block₂)) (take-put_mid_below at k block₁ ys at (omega arith) (omega arith) ∙ front)
    ∙ ap (λ l. (take q.frozen block ++ take out noted_part) ++ take r l) (drop_at (take at block₁) (ys ++ drop k (drop at block₁)) at (length-take-le at block₁ (omega arith)))
    ∙ ap (λ l. (take q.frozen block ++ take out noted_part) ++ l) (take-append-le r ys (drop k (drop at block₁)) (omega arith) ∙ written)
    ∙ append_assoc (take q.frozen block) (take out noted_part) (cond full (take (n - (length noted_part - keep)) failing) [])
    ∙ ap (λ m. take q.frozen block ++ (take m noted_part ++ cond full (take (n - (length noted_part - keep)) failing) [])) gone)
    (none_due (drop q.next block₂) none ∙ sym (none_due (drop q.next block) none)))
    (λ room. record { held = omega (arith, long₂); front = omega (arith, long₂, room.front) })
