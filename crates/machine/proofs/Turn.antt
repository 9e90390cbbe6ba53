-- The plain machine follows a turn: a run is passed, a row is compared with the run at hand.
use Rattle.std.proofs.Common.{◌≡◌, ℕ, zero, suc, ◌+◌, ◌-◌, ◌<◌, ◌≤◌, Bool, true, false, cond, ◌&&◌, ltb, leb, ◌⊎◌, List, [], ◌∷◌, ◌++◌, map, length, take, drop, Some, None, Option, Ordering, Less, Equal, Greater, sym, refl, ap, ◌∙◌, subst, inl, inr, true≢false, append_assoc, append-nil, arith, length-drop, length-take, drop-drop, take-add}
use mathlib.Core.List.{nil≢cons}
use mathlib.Core.Bool.{false≢true}
use lib.ListN.{length-map}
use Rattle.law.proofs.Totals.{shift}
use Rattle.std.proofs.Math.Nat.{add-zero, sub-zero, zero-sub}
use Rattle.std.specs.List.{AllByRecursion}
use Rattle.std.proofs.ByRecursion.{All-append}
use Rattle.std.proofs.lemmas.List.{take_all, map-append}
use Rattle.std.proofs.lemmas.Bool.{lt-ltb, ltb-true, le-leb, lt-leb, eqb-true, eqb-false, cases_lt}
use Rattle.rows.specs.declared.record.Record.{Record}
use Rattle.rows.specs.declared.row.Row.{Row}
use Rattle.sources.specs.declared.fault.SourceFault.{SourceFault}
use Rattle.merge.specs.Table.{when}
use Rattle.rows.specs.Sides.{oriented, is_outer}
use Rattle.rows.specs.Sides.{is_full as is_full_kind}
use Rattle.law.specs.Pipe.{Mark, Pipe, pipe, places, fixeds, first_leaves, given_by, put, Left}
use Rattle.law.specs.Pipe.{Entry as plain_entry, leave as plain_leave, part as plain_part, marking as plain_marking, flush as plain_flush}
use Rattle.law.specs.Machine as plain_machine
use Rattle.law.specs.Machine.{going}
use Rattle.pipeline.specs.declared.entry.Entry.{Entry}
use Rattle.pipeline.specs.declared.batch.BufferedBatch.{BufferedBatch}
use Rattle.pipeline.specs.declared.states.FilterState.{FilterState}
use Rattle.pipeline.specs.States.{marking}
use Rattle.pipeline.specs.Freezing.{judged_all}
use Rattle.pipeline.specs.Batches.{rows_of}
use Rattle.pipeline.specs.Block.{Queued, lone_rows}
use Rattle.pipeline.specs.Held.{Holding, is_consumed, leaving, placed, run_from, run_at}
use Rattle.machine.specs.Machine.{Setting, seeding, turning, Streamed, Buffered, Counts, core, Outcome, deferred, let_go, counted_run, row_at, leave_all, part, is_lone, note_run, pass_run, lone_row, head_start, to_pair, compared, run_head, comparison, turn, has_batch}
use Rattle.machine.specs.Machine.{going as goes}
use Rattle.machine.proofs.Entries.{mark_of, entry_of, Frozen, Noted, entries_judged, frozen_judged, marking_is, length_marking}
use Rattle.machine.proofs.Plain.{row_of, streamed_of, buffered_of, run_of, counts_of, plain_setting, pipe_of, state_at, size_of, Whole, WholeBuffered, WholeBlock, Placed, reach, FullButLast, first_start, first_rows}
use Rattle.machine.proofs.Block.{block, put_is, let_go_whole, flushed_is, flush_whole}
use Rattle.machine.proofs.Follows.{stay, walk, calm, PlainState, Followed, followed_cond, row_some, row_none, follows_lone, marked_whole}
use Rattle.machine.proofs.Leave.{place_at, lone_places, lone_noted, Stand, stand_below, Unpaired, LeftAs, leaves, kept_last, reach_tail}

-- ---- what the first batch does

first_stays : {K : Type 0} (c : Setting K) (batch_of : ℕ → ℕ) (l : List BufferedBatch) (m : ℕ) → FullButLast l → reach l ≡ m → m ≤ rows_of l → leaving l ≡ [] → first_leaves m (map size_of l) ≡ false
first_stays c batch_of [] m f r h e = refl
first_stays c batch_of (b ∷ l) m f r h e = go (is_consumed b) refl e
  where
    go : (t : Bool) → is_consumed b ≡ t → cond t (b ∷ leaving l) [] ≡ [] → leb b.rows m ≡ false
    go true t e = absurd (nil≢cons (sym e))
    go false t e = lt-leb b.rows m (kept_last c batch_of b l m f r h (eqb-false b.end b.rows t)).1

first_goes : {K : Type 0} (c : Setting K) (batch_of : ℕ → ℕ) (l : List BufferedBatch) (m : ℕ) → FullButLast l → reach l ≡ m → (d : BufferedBatch) (k : List BufferedBatch) → leaving l ≡ d ∷ k → first_leaves m (map size_of l) ≡ true
first_goes c batch_of [] m f r d k e = absurd (nil≢cons e)
first_goes c batch_of (b ∷ l) m f r d k e = go (is_consumed b) refl e
  where
    go : (t : Bool) → is_consumed b ≡ t → cond t (b ∷ leaving l) [] ≡ d ∷ k → leb b.rows m ≡ true
    go true t e = le-leb b.rows m (reach_tail c batch_of b l m f r (eqb-true b.end b.rows t)).1
    go false t e = absurd (nil≢cons e)

one_full : (l : List BufferedBatch) → length l ≤ 1 → FullButLast l
one_full [] h = tt
one_full (b ∷ []) h = tt
one_full (b ∷ d ∷ l) h = absurd (omega arith)

-- ---- rows with their places

placed_append : {A : Type 0} (j : ℕ) (a b : List A) → placed j (a ++ b) ≡ placed j a ++ placed (j + length a) b
placed_append j [] b = ap (λ (k : ℕ). placed k b) (sym (add-zero j))
placed_append {A} j (x ∷ a) b = ap (λ (l : List (ℕ × A)). (j, x) ∷ l) (placed_append (suc j) a b ∙ ap (λ (k : ℕ). placed (suc j) a ++ placed k b) (shift j (length a)))

placed_rows : {A : Type 0} (j : ℕ) (l : List A) → map row_of (placed j l) ≡ l
placed_rows j [] = refl
placed_rows {A} j (x ∷ l) = ap (λ (z : List A). x ∷ z) (placed_rows (suc j) l)

placed_placed : {A : Type 0} (j : ℕ) (l : List A) → Placed j (placed j l)
placed_placed j [] = tt
placed_placed j (x ∷ l) = (refl, placed_placed (suc j) l)

placed_length : {A : Type 0} (j : ℕ) (l : List A) → length (placed j l) ≡ length l
placed_length j [] = refl
placed_length j (x ∷ l) = ap suc (placed_length (suc j) l)

take_none : {A : Type 0} (n : ℕ) (l : List A) → n ≡ zero → take n l ≡ []
take_none n l e = ap (λ (k : ℕ). take k l) e

-- the batches' ranges are the run
run_from_is : {A : Type 0} (j r : ℕ) (l : List BufferedBatch) (rows : List A) → FullButLast l → r ≤ first_rows l → rows_of l ≤ length rows → run_from j r l rows ≡ placed (j + r) (take (reach l - r) (drop r rows))
run_from_is j r [] rows f h len = sym (ap (placed (j + r)) (take_none (0 - r) (drop r rows) (zero-sub r)))
run_from_is j r (b ∷ []) rows f h len = append-nil _
run_from_is {A} j r (b ∷ d ∷ l) rows f h len =
    let n = b.rows - r in
    let k = reach (d ∷ l) in
    ap (λ (z : ℕ). placed (j + r) (take (z - r) (drop r rows)) ++ run_from (j + b.rows) 0 (d ∷ l) (drop b.rows rows)) f.0
    ∙ ap (λ (z : List (ℕ × A)). placed (j + r) (take n (drop r rows)) ++ z) (run_from_is (j + b.rows) 0 (d ∷ l) (drop b.rows rows) f.1 (omega arith) (omega (arith, length-drop b.rows rows)))
    ∙ ap (λ (z : ℕ). placed (j + r) (take n (drop r rows)) ++ placed z (take (k - 0) (drop b.rows rows))) place_same
    ∙ ap (λ (z : ℕ). placed (j + r) (take n (drop r rows)) ++ placed ((j + r) + length (take n (drop r rows))) (take z (drop b.rows rows))) (sub-zero (reach (d ∷ l)))
    ∙ ap (λ (z : List A). placed (j + r) (take n (drop r rows)) ++ placed ((j + r) + length (take n (drop r rows))) (take k z)) (sym (drop-drop n r rows ∙ ap (λ (z : ℕ). drop z rows) rows_same))
    ∙ sym (placed_append (j + r) (take n (drop r rows)) (take k (drop n (drop r rows))))
    ∙ ap (placed (j + r)) (sym (take-add n k (drop r rows)) ∙ ap (λ (z : ℕ). take z (drop r rows)) both)
  where
    place_same : (j + b.rows) + 0 ≡ (j + r) + length (take (b.rows - r) (drop r rows))
    place_same = omega (arith, length-take (b.rows - r) (drop r rows), length-drop r rows)

    rows_same : r + (b.rows - r) ≡ b.rows
    rows_same = omega arith

    both : (b.rows - r) + reach (d ∷ l) ≡ (b.rows + reach (d ∷ l)) - r
    both = omega arith

module _ {K V : Type 0} (c : Setting K) (fits : V → Record → Bool) (after : V → Record → V) (batch_of : ℕ → ℕ) (sized : 1 ≤ c.size) where
  abbrev plain : plain_machine.Setting (Row K) V
  plain = plain_setting c fits after

  abbrev State : Type 0
  State = PlainState c fits after batch_of sized

  abbrev Follow : State → V → Outcome K → Type 0
  Follow = Followed c fits after batch_of sized

  abbrev entries : List Entry → List plain_entry
  entries = map (entry_of c.kind c.asks)

  abbrev places_of : List Entry → List ℕ
  places_of = map (place_at c batch_of)

  -- ---- the run is passed

  -- the rows of the run that are noted
  abbrev pub noted_now : Bool → Buffered K → List Entry
  noted_now lone bf = cond lone (lone_rows c.kind (bf.holding.base + bf.holding.start) (bf.holding.end - bf.holding.start)) []

  note_is : (lone : Bool) (bf : Buffered K) (q : Queued) → note_run c lone bf q ≡ block c batch_of (q.noted ++ noted_now lone bf) q.unfrozen q.frozen q.due
  note_is true bf q = refl
  note_is false bf q = ap (λ (l : List Entry). block c batch_of l q.unfrozen q.frozen q.due) (sym (append-nil q.noted))

  now_noted : (lone : Bool) (bf : Buffered K) → AllByRecursion (Noted c.kind c.asks) (noted_now lone bf)
  now_noted true bf = lone_noted c batch_of _ _
  now_noted false bf = tt

  pub now_places : (lone : Bool) (bf : Buffered K) → places_of (noted_now lone bf) ≡ when lone (places (bf.holding.base + bf.holding.start) (bf.holding.end - bf.holding.start))
  now_places true bf = lone_places c batch_of _ _
  now_places false bf = refl

  stands : (lone : Bool) (bf : Buffered K) (noted : List Entry) → AllByRecursion (λ x. place_at c batch_of x < bf.holding.base + bf.holding.start) noted → Stand c batch_of lone bf.holding.base bf.holding.end bf.holding.start (noted ++ noted_now lone bf)
  stands true bf noted h = (noted, refl, h)
  stands false bf noted h = All-append _ noted [] h tt

  pub run_length : (bf : Buffered K) → WholeBuffered c bf → length (run_of bf) ≡ bf.holding.end - bf.holding.start
  run_length bf b = omega (arith, length-take (bf.holding.end - bf.holding.start) (drop bf.holding.start bf.rows), length-drop bf.holding.start bf.rows, b.rows_held, b.in_held, b.run)

  module _ (st : Streamed K) (bf : Buffered K) (q : Queued) (n : Counts) (v : V) (s : State) where
    abbrev h : Holding
    h = bf.holding

    abbrev lone_here : Bool
    lone_here = is_lone c bf

    abbrev noted_here : List Entry
    noted_here = q.noted ++ noted_now lone_here bf

    abbrev states_here : List FilterState
    states_here = marking c.kind h.base (judged_all c.asks q.unfrozen) bf.states

    abbrev at_pass : ℕ → Bool → Pipe × List ℕ → plain_machine.Outcome (Row K) SourceFault V
    at_pass first en p = going (plain_machine.state (streamed_of st) (plain_machine.buffered bf.batches bf.closing p.1 first [] (drop h.end bf.rows) en false bf.last) p.0 (counts_of (counted_run n)) v (plain_machine.seeding false))

    abbrev pipe_noted : List ℕ → Pipe
    pipe_noted l = pipe h.base (map mark_of bf.states) l (entries q.unfrozen) (entries q.frozen) (map (oriented c.kind) q.due)

    -- what the plain machine does
    passes_so : WholeBuffered c bf → plain_machine.micro plain s ≡ plain_machine.pass_run plain (streamed_of st) (buffered_of bf) (pipe_of c h.base bf.states q) (counts_of n) v
        → plain_machine.micro plain s ≡ at_pass (h.base + h.end) false (plain_part (deferred c) (is_full_kind c.kind) h.end (map size_of h.batches) (pipe_noted (places_of noted_here)))
    passes_so b m =
        m
        ∙ ap (λ (k : ℕ). at_pass ((h.base + h.start) + k) false (plain_part (deferred c) (is_full_kind c.kind) (((h.base + h.start) + k) - h.base) (map size_of h.batches) (pipe_noted (places_of q.noted ++ when lone_here (places (h.base + h.start) k))))) (run_length bf b)
        ∙ ap (λ (k : ℕ). at_pass k false (plain_part (deferred c) (is_full_kind c.kind) (k - h.base) (map size_of h.batches) (pipe_noted (places_of q.noted ++ when lone_here (places (h.base + h.start) (h.end - h.start)))))) whole
        ∙ ap (λ (k : ℕ). at_pass (h.base + h.end) false (plain_part (deferred c) (is_full_kind c.kind) k (map size_of h.batches) (pipe_noted (places_of q.noted ++ when lone_here (places (h.base + h.start) (h.end - h.start)))))) less
        ∙ ap (λ (l : List ℕ). at_pass (h.base + h.end) false (plain_part (deferred c) (is_full_kind c.kind) h.end (map size_of h.batches) (pipe_noted l))) (sym (map-append (place_at c batch_of) q.noted (noted_now lone_here bf) ∙ ap (λ (l : List ℕ). places_of q.noted ++ l) (now_places lone_here bf)))
      where
        whole : (h.base + h.start) + (h.end - h.start) ≡ h.base + h.end
        whole = omega (arith, b.run)

        less : (h.base + h.end) - h.base ≡ h.end
        less = omega arith

    -- the rows and states after R rows have left with k batches
    abbrev left_by : ℕ → ℕ → Buffered K
    left_by r k = record {
      batches = bf.batches;
      closing = bf.closing;
      holding = record { batches = drop k h.batches; base = h.base + r; held = h.held - r; start = h.end - r; end = h.end - r; matched = false };
      rows = drop r bf.rows;
      states = drop r states_here;
      ended = bf.ended;
      last = bf.last;
    }

    parts : (lt : h.start < h.end) → q.due ≡ [] → bf.ended ≡ false → Unpaired c batch_of h.base states_here noted_here → Whole c batch_of st bf q turning
        → plain_machine.micro plain s ≡ at_pass (h.base + h.end) false (plain_part (deferred c) (is_full_kind c.kind) h.end (map size_of h.batches) (pipe_noted (places_of noted_here)))
        → (lv : List BufferedBatch) → leaving h.batches ≡ lv → Follow s v (part c lone_here lv st bf (block c batch_of noted_here q.unfrozen q.frozen q.due) (counted_run n))
    parts lt z en u w m lv e = go lv e (subst (λ l. LeftAs c batch_of h.batches l h.base h.end states_here noted_here lone_here) e facts)
      where
        b : WholeBuffered c bf
        b = w.buffered_side

        begun : (first_start h.batches ≡ h.start) × (h.start ≤ first_rows h.batches)
        begun = w.poised.1 lt

        all_noted : AllByRecursion (Noted c.kind c.asks) noted_here
        all_noted = All-append _ q.noted _ w.block.noted (now_noted lone_here bf)

        states_long : length states_here ≡ h.held
        states_long = length_marking c.kind c.asks h.base (judged_all c.asks q.unfrozen) bf.states ∙ b.states_held

        facts : LeftAs c batch_of h.batches (leaving h.batches) h.base h.end states_here noted_here lone_here
        facts = leaves c batch_of h.batches h.base h.end h.start states_here noted_here lone_here all_noted b.tiled b.reaches (omega (arith, b.batches_held, b.in_held)) (omega (arith, b.batches_held, states_long)) b.run begun.1 (stands lone_here bf q.noted w.block.behind) u

        none_run : (k : ℕ) (l : List (Row K)) → take (k - k) l ≡ []
        none_run k l = take_none (k - k) l (omega arith)

        go : (lv : List BufferedBatch) → leaving h.batches ≡ lv → LeftAs c batch_of h.batches lv h.base h.end states_here noted_here lone_here → Follow s v (part c lone_here lv st bf (block c batch_of noted_here q.unfrozen q.frozen q.due) (counted_run n))
        go [] e f = (
          walk (m
              ∙ ap (λ (t : Bool). at_pass (h.base + h.end) false (cond t (given_by (deferred c) (entries q.unfrozen) (entries q.frozen) (map (oriented c.kind) q.due) (plain_leave (is_full_kind c.kind) h.end h.base (map size_of h.batches) (plain_marking h.base (entries q.unfrozen) (map mark_of bf.states)) (places_of noted_here))) (pipe_noted (places_of noted_here), map size_of h.batches))) (first_stays c batch_of h.batches h.end b.tiled b.reaches (omega (arith, b.batches_held, b.in_held)) e)
              ∙ ap (λ (r : List (Row K)). going (plain_machine.state (streamed_of st) (plain_machine.buffered bf.batches bf.closing (map size_of h.batches) (h.base + h.end) r (drop h.end bf.rows) false false bf.last) (pipe_noted (places_of noted_here)) (counts_of (counted_run n)) v (plain_machine.seeding false))) (sym (none_run h.end (drop h.end bf.rows)))
              ∙ ap (λ (t : Bool). going (plain_machine.state (streamed_of st) (plain_machine.buffered bf.batches bf.closing (map size_of h.batches) (h.base + h.end) (take (h.end - h.end) (drop h.end bf.rows)) (drop h.end bf.rows) t false bf.last) (pipe_noted (places_of noted_here)) (counts_of (counted_run n)) v (plain_machine.seeding false))) (sym en)) stay,
          record {
            streamed_side = w.streamed_side;
            buffered_side = record { rows_held = b.rows_held; states_held = b.states_held; batches_held = b.batches_held; run = omega arith; in_held = b.in_held; few = b.few; in_table = b.in_table; tiled = b.tiled; reaches = b.reaches };
            block = record { made = w.block.made; frozen = w.block.frozen; noted = all_noted; behind = stand_below c batch_of lone_here h.base h.end h.start noted_here b.run (stands lone_here bf q.noted w.block.behind); short = w.block.short; at_once = w.block.at_once };
            poised = (w.poised.0, record { none = refl; one = f.few; emptied = λ k. f.emptied (omega (arith, b.batches_held, k)); unmatched = refl; not_ended = en });
          },
        )
        go (d ∷ l) e f = subst (λ r. Follow s v (goes (core st (left_by r (length (d ∷ l))) (let_go (deferred c) (leave_all c lone_here h.base h.end (d ∷ l) states_here (block c batch_of noted_here [] (q.frozen ++ judged_all c.asks q.unfrozen) q.due))) (counted_run n) (seeding false)))) (sym (ap rows_of f.front)) gone
          where
            k : ℕ
            k = length (d ∷ l)

            r : ℕ
            r = rows_of (d ∷ l)

            given : List Entry
            given = judged_all c.asks q.unfrozen ++ f.given

            all_given : AllByRecursion (Frozen c.kind c.asks batch_of) given
            all_given = All-append _ (judged_all c.asks q.unfrozen) f.given (frozen_judged c.kind c.asks batch_of q.unfrozen w.block.made) f.given_frozen

            block_is : leave_all c lone_here h.base h.end (d ∷ l) states_here (block c batch_of noted_here [] (q.frozen ++ judged_all c.asks q.unfrozen) q.due) ≡ block c batch_of f.rest [] (q.frozen ++ given) q.due
            block_is = f.exactly (q.frozen ++ judged_all c.asks q.unfrozen) q.due ∙ ap (λ (x : List Entry). block c batch_of f.rest [] x q.due) (append_assoc q.frozen (judged_all c.asks q.unfrozen) f.given)

            entries_given : entries given ≡ entries q.unfrozen ++ fixeds f.told
            entries_given = map-append (entry_of c.kind c.asks) (judged_all c.asks q.unfrozen) f.given ∙ ap (λ (x : List plain_entry). x ++ entries f.given) (entries_judged c.kind c.asks q.unfrozen) ∙ ap (λ (x : List plain_entry). entries q.unfrozen ++ x) f.given_are

            past_r : (h.base + r) + (h.end - r) ≡ h.base + h.end
            past_r = omega (arith, f.reaches)

            to_end : r + (h.end - r) ≡ h.end
            to_end = omega (arith, f.reaches)

            left_state : ℕ → List (Row K) → List (Row K) → Bool → Pipe → plain_machine.Outcome (Row K) SourceFault V
            left_state first run beyond ended p = going (plain_machine.state (streamed_of st) (plain_machine.buffered bf.batches bf.closing (map size_of (drop k h.batches)) first run beyond ended false bf.last) p (counts_of (counted_run n)) v (plain_machine.seeding false))

            to_leave : List Mark → Pipe × List ℕ
            to_leave marks = given_by (deferred c) (entries q.unfrozen) (entries q.frozen) (map (oriented c.kind) q.due) (plain_leave (is_full_kind c.kind) h.end h.base (map size_of h.batches) marks (places_of noted_here))

            pipe_left : List plain_entry → Pipe
            pipe_left es = put (deferred c) es (pipe (h.base + r) (map mark_of (drop r states_here)) (places_of f.rest) [] (entries q.frozen) (map (oriented c.kind) q.due))

            pipe_is : pipe_left (entries q.unfrozen ++ fixeds f.told) ≡ pipe_of c (h.base + r) (drop r states_here) (let_go (deferred c) (leave_all c lone_here h.base h.end (d ∷ l) states_here (block c batch_of noted_here [] (q.frozen ++ judged_all c.asks q.unfrozen) q.due)))
            pipe_is = ap pipe_left (sym entries_given) ∙ sym (put_is c batch_of (deferred c) (h.base + r) (drop r states_here) f.rest [] q.frozen given q.due all_given w.block.at_once z) ∙ ap (λ (x : Queued). pipe_of c (h.base + r) (drop r states_here) (let_go (deferred c) x)) (sym block_is)

            gone : Follow s v (goes (core st (left_by r k) (let_go (deferred c) (leave_all c lone_here h.base h.end (d ∷ l) states_here (block c batch_of noted_here [] (q.frozen ++ judged_all c.asks q.unfrozen) q.due))) (counted_run n) (seeding false)))
            gone = (
              walk (m
                  ∙ ap (λ (t : Bool). at_pass (h.base + h.end) false (cond t (to_leave (plain_marking h.base (entries q.unfrozen) (map mark_of bf.states))) (pipe_noted (places_of noted_here), map size_of h.batches))) (first_goes c batch_of h.batches h.end b.tiled b.reaches d l e)
                  ∙ ap (λ (x : List Mark). at_pass (h.base + h.end) false (to_leave x)) (sym (marking_is c.kind c.asks h.base q.unfrozen bf.states))
                  ∙ ap (λ (x : Left). at_pass (h.base + h.end) false (given_by (deferred c) (entries q.unfrozen) (entries q.frozen) (map (oriented c.kind) q.due) x)) f.plainly
                  ∙ ap (left_state (h.base + h.end) [] (drop h.end bf.rows) false) pipe_is
                  ∙ ap (λ (x : ℕ). left_state x [] (drop h.end bf.rows) false (pipe_of c (h.base + r) (drop r states_here) (let_go (deferred c) (leave_all c lone_here h.base h.end (d ∷ l) states_here (block c batch_of noted_here [] (q.frozen ++ judged_all c.asks q.unfrozen) q.due))))) (sym past_r)
                  ∙ ap (λ (x : List (Row K)). left_state ((h.base + r) + (h.end - r)) x (drop h.end bf.rows) false (pipe_of c (h.base + r) (drop r states_here) (let_go (deferred c) (leave_all c lone_here h.base h.end (d ∷ l) states_here (block c batch_of noted_here [] (q.frozen ++ judged_all c.asks q.unfrozen) q.due))))) (sym (none_run (h.end - r) (drop (h.end - r) (drop r bf.rows))))
                  ∙ ap (λ (x : List (Row K)). left_state ((h.base + r) + (h.end - r)) (take ((h.end - r) - (h.end - r)) (drop (h.end - r) (drop r bf.rows))) x false (pipe_of c (h.base + r) (drop r states_here) (let_go (deferred c) (leave_all c lone_here h.base h.end (d ∷ l) states_here (block c batch_of noted_here [] (q.frozen ++ judged_all c.asks q.unfrozen) q.due))))) (sym (drop-drop (h.end - r) r bf.rows ∙ ap (λ (x : ℕ). drop x bf.rows) to_end))
                  ∙ ap (λ (x : Bool). left_state ((h.base + r) + (h.end - r)) (take ((h.end - r) - (h.end - r)) (drop (h.end - r) (drop r bf.rows))) (drop (h.end - r) (drop r bf.rows)) x (pipe_of c (h.base + r) (drop r states_here) (let_go (deferred c) (leave_all c lone_here h.base h.end (d ∷ l) states_here (block c batch_of noted_here [] (q.frozen ++ judged_all c.asks q.unfrozen) q.due))))) (sym en)) stay,
              record {
                streamed_side = w.streamed_side;
                buffered_side = record {
                  rows_held = omega (arith, length-drop r bf.rows, b.rows_held);
                  states_held = omega (arith, length-drop r states_here, states_long);
                  batches_held = omega (arith, f.sums, b.batches_held);
                  run = omega arith;
                  in_held = omega (arith, b.in_held);
                  few = omega (arith, f.reaches, b.few, b.in_held);
                  in_table = omega (arith, b.in_table);
                  tiled = one_full (drop k h.batches) f.few;
                  reaches = omega (arith, f.reaches);
                };
                block = subst (λ x. WholeBlock c batch_of ((h.base + r) + (h.end - r)) (let_go (deferred c) x)) (sym block_is) (let_go_whole c batch_of (deferred c) refl ((h.base + r) + (h.end - r)) f.rest q.frozen given q.due w.block.frozen all_given f.rest_noted (subst (λ x. AllByRecursion (λ y. place_at c batch_of y < x) f.rest) (sym past_r) f.rest_behind) sized);
                poised = (w.poised.0, record { none = refl; one = f.few; emptied = λ x. f.emptied (omega (arith, f.reaches, b.batches_held, b.in_held, x)); unmatched = refl; not_ended = en });
              },
            )

    pub follows_run : (lt : h.start < h.end) → q.due ≡ [] → bf.ended ≡ false → Unpaired c batch_of h.base states_here noted_here → Whole c batch_of st bf q turning
        → plain_machine.micro plain s ≡ plain_machine.pass_run plain (streamed_of st) (buffered_of bf) (pipe_of c h.base bf.states q) (counts_of n) v → Follow s v (pass_run c st bf q n)
    follows_run lt z en u w m = rw (lt-ltb h.start h.end lt) (subst (λ x. Follow s v (part c lone_here (leaving h.batches) st bf x (counted_run n))) (sym (note_is lone_here bf q)) (parts lt z en u w (passes_so w.buffered_side m) (leaving h.batches) refl))

  -- ---- the rows of the run to pair

  head_is : (l : List BufferedBatch) → head_start c l ≡ first_start l
  head_is [] = refl
  head_is (b ∷ l) = refl

  to_pair_is : (bf : Buffered K) → WholeBuffered c bf → (first_start bf.holding.batches ≡ bf.holding.start) × (bf.holding.start ≤ first_rows bf.holding.batches) → to_pair c bf ≡ placed (bf.holding.base + bf.holding.start) (run_of bf)
  to_pair_is bf b begun =
      let h = bf.holding in
      let n = h.end - h.start in
      ap (λ (r : ℕ). take n (run_at h 0 r bf.rows)) (head_is h.batches ∙ begun.0)
      ∙ ap (λ (rs : List (Row K)). take n (run_from (h.base + 0) h.start h.batches rs)) (take_all h.held bf.rows (omega (arith, b.rows_held)))
      ∙ ap (take n) (run_from_is (h.base + 0) h.start h.batches bf.rows b.tiled begun.1 (omega (arith, b.rows_held, b.batches_held)))
      ∙ ap (λ (k : ℕ). take n (placed ((h.base + 0) + h.start) (take (k - h.start) (drop h.start bf.rows)))) b.reaches
      ∙ take_all n (placed ((h.base + 0) + h.start) (run_of bf)) (omega (arith, placed_length ((h.base + 0) + h.start) (run_of bf), run_length bf b))
      ∙ ap (λ (k : ℕ). placed k (run_of bf)) same_place
    where
      same_place : (bf.holding.base + 0) + bf.holding.start ≡ bf.holding.base + bf.holding.start
      same_place = omega arith

  -- ---- a turn

  full_is : (d : Bool) → deferred c ≡ d → (base : ℕ) (states : List FilterState) (first : ℕ) (q : Queued) → WholeBlock c batch_of first q → plain_machine.is_full d c.size (pipe_of c base states q) ≡ has_batch c q
  full_is true e base states first q w = ap (leb c.size) (omega (arith, length-map q.unfrozen (entry_of c.kind c.asks), length-map q.frozen (entry_of c.kind c.asks)))
  full_is false e base states first q w = sym (lt-leb c.size (length q.frozen + length q.unfrozen) (omega (arith, ap length (w.at_once e), w.short)))

  -- what is known before a turn
  pub record TurnReady (st : Streamed K) (bf : Buffered K) (q : Queued) : Type 0 where
    pub not_both : (st.ended && bf.ended) ≡ false
    pub row_or_end : drop st.at st.rows ≡ [] → st.ended ≡ true
    pub run_or_end : run_of bf ≡ [] → bf.ended ≡ true
    pub run_open : bf.holding.start < bf.holding.end → bf.ended ≡ false
    pub unpaired : bf.holding.start < bf.holding.end → Unpaired c batch_of bf.holding.base (marking c.kind bf.holding.base (judged_all c.asks q.unfrozen) bf.states) (q.noted ++ noted_now (is_lone c bf) bf)

  module _ (st : Streamed K) (bf : Buffered K) (q : Queued) (n : Counts) (v : V) (z : q.due ≡ []) (w : Whole c batch_of st bf q turning) (t : TurnReady st bf q) where
    abbrev here : State
    here = state_at c st bf q n turning v

    abbrev at_rows : List (Row K) → plain_machine.Streamed (Row K) SourceFault
    at_rows r = plain_machine.streamed st.batches st.closing r (st.first + st.at) st.ended st.last

    abbrev at_run : List (Row K) → plain_machine.Buffered (Row K) SourceFault
    at_run r = plain_machine.buffered bf.batches bf.closing (map size_of bf.holding.batches) (bf.holding.base + bf.holding.start) r (drop bf.holding.end bf.rows) bf.ended bf.holding.matched bf.last

    abbrev pipe_now : Pipe
    pipe_now = pipe_of c bf.holding.base bf.states q

    abbrev compare_at : List (Row K) → List (Row K) → plain_machine.Outcome (Row K) SourceFault V
    compare_at r run = plain_machine.compare plain (at_rows r) (at_run run) pipe_now (counts_of n) v

    no_run : bf.holding.end ≤ bf.holding.start → run_of bf ≡ []
    no_run le = take_none (bf.holding.end - bf.holding.start) (drop bf.holding.start bf.rows) (omega arith)

    by_order : (o : Ordering) → (bf.holding.start < bf.holding.end) → plain_machine.micro plain here ≡ plain_machine.compared plain o (streamed_of st) (st.first + st.at) (run_of bf) (bf.holding.base + bf.holding.start) (buffered_of bf) pipe_now (counts_of n) v
        → Follow here v (compared c o st bf q n)
    by_order Less lt m = follows_lone c fits after batch_of sized (is_outer c.kind) st bf q n v here (walk m stay) z w
    by_order Equal lt m =
        let b = w.buffered_side in
        let e = to_pair_is bf b (w.poised.1 lt) in
        let rows_same : map row_of (to_pair c bf) ≡ run_of bf = ap (map row_of) e ∙ placed_rows _ (run_of bf) in
        let long : length (to_pair c bf) ≡ bf.holding.end - bf.holding.start = ap length e ∙ placed_length _ (run_of bf) ∙ run_length bf b in
        let from : (bf.holding.base + bf.holding.end) - length (to_pair c bf) ≡ bf.holding.base + bf.holding.start = omega (arith, long, b.run) in (
          walk (m ∙ ap (λ (r : List (Row K)). going (plain_machine.state (streamed_of st) (buffered_of bf) pipe_now (counts_of n) v (plain_machine.pairing r (bf.holding.base + bf.holding.start)))) (sym rows_same)
              ∙ ap (λ (k : ℕ). going (plain_machine.state (streamed_of st) (buffered_of bf) pipe_now (counts_of n) v (plain_machine.pairing (map row_of (to_pair c bf)) k))) (sym from)) stay,
          record {
            streamed_side = w.streamed_side;
            buffered_side = b;
            block = w.block;
            poised = (w.poised.0, w.poised.1, record { are = subst (λ k. Placed k (to_pair c bf)) (sym from) (subst (Placed (bf.holding.base + bf.holding.start)) (sym e) (placed_placed _ (run_of bf))); in_run = omega (arith, long) });
          },
        )
    by_order Greater lt m = follows_run st bf q n v here lt z (t.run_open lt) (t.unpaired lt) w m

    by_rows : (o : Option (Row K)) → row_at st.at st.rows ≡ o → (p : Option (Row K)) → run_head c bf ≡ p → plain_machine.micro plain here ≡ compare_at (drop st.at st.rows) (run_of bf) → Follow here v (compared c (comparison c o p) st bf q n)
    by_rows None e p f m = go (cases_lt bf.holding.start bf.holding.end)
      where
        none : drop st.at st.rows ≡ []
        none = row_none st.at st.rows e

        go : (bf.holding.start < bf.holding.end) ⊎ (bf.holding.end ≤ bf.holding.start) → Follow here v (pass_run c st bf q n)
        go (inl lt) = by_order Greater lt (m ∙ ap (λ (r : List (Row K)). compare_at r (run_of bf)) none ∙ ap (λ (r : List (Row K)). plain_machine.pass_run plain (at_rows r) (buffered_of bf) pipe_now (counts_of n) v) (sym none))
        go (inr le) = absurd (true≢false (sym (rw (t.row_or_end none, t.run_or_end (no_run le)) refl) ∙ t.not_both))
    by_rows (Some x) e None f m = go (cases_lt bf.holding.start bf.holding.end)
      where
        rs : drop st.at st.rows ≡ x ∷ drop (suc st.at) st.rows
        rs = (row_some st.at st.rows x e).0

        so : List (Row K) → List (Row K) → plain_machine.Outcome (Row K) SourceFault V
        so r run = going (plain_machine.state (at_rows r) (at_run run) (plain_machine.lone_row (deferred c) c.size (is_outer c.kind) (st.first + st.at) pipe_now) (counts_of n) v plain_machine.passing)

        go : (bf.holding.start < bf.holding.end) ⊎ (bf.holding.end ≤ bf.holding.start) → Follow here v (lone_row c (is_outer c.kind) st bf q n)
        go (inl lt) = absurd (omega (arith, ap length (row_none bf.holding.start bf.rows (sym (cond_is (ltb bf.holding.start bf.holding.end) (lt-ltb _ _ lt)) ∙ f)), length-drop bf.holding.start bf.rows, w.buffered_side.rows_held, w.buffered_side.in_held))
          where
            cond_is : (b : Bool) → b ≡ true → cond b (row_at bf.holding.start bf.rows) None ≡ row_at bf.holding.start bf.rows
            cond_is true e = refl
            cond_is false e = absurd (false≢true e)
        go (inr le) = follows_lone c fits after batch_of sized (is_outer c.kind) st bf q n v here (walk (m ∙ subst (λ r. compare_at r (run_of bf) ≡ so r (run_of bf)) (sym rs) (subst (λ r. compare_at (x ∷ drop (suc st.at) st.rows) r ≡ so (x ∷ drop (suc st.at) st.rows) r) (sym (no_run le)) refl)) stay) z w
    by_rows (Some x) e (Some y) f m = go (ltb bf.holding.start bf.holding.end) refl f
      where
        rs : drop st.at st.rows ≡ x ∷ drop (suc st.at) st.rows
        rs = (row_some st.at st.rows x e).0

        so : List (Row K) → List (Row K) → plain_machine.Outcome (Row K) SourceFault V
        so r run = plain_machine.compared plain (c.across x.key y.key) (at_rows r) (st.first + st.at) run (bf.holding.base + bf.holding.start) (at_run run) pipe_now (counts_of n) v

        go : (b : Bool) → ltb bf.holding.start bf.holding.end ≡ b → cond b (row_at bf.holding.start bf.rows) None ≡ Some y → Follow here v (compared c (c.across x.key y.key) st bf q n)
        go false b f = absurd (let k : ◌≡◌ {A = ℕ} 0 1 = cc in omega arith)
        go true b f =
            let lt = ltb-true _ _ b in
            let ys = (row_some bf.holding.start bf.rows y f).0 in
            let run_is : run_of bf ≡ y ∷ take ((bf.holding.end - bf.holding.start) - 1) (drop (suc bf.holding.start) bf.rows) = ap (λ (k : ℕ). take k (drop bf.holding.start bf.rows)) (one_less lt) ∙ ap (take (suc ((bf.holding.end - bf.holding.start) - 1))) ys in
            by_order (c.across x.key y.key) lt (m ∙ subst (λ r. compare_at r (run_of bf) ≡ so r (run_of bf)) (sym rs) (subst (λ r. compare_at (x ∷ drop (suc st.at) st.rows) r ≡ so (x ∷ drop (suc st.at) st.rows) r) (sym run_is) refl))
          where
            one_less : bf.holding.start < bf.holding.end → bf.holding.end - bf.holding.start ≡ suc ((bf.holding.end - bf.holding.start) - 1)
            one_less lt = omega arith

    pub follows_turn : Follow here v (turn c st bf q n)
    follows_turn =
        let turned : plain_machine.micro plain here ≡ plain_machine.turn plain (streamed_of st) (buffered_of bf) pipe_now (counts_of n) v = calm plain _ _ _ _ _ _ _ (map (oriented c.kind) q.due) _ v _ (ap (map (oriented c.kind)) z) in
        let full = full_is (deferred c) refl bf.holding.base bf.states (bf.holding.base + bf.holding.start) q w.block in
        let flushes = going (plain_machine.state (streamed_of st) (buffered_of bf) (plain_flush (deferred c) pipe_now) (counts_of n) v plain_machine.turning) in
        followed_cond c fits after batch_of sized here v (has_batch c q) _ _
        (λ e. (
          walk (turned ∙ ap (λ (b : Bool). cond b flushes (compare_at (drop st.at st.rows) (run_of bf))) (full ∙ e)
              ∙ ap (λ (p : Pipe). going (plain_machine.state (streamed_of st) (buffered_of bf) p (counts_of n) v plain_machine.turning)) (sym (flushed_is c batch_of bf.holding.base bf.states (bf.holding.base + bf.holding.start) q w.block z))) stay,
          record { streamed_side = w.streamed_side; buffered_side = marked_whole c fits after batch_of sized q bf w.buffered_side; block = flush_whole c batch_of (deferred c) _ q sized; poised = w.poised },
        ))
        (λ e. by_rows (row_at st.at st.rows) refl (run_head c bf) refl (turned ∙ ap (λ (b : Bool). cond b flushes (compare_at (drop st.at st.rows) (run_of bf))) (full ∙ e)))
