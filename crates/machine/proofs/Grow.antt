-- The plain machine follows the seed of a run and its growth.
use Rattle.std.proofs.Common.{◌≡◌, ℕ, zero, suc, ◌+◌, ◌-◌, ◌<◌, ◌≤◌, min, Bool, true, false, ltb, List, [], ◌∷◌, ◌++◌, map, length, take, drop, Some, None, Ok, Option, sym, refl, ap, ◌∙◌, subst, true≢false, arith, length-append, length-drop, drop-drop, take-add}
use Rattle.std.proofs.lemmas.List.{drop_all}
use Rattle.std.proofs.lemmas.Bool.{ltb-true, ltb-false}
use Rattle.rows.specs.declared.record.Record.{Record}
use Rattle.rows.specs.declared.row.Row.{Row}
use Rattle.rows.specs.Order.{is_same}
use Rattle.sources.specs.declared.fault.SourceFault.{SourceFault}
use Rattle.sources.specs.Meaning.{Closing}
use Rattle.rows.specs.Sides.{oriented}
use Rattle.law.specs.Pipe.{Pipe}
use Rattle.law.specs.Machine as plain_machine
use Rattle.law.specs.Machine.{going}
use Rattle.pipeline.specs.declared.batch.BufferedBatch.{BufferedBatch}
use Rattle.pipeline.specs.declared.states.FilterState.{FilterState}
use Rattle.pipeline.specs.Batches.{rows_of}
use Rattle.pipeline.specs.Block.{Queued}
use Rattle.pipeline.specs.Held.{Holding, on_last, longer, begun, extended, seeded, same_run, most_end}
use Rattle.machine.specs.Machine.{Setting, seeding, extending, closing, Streamed, Buffered, Counts, core, Outcome, load, seed, extend, extend_from, with_holding, no_more, row_at, most_rows}
use Rattle.machine.specs.Machine.{going as goes}
use Rattle.machine.proofs.Plain.{streamed_of, buffered_of, run_of, counts_of, plain_setting, pipe_of, state_at, size_of, Whole, WholeBuffered, WholeBlock, Drained, Growing, reach, FullButLast, first_start, first_rows}
use Rattle.machine.proofs.Follows.{Walk, stay, walk, walk_to, walk_from, calm, PlainState, Followed, followed_cond, row_some, row_none, next_drop}
use Rattle.machine.proofs.Load.{sizes_on_last, rows_on_last, full_longer, reach_longer, start_longer, start_push, rows_longer, first_push, same_few, same_ends, follow_after, walk_run, follows_load}

one_batch : (l : List BufferedBatch) → length l ≤ 1 → 0 < rows_of l → (b : BufferedBatch) × (l ≡ b ∷ [])
one_batch [] h k = absurd (omega arith)
one_batch (b ∷ []) h k = (b, refl)
one_batch (b ∷ d ∷ l) h k = absurd (omega arith)

some_batch : (l : List BufferedBatch) → 0 < reach l → (b : BufferedBatch) × (r : List BufferedBatch) × (l ≡ b ∷ r)
some_batch [] h = absurd (omega arith)
some_batch (b ∷ l) h = (b, l, refl)

module _ {K V : Type 0} (c : Setting K) (fits : V → Record → Bool) (after : V → Record → V) (batch_of : ℕ → ℕ) (sized : 1 ≤ c.size) where
  abbrev plain : plain_machine.Setting (Row K) V
  plain = plain_setting c fits after

  abbrev State : Type 0
  State = PlainState c fits after batch_of sized

  abbrev Follow : State → V → Outcome K → Type 0
  Follow = Followed c fits after batch_of sized

  abbrev side : List (List (Row K)) → Closing → Holding → List (Row K) → List FilterState → Bool → Option (Row K) → Buffered K
  side l e h rows states en last = record { batches = l; closing = e; holding = h; rows = rows; states = states; ended = en; last = last }

  -- the source does not matter
  side_whole : (bf : Buffered K) → WholeBuffered c bf → (l : List (List (Row K))) (e : Closing) (en : Bool) → WholeBuffered c (side l e bf.holding bf.rows bf.states en bf.last)
  side_whole bf h l e en = record { rows_held = h.rows_held; states_held = h.states_held; batches_held = h.batches_held; run = h.run; in_held = h.in_held; few = h.few; in_table = h.in_table; tiled = h.tiled; reaches = h.reaches }

  -- ---- the seed

  seed_open : (first : Bool) (l : List (List (Row K))) (e : Closing) (h : Holding) (rows : List (Row K)) (states : List FilterState) (last : Option (Row K)) (st : Streamed K) (q : Queued) (n : Counts) (v : V) → q.due ≡ []
      → Whole c batch_of st (side l e h rows states false last) q (seeding first) → Follow (state_at c st (side l e h rows states false last) q n (seeding first) v) v (seed c first st (side l e h rows states false last) q n)
  seed_open first l e h rows states last st q n v z w =
      followed_cond c fits after batch_of sized s v (ltb h.end h.held) _ _ (λ t. begins (drop h.end rows) refl (ltb-true _ _ t)) (λ t. loads (ltb-false _ _ t))
    where
      b : WholeBuffered c (side l e h rows states false last)
      b = w.buffered_side

      d : Drained h false
      d = w.poised.1

      s : State
      s = state_at c st (side l e h rows states false last) q n (seeding first) v

      sizes : List ℕ
      sizes = map size_of h.batches

      p : Pipe
      p = pipe_of c h.base states q

      stepped : plain_machine.micro plain s ≡ plain_machine.seed plain first (streamed_of st) (buffered_of (side l e h rows states false last)) p (counts_of n) v
      stepped = calm plain _ _ _ _ _ _ _ (map (oriented c.kind) q.due) _ v _ (ap (map (oriented c.kind)) z)

      seed_at : List (Row K) → plain_machine.Outcome (Row K) SourceFault V
      seed_at beyond = plain_machine.seed plain first (streamed_of st) (plain_machine.buffered l e sizes (h.base + h.start) (take (h.end - h.start) (drop h.start rows)) beyond false h.matched last) p (counts_of n) v

      begun_at : List ℕ → ℕ → List (Row K) → List (Row K) → plain_machine.Outcome (Row K) SourceFault V
      begun_at sz f run beyond = going (plain_machine.state (streamed_of st) (plain_machine.buffered l e sz f run beyond false false last) p (counts_of n) v (plain_machine.extending first))

      begins : (beyond : List (Row K)) → drop h.end rows ≡ beyond → h.end < h.held → Follow s v (goes (core st (with_holding c (seeded h) (side l e h rows states false last)) q n (extending first)))
      begins [] k lt = absurd (omega (arith, length-drop h.end rows, ap length k, b.rows_held))
      begins (x ∷ beyond) k lt =
          let one = one_batch h.batches d.one (omega (arith, b.batches_held)) in
          let last_batch = one.0 in
          let reach_one : last_batch.end ≡ h.end = ap reach (sym one.1) ∙ b.reaches in (
            walk (stepped ∙ ap seed_at k
                ∙ ap (λ (a : List ℕ). begun_at a (h.base + h.start) (x ∷ []) beyond) (sym (sizes_on_last begun (λ b. refl) h.batches))
                ∙ ap (λ (a : ℕ). begun_at (map size_of (on_last begun h.batches)) (h.base + a) (x ∷ []) beyond) d.none
                ∙ ap (λ (a : List (Row K)). begun_at (map size_of (on_last begun h.batches)) (h.base + h.end) a beyond) (sym (ap (λ (m : ℕ). take m (drop h.end rows)) one_more ∙ ap (take (suc zero)) k))
                ∙ ap (begun_at (map size_of (on_last begun h.batches)) (h.base + h.end) (take ((h.end + 1) - h.end) (drop h.end rows))) (sym (next_drop c fits after batch_of sized h.end rows x beyond k))) stay,
            record {
              streamed_side = w.streamed_side;
              buffered_side = record {
                rows_held = b.rows_held;
                states_held = b.states_held;
                batches_held = rows_on_last begun (λ b. refl) h.batches ∙ b.batches_held;
                run = omega arith;
                in_held = omega arith;
                few = b.few;
                in_table = b.in_table;
                tiled = subst (λ m. FullButLast (on_last begun m)) (sym one.1) tt;
                reaches = ap (λ (m : List BufferedBatch). reach (on_last begun m)) one.1 ∙ least last_batch reach_one (omega (arith, b.few));
              };
              block = subst (λ m. WholeBlock c batch_of (h.base + m) q) d.none w.block;
              poised = (w.poised.0, record { some = omega arith; begun = ap (λ (m : List BufferedBatch). first_start (on_last begun m)) one.1 ∙ reach_one; in_first = subst (λ m. h.end ≤ first_rows (on_last begun m)) (sym one.1) (omega (arith, b.in_held, b.batches_held, ap rows_of one.1)); not_ended = refl });
            },
          )
        where
          one_more : (h.end + 1) - h.end ≡ suc zero
          one_more = omega arith

          least : (m : BufferedBatch) → m.end ≡ h.end → h.end + 1 ≤ most_rows → min (m.end + 1) most_end ≡ h.end + 1
          least m e k = omega arith

      load_at : List (Row K) → Bool → plain_machine.Outcome (Row K) SourceFault V
      load_at run m = plain_machine.load plain at_end (plain_machine.seeding first) (streamed_of st) l e sizes (h.base + h.start) run m last p (counts_of n) v
        where
          at_end : plain_machine.Outcome (Row K) SourceFault V
          at_end = going (plain_machine.state (streamed_of st) (plain_machine.buffered [] (Ok tt) sizes (h.base + h.start) [] [] true false last) p (counts_of n) v (plain_machine.closing first))

      loads : h.held ≤ h.end → Follow s v (load c (goes (core st (no_more c (side l e h rows states false last)) q n (closing first))) (seeding first) st (side l e h rows states false last) q n)
      loads le =
          let all : h.end ≡ h.held = omega (arith, b.in_held) in
          let none_here : take (h.end - h.start) (drop h.start rows) ≡ [] = ap (λ (m : ℕ). take m (drop h.start rows)) zero_left in
          let none_past : drop h.end rows ≡ [] = drop_all h.end rows (omega (arith, b.rows_held)) in
          let ends : plain_machine.Outcome (Row K) SourceFault V = going (plain_machine.state (streamed_of st) (plain_machine.buffered [] (Ok tt) sizes (h.base + h.start) [] [] true false last) p (counts_of n) v (plain_machine.closing first)) in
          follows_load c fits after batch_of sized h rows states last (seeding first) st q n v s
          (record {
            streamed_side = w.streamed_side;
            buffered_side = λ l' e'. side_whole (side l e h rows states false last) b l' e' false;
            block = w.block;
            all_in = all;
            poised = w.poised;
            next = λ m lo. (w.poised.0, record { none = d.none; one = omega (arith, length-append h.batches (record { rows = m; start = 0; end = 0 } ∷ []), ap length (d.emptied all)); emptied = λ k. absurd (omega (arith, k)); unmatched = d.unmatched; not_ended = refl });
          })
          (goes (core st (no_more c (side l e h rows states false last)) q n (closing first))) ends l e
          (stepped ∙ ap seed_at none_past ∙ ap (λ (m : List (Row K)). load_at m false) (sym none_here) ∙ ap (load_at (take (h.end - h.start) (drop h.start rows))) (sym d.unmatched))
          (λ el ee m. (
            walk (m
                ∙ ap (λ (a : List (Row K)). ended_at [] (Ok tt) a [] false) (sym none_here)
                ∙ ap (λ (a : List (Row K)). ended_at [] (Ok tt) (take (h.end - h.start) (drop h.start rows)) a false) (sym none_past)
                ∙ ap (ended_at [] (Ok tt) (take (h.end - h.start) (drop h.start rows)) (drop h.end rows)) (sym d.unmatched)
                ∙ ap (λ (a : List (List (Row K))). ended_at a (Ok tt) (take (h.end - h.start) (drop h.start rows)) (drop h.end rows) h.matched) (sym el)
                ∙ ap (λ (a : Closing). ended_at l a (take (h.end - h.start) (drop h.start rows)) (drop h.end rows) h.matched) (sym ee)) stay,
            record { streamed_side = w.streamed_side; buffered_side = side_whole (side l e h rows states false last) b l e true; block = w.block; poised = (w.poised.0, λ lt. absurd (omega (arith, d.none, lt))) },
          ))
        where
          zero_left : h.end - h.start ≡ zero
          zero_left = omega (arith, d.none)

          ended_at : List (List (Row K)) → Closing → List (Row K) → List (Row K) → Bool → plain_machine.Outcome (Row K) SourceFault V
          ended_at bl be run beyond m = going (plain_machine.state (streamed_of st) (plain_machine.buffered bl be sizes (h.base + h.start) run beyond true m last) p (counts_of n) v (plain_machine.closing first))

  pub follows_seed : (first : Bool) (st : Streamed K) (bf : Buffered K) (q : Queued) (n : Counts) (v : V) → q.due ≡ [] → Whole c batch_of st bf q (seeding first) → Follow (state_at c st bf q n (seeding first) v) v (seed c first st bf q n)
  follows_seed first st bf q n v z w = go bf.ended w.poised.1.not_ended w
    where
      go : (en : Bool) → en ≡ false → Whole c batch_of st (side bf.batches bf.closing bf.holding bf.rows bf.states en bf.last) q (seeding first)
          → Follow (state_at c st (side bf.batches bf.closing bf.holding bf.rows bf.states en bf.last) q n (seeding first) v) v (seed c first st (side bf.batches bf.closing bf.holding bf.rows bf.states en bf.last) q n)
      go true h w = absurd (true≢false h)
      go false h w = seed_open first bf.batches bf.closing bf.holding bf.rows bf.states bf.last st q n v z w

  -- ---- the growth

  module _ (first : Bool) (l : List (List (Row K))) (e : Closing) (h : Holding) (rows : List (Row K)) (states : List FilterState) (last : Option (Row K)) (st : Streamed K) (q : Queued) (n : Counts) (v : V) (z : q.due ≡ []) (y : Row K) where
    abbrev more : ℕ
    more = same_run c.within y.key (drop h.end rows)

    abbrev grown : Holding
    grown = extended more h

    abbrev before : Buffered K
    before = side l e h rows states false last

    abbrev on : Buffered K
    on = side l e grown rows states false last

    grown_whole : WholeBuffered c before → Growing h false → WholeBuffered c on
    grown_whole b g =
        let few_more = same_few c.within y.key (drop h.end rows) in
        let some = some_batch h.batches (omega (arith, b.reaches, g.some)) in
        record {
          rows_held = b.rows_held;
          states_held = b.states_held;
          batches_held = rows_on_last (longer more) (λ b. refl) h.batches ∙ b.batches_held;
          run = omega (arith, b.run);
          in_held = omega (arith, few_more, length-drop h.end rows, b.rows_held, b.in_held);
          few = b.few;
          in_table = b.in_table;
          tiled = full_longer more h.batches b.tiled;
          reaches = subst (λ m. reach m ≡ h.end → reach (on_last (longer more) m) ≡ h.end + more) (sym some.2) (λ r. reach_longer more some.0 some.1 (omega (arith, r, few_more, length-drop h.end rows, b.rows_held, b.in_held, b.few)) ∙ ap (λ (k : ℕ). k + more) r) b.reaches;
        }

    abbrev at_sides : List ℕ → List (Row K) → List (Row K) → State
    at_sides sz run beyond = plain_machine.state (streamed_of st) (plain_machine.buffered l e sz (h.base + h.start) run beyond false h.matched last) (pipe_of c h.base states q) (counts_of n) v (plain_machine.extending first)

    -- the rows of the run that stand behind the first
    tail_of : WholeBuffered c before → Growing h false → row_at h.start rows ≡ Some y → (r : List (Row K)) × (take (h.end - h.start) (drop h.start rows) ≡ y ∷ r)
    tail_of b g a = (take ((h.end - h.start) - 1) (drop (suc h.start) rows), ap (λ (k : ℕ). take k (drop h.start rows)) one_less ∙ ap (take (suc ((h.end - h.start) - 1))) (row_some h.start rows y a).0)
      where
        one_less : h.end - h.start ≡ suc ((h.end - h.start) - 1)
        one_less = omega (arith, g.some)

    longer_run : WholeBuffered c before → take ((h.end + more) - h.start) (drop h.start rows) ≡ take (h.end - h.start) (drop h.start rows) ++ take more (drop h.end rows)
    longer_run b = ap (λ (k : ℕ). take k (drop h.start rows)) both ∙ take-add (h.end - h.start) more (drop h.start rows) ∙ ap (λ (r : List (Row K)). take (h.end - h.start) (drop h.start rows) ++ take more r) (drop-drop (h.end - h.start) h.start rows ∙ ap (λ (k : ℕ). drop k rows) whole)
      where
        both : (h.end + more) - h.start ≡ (h.end - h.start) + more
        both = omega (arith, b.run)

        whole : h.start + (h.end - h.start) ≡ h.end
        whole = omega (arith, b.run)

    walks : WholeBuffered c before → Growing h false → row_at h.start rows ≡ Some y → Walk plain (state_at c st before q n (extending first) v) (state_at c st on q n (extending first) v)
    walks b g a =
        let t = tail_of b g a in
        walk_to plain
        (walk_from plain (walk_run c fits after batch_of sized (streamed_of st) l e (map size_of h.batches) (h.base + h.start) y t.0 (drop h.end rows) false h.matched last _ _ _ _ _ (map (oriented c.kind) q.due) (counts_of n) v first (ap (map (oriented c.kind)) z))
        (ap (λ (r : List (Row K)). at_sides (map size_of h.batches) r (drop h.end rows)) (sym t.1)))
        (ap (λ (r : List (Row K)). at_sides (map size_of h.batches) (r ++ take more (drop h.end rows)) (drop more (drop h.end rows))) (sym t.1)
        ∙ ap (λ (r : List (Row K)). at_sides (map size_of h.batches) r (drop more (drop h.end rows))) (sym (longer_run b))
        ∙ ap (at_sides (map size_of h.batches) (take ((h.end + more) - h.start) (drop h.start rows))) (drop-drop more h.end rows)
        ∙ ap (λ (sz : List ℕ). at_sides sz (take ((h.end + more) - h.start) (drop h.start rows)) (drop (h.end + more) rows)) (sym (sizes_on_last (longer more) (λ b. refl) h.batches)))

    grown_head : WholeBuffered c before → Growing h false → row_at h.start rows ≡ Some y → (r : List (Row K)) × (run_of on ≡ y ∷ r)
    grown_head b g a = let t = tail_of b g a in (t.0 ++ take more (drop h.end rows), longer_run b ∙ ap (λ (r : List (Row K)). r ++ take more (drop h.end rows)) t.1)

    stepped : plain_machine.micro plain (state_at c st on q n (extending first) v) ≡ plain_machine.extend plain first (streamed_of st) (buffered_of on) (pipe_of c h.base states q) (counts_of n) v
    stepped = calm plain _ _ _ _ _ _ _ (map (oriented c.kind) q.due) _ v _ (ap (map (oriented c.kind)) z)

    abbrev extend_at : List (Row K) → List (Row K) → plain_machine.Outcome (Row K) SourceFault V
    extend_at run beyond = plain_machine.extend plain first (streamed_of st) (plain_machine.buffered l e (map size_of grown.batches) (h.base + h.start) run beyond false h.matched last) (pipe_of c h.base states q) (counts_of n) v

    abbrev closed_at : List (List (Row K)) → Closing → List (Row K) → List (Row K) → plain_machine.Outcome (Row K) SourceFault V
    closed_at bl be run beyond = going (plain_machine.state (streamed_of st) (plain_machine.buffered bl be (map size_of grown.batches) (h.base + h.start) run beyond false h.matched last) (pipe_of c h.base states q) (counts_of n) v (plain_machine.closing first))

    -- the next row begins another run
    stops_there : (run beyond r b : List (Row K)) (x : Row K) → run ≡ y ∷ r → beyond ≡ x ∷ b → is_same (c.within y.key x.key) ≡ false → extend_at run beyond ≡ closed_at l e run beyond
    stops_there run beyond r b x er eb t = subst (λ u. extend_at u beyond ≡ closed_at l e u beyond) (sym er) (subst (λ u. extend_at (y ∷ r) u ≡ closed_at l e (y ∷ r) u) (sym eb) (rw t))

    abbrev load_at : plain_machine.Outcome (Row K) SourceFault V → List (Row K) → plain_machine.Outcome (Row K) SourceFault V
    load_at o run = plain_machine.load plain o (plain_machine.extending first) (streamed_of st) l e (map size_of grown.batches) (h.base + h.start) run h.matched last (pipe_of c h.base states q) (counts_of n) v

    -- no row is held past the run
    loads_there : (run beyond r : List (Row K)) → run ≡ y ∷ r → beyond ≡ [] → extend_at run beyond ≡ load_at (closed_at [] (Ok tt) run []) run
    loads_there run beyond r er eb = subst (λ u. extend_at u beyond ≡ load_at (closed_at [] (Ok tt) u []) u) (sym er) (ap (extend_at (y ∷ r)) eb)

    grows : Whole c batch_of st before q (extending first) → row_at h.start rows ≡ Some y → Follow (state_at c st before q n (extending first) v) v (extend_from c (Some y) first st before q n)
    grows w a =
        followed_cond c fits after batch_of sized (state_at c st before q n (extending first) v) v (ltb (h.end + more) h.held) _ _
        (λ t. follow_after c fits after batch_of sized _ (state_at c st on q n (extending first) v) v (goes (core st on q n (closing first))) along (ends (drop (h.end + more) rows) refl (ltb-true _ _ t)))
        (λ t. follow_after c fits after batch_of sized _ (state_at c st on q n (extending first) v) v (load c (goes (core st on q n (closing first))) (extending first) st on q n) along (loads (ltb-false _ _ t)))
      where
        g : Growing h false
        g = w.poised.1

        b : WholeBuffered c before
        b = w.buffered_side

        b' : WholeBuffered c on
        b' = grown_whole b g

        along : Walk plain (state_at c st before q n (extending first) v) (state_at c st on q n (extending first) v)
        along = walks b g a

        start_same : first_start grown.batches ≡ h.start
        start_same = start_longer more h.batches ∙ g.begun

        rows_same : h.start ≤ first_rows grown.batches
        rows_same = omega (arith, rows_longer more h.batches, g.in_first)

        ends : (beyond : List (Row K)) → drop (h.end + more) rows ≡ beyond → h.end + more < h.held → Follow (state_at c st on q n (extending first) v) v (goes (core st on q n (closing first)))
        ends [] k lt = absurd (omega (arith, length-drop (h.end + more) rows, ap length k, b.rows_held))
        ends (x ∷ r) k lt = (
          walk (stepped ∙ stops_there (run_of on) (drop (h.end + more) rows) (grown_head b g a).0 r x (grown_head b g a).1 k (same_ends c.within y.key (drop h.end rows) x r (drop-drop more h.end rows ∙ k))) stay,
          record { streamed_side = w.streamed_side; buffered_side = b'; block = w.block; poised = (w.poised.0, λ _. (start_same, rows_same)) },
        )

        loads : h.held ≤ h.end + more → Follow (state_at c st on q n (extending first) v) v (load c (goes (core st on q n (closing first))) (extending first) st on q n)
        loads le =
            let none_past : drop (h.end + more) rows ≡ [] = drop_all (h.end + more) rows (omega (arith, b.rows_held)) in
            follows_load c fits after batch_of sized grown rows states last (extending first) st q n v (state_at c st on q n (extending first) v)
            (record {
              streamed_side = w.streamed_side;
              buffered_side = λ l' e'. side_whole on b' l' e' false;
              block = w.block;
              all_in = omega (arith, b'.in_held);
              poised = (w.poised.0, record { some = omega (arith, g.some); begun = start_same; in_first = rows_same; not_ended = refl });
              next = λ m lo. (w.poised.0, record { some = omega (arith, g.some); begun = start_push grown.batches (record { rows = m; start = 0; end = 0 }) (omega (arith, b'.reaches, g.some)) ∙ start_same; in_first = omega (arith, rows_same, first_push grown.batches (record { rows = m; start = 0; end = 0 })); not_ended = refl });
            })
            (goes (core st on q n (closing first))) (closed_at [] (Ok tt) (run_of on) []) l e
            (stepped ∙ loads_there (run_of on) (drop (h.end + more) rows) (grown_head b g a).0 (grown_head b g a).1 none_past)
            (λ el ee m. (
              walk (m
                  ∙ ap (closed_at [] (Ok tt) (run_of on)) (sym none_past)
                  ∙ ap (λ (u : List (List (Row K))). closed_at u (Ok tt) (run_of on) (drop (h.end + more) rows)) (sym el)
                  ∙ ap (λ (u : Closing). closed_at l u (run_of on) (drop (h.end + more) rows)) (sym ee)) stay,
              record { streamed_side = w.streamed_side; buffered_side = b'; block = w.block; poised = (w.poised.0, λ _. (start_same, rows_same)) },
            ))

  pub follows_extend : (first : Bool) (st : Streamed K) (bf : Buffered K) (q : Queued) (n : Counts) (v : V) → q.due ≡ [] → Whole c batch_of st bf q (extending first) → Follow (state_at c st bf q n (extending first) v) v (extend c first st bf q n)
  follows_extend first st bf q n v z w = go bf.ended w.poised.1.not_ended w (row_at bf.holding.start bf.rows) refl
    where
      go : (en : Bool) → en ≡ false → Whole c batch_of st (side bf.batches bf.closing bf.holding bf.rows bf.states en bf.last) q (extending first) → (o : Option (Row K)) → row_at bf.holding.start bf.rows ≡ o
          → Follow (state_at c st (side bf.batches bf.closing bf.holding bf.rows bf.states en bf.last) q n (extending first) v) v (extend_from c o first st (side bf.batches bf.closing bf.holding bf.rows bf.states en bf.last) q n)
      go true h w o a = absurd (true≢false h)
      go false h w None a = absurd (omega (arith, ap length (row_none bf.holding.start bf.rows a), length-drop bf.holding.start bf.rows, w.poised.1.some, w.buffered_side.rows_held, w.buffered_side.in_held))
      go false h w (Some y) a = grows first bf.batches bf.closing bf.holding bf.rows bf.states bf.last st q n v z y w a
