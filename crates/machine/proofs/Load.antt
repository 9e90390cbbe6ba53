-- The plain machine follows the load of a buffered batch, the seed of a run, and its growth.
use Rattle.std.proofs.Common.{◌≡◌, ℕ, zero, suc, ◌+◌, ◌-◌, ◌<◌, ◌≤◌, Bool, true, false, cond, leb, List, [], ◌∷◌, ◌++◌, map, length, take, drop, replicate, Some, None, Ok, Err, Option, Ordering, sym, refl, ap, ◌∙◌, append_assoc, append-nil, arith, length-append, length-drop, length-take}
use mathlib.Core.List.{nil≢cons}
use lib.ListN.{length-map, length-replicate}
use Rattle.std.proofs.lemmas.List.{drop_all, drop_at, drop-append-le, take-append-le, map-append}
use Rattle.std.proofs.lemmas.Bool.{leb-true}
use Rattle.rows.specs.declared.record.Record.{Record}
use Rattle.rows.specs.declared.row.Row.{Row}
use Rattle.rows.specs.Order.{is_same}
use Rattle.sources.specs.declared.fault.SourceFault.{SourceFault}
use Rattle.sources.specs.Meaning.{Closing}
use Rattle.rows.specs.Sides.{buffered_side, oriented}
use Rattle.merge.specs.Merging.{by_key}
use Rattle.law.specs.Pipe.{Mark, unseen, Pipe, pipe}
use Rattle.law.specs.Pipe.{Entry as plain_entry}
use Rattle.law.specs.Machine as plain_machine
use Rattle.law.specs.Machine.{going}
use Rattle.pipeline.specs.declared.batch.BufferedBatch.{BufferedBatch}
use Rattle.pipeline.specs.declared.states.FilterState.{FilterState}
use Rattle.pipeline.specs.declared.states.FilterState.TheVariants.{Unvisited}
use Rattle.pipeline.specs.Batches.{rows_of}
use Rattle.pipeline.specs.Block.{Queued}
use Rattle.pipeline.specs.Held.{Holding, on_last, longer, same_run, most_end}
use Rattle.pipeline.specs.Held.{pushed as with_batch}
use Rattle.machine.specs.declared.fault.JoinFault.TheVariants.{Unsorted, TableFull, TooManyBatches, TooManyRows, Source}
use Rattle.machine.specs.Machine.{Setting, Phase, Streamed, Buffered, Counts, Outcome, disorder, last_of, load_checked, load_from, most_rows, most_batches}
use Rattle.machine.specs.Machine.{going as goes, answered as says}
use Rattle.machine.proofs.Entries.{mark_of, entry_of, place_of}
use Rattle.machine.proofs.Plain.{phase_of, streamed_of, buffered_of, counts_of, plain_setting, pipe_of, size_of, WholeStreamed, WholeBuffered, WholeBlock, Poised, reach, FullButLast, first_start, first_rows}
use Rattle.machine.proofs.Follows.{Walk, stay, walk, walk_on, walk_to, calm, PlainState, Followed, followed_cond}
use Rattle.machine.proofs.Fetch.{disorder_is, last_is, side_buffered, stops_with}

-- ---- batches

pub rows_push : (l : List BufferedBatch) (b : BufferedBatch) → rows_of (l ++ b ∷ []) ≡ rows_of l + b.rows
rows_push [] b = omega arith
rows_push (d ∷ l) b = omega (arith, rows_push l b)

pub reach_push : (l : List BufferedBatch) (b : BufferedBatch) → reach (l ++ b ∷ []) ≡ rows_of l + b.end
reach_push [] b = omega arith
reach_push (d ∷ []) b = omega arith
reach_push (d ∷ e ∷ l) b = omega (arith, reach_push (e ∷ l) b)

full_push : (l : List BufferedBatch) (b : BufferedBatch) → FullButLast l → reach l ≡ rows_of l → FullButLast (l ++ b ∷ [])
full_push [] b h e = tt
full_push (d ∷ []) b h e = (omega arith, tt)
full_push (d ∷ f ∷ l) b h e = (h.0, full_push (f ∷ l) b h.1 (omega arith))

pub sizes_on_last : (f : BufferedBatch → BufferedBatch) → ((b : BufferedBatch) → (f b).rows ≡ b.rows) → (l : List BufferedBatch) → map size_of (on_last f l) ≡ map size_of l
sizes_on_last f h [] = refl
sizes_on_last f h (b ∷ []) = ap (λ (n : ℕ). n ∷ []) (h b)
sizes_on_last f h (b ∷ d ∷ l) = ap (λ (q : List ℕ). b.rows ∷ q) (sizes_on_last f h (d ∷ l))

pub rows_on_last : (f : BufferedBatch → BufferedBatch) → ((b : BufferedBatch) → (f b).rows ≡ b.rows) → (l : List BufferedBatch) → rows_of (on_last f l) ≡ rows_of l
rows_on_last f h [] = refl
rows_on_last f h (b ∷ []) = omega (arith, h b)
rows_on_last f h (b ∷ d ∷ l) = omega (arith, rows_on_last f h (d ∷ l))

pub full_longer : (k : ℕ) (l : List BufferedBatch) → FullButLast l → FullButLast (on_last (longer k) l)
full_longer k [] h = tt
full_longer k (b ∷ []) h = tt
full_longer k (b ∷ d ∷ []) h = (h.0, tt)
full_longer k (b ∷ d ∷ e ∷ l) h = (h.0, full_longer k (d ∷ e ∷ l) h.1)

pub reach_longer : (k : ℕ) (b : BufferedBatch) (l : List BufferedBatch) → reach (b ∷ l) + k ≤ most_end → reach (on_last (longer k) (b ∷ l)) ≡ reach (b ∷ l) + k
reach_longer k b [] h = omega arith
reach_longer k b (d ∷ []) h = omega arith
reach_longer k b (d ∷ e ∷ l) h = omega (arith, reach_longer k d (e ∷ l) (omega arith))

pub start_longer : (k : ℕ) (l : List BufferedBatch) → first_start (on_last (longer k) l) ≡ first_start l
start_longer k [] = refl
start_longer k (b ∷ []) = refl
start_longer k (b ∷ d ∷ l) = refl

pub start_push : (l : List BufferedBatch) (b : BufferedBatch) → 0 < reach l → first_start (l ++ b ∷ []) ≡ first_start l
start_push [] b h = absurd (omega arith)
start_push (d ∷ l) b h = refl

pub rows_longer : (k : ℕ) (l : List BufferedBatch) → first_rows (on_last (longer k) l) ≡ first_rows l
rows_longer k [] = refl
rows_longer k (b ∷ []) = refl
rows_longer k (b ∷ d ∷ l) = refl

pub first_push : (l : List BufferedBatch) (b : BufferedBatch) → first_rows l ≤ first_rows (l ++ b ∷ [])
first_push [] b = omega arith
first_push (d ∷ l) b = omega arith

sizes_total : (l : List BufferedBatch) → plain_machine.total_size (map size_of l) ≡ rows_of l
sizes_total [] = refl
sizes_total (b ∷ l) = ap (λ (k : ℕ). b.rows + k) (sizes_total l)

marks_push : (l : List FilterState) (n : ℕ) → map mark_of (l ++ replicate n Unvisited) ≡ map mark_of l ++ replicate n unseen
marks_push [] zero = refl
marks_push [] (suc n) = ap (λ (q : List Mark). unseen ∷ q) (marks_push [] n)
marks_push (s ∷ l) n = ap (λ (q : List Mark). mark_of s ∷ q) (marks_push l n)

-- ---- the run

pub same_few : {K : Type 0} (within : K → K → Ordering) (key : K) (l : List (Row K)) → same_run within key l ≤ length l
same_few within key [] = omega arith
same_few within key (x ∷ l) = go (is_same (within key x.key)) (same_few within key l)
  where
    go : (t : Bool) → same_run within key l ≤ length l → cond t (suc (same_run within key l)) 0 ≤ suc (length l)
    go true h = omega arith
    go false h = omega arith

pub same_ends : {K : Type 0} (within : K → K → Ordering) (key : K) (l : List (Row K)) (z : Row K) (r : List (Row K)) → drop (same_run within key l) l ≡ z ∷ r → is_same (within key z.key) ≡ false
same_ends within key [] z r e = go (same_run within key []) e
  where
    go : (n : ℕ) → drop n [] ≡ z ∷ r → is_same (within key z.key) ≡ false
    go zero e = absurd (nil≢cons e)
    go (suc n) e = absurd (nil≢cons e)
same_ends within key (x ∷ l) z r e = go (is_same (within key x.key)) refl e (same_ends within key l z r)
  where
    go : (t : Bool) → is_same (within key x.key) ≡ t → drop (cond t (suc (same_run within key l)) 0) (x ∷ l) ≡ z ∷ r → (drop (same_run within key l) l ≡ z ∷ r → is_same (within key z.key) ≡ false) → is_same (within key z.key) ≡ false
    go true t e h = h e
    go false t e h = let w : x ≡ z = cc in ap (λ (y : Row _). is_same (within key y.key)) (sym w) ∙ t

module _ {K V : Type 0} (c : Setting K) (fits : V → Record → Bool) (after : V → Record → V) (batch_of : ℕ → ℕ) (sized : 1 ≤ c.size) where
  abbrev plain : plain_machine.Setting (Row K) V
  plain = plain_setting c fits after

  abbrev State : Type 0
  State = PlainState c fits after batch_of sized

  abbrev Follow : State → V → Outcome K → Type 0
  Follow = Followed c fits after batch_of sized

  pub follow_after : (s s' : State) (v : V) (o : Outcome K) → Walk plain s s' → Follow s' v o → Follow s v o
  follow_after s s' v (goes t) w h = (walk_on plain w h.0, h.1)
  follow_after s s' v (says a t) w h = (h.0, walk_on plain w h.1, h.2, h.3)

  -- rows join the run one by one
  pub walk_run : (st : plain_machine.Streamed (Row K) SourceFault) (l : List (List (Row K))) (e : Closing) (sizes : List ℕ) (first : ℕ) (y : Row K) (run beyond : List (Row K)) (en m : Bool) (last : Option (Row K)) (base : ℕ) (marks : List Mark) (noted : List ℕ) (unfrozen entries : List plain_entry) (due : List Record) (n : plain_machine.Counts) (v : V) (f : Bool) → due ≡ []
      → Walk plain (plain_machine.state st (plain_machine.buffered l e sizes first (y ∷ run) beyond en m last) (pipe base marks noted unfrozen entries due) n v (plain_machine.extending f))
      (plain_machine.state st (plain_machine.buffered l e sizes first ((y ∷ run) ++ take (same_run c.within y.key beyond) beyond) (drop (same_run c.within y.key beyond) beyond) en m last) (pipe base marks noted unfrozen entries due) n v (plain_machine.extending f))
  walk_run st l e sizes first y run [] en m last base marks noted unfrozen entries due n v f z =
      walk_to plain stay (ap (λ (r : List (Row K)). plain_machine.state st (plain_machine.buffered l e sizes first r [] en m last) (pipe base marks noted unfrozen entries due) n v (plain_machine.extending f)) (sym (append-nil (y ∷ run))))
  walk_run st l e sizes first y run (x ∷ beyond) en m last base marks noted unfrozen entries due n v f z = go (is_same (c.within y.key x.key)) refl (walk_run st l e sizes first y (run ++ x ∷ []) beyond en m last base marks noted unfrozen entries due n v f z)
    where
      at_run : List (Row K) → List (Row K) → State
      at_run r b = plain_machine.state st (plain_machine.buffered l e sizes first r b en m last) (pipe base marks noted unfrozen entries due) n v (plain_machine.extending f)

      go : (t : Bool) → is_same (c.within y.key x.key) ≡ t → Walk plain (at_run (y ∷ (run ++ x ∷ [])) beyond) (at_run ((y ∷ (run ++ x ∷ [])) ++ take (same_run c.within y.key beyond) beyond) (drop (same_run c.within y.key beyond) beyond))
          → Walk plain (at_run (y ∷ run) (x ∷ beyond)) (at_run ((y ∷ run) ++ take (cond t (suc (same_run c.within y.key beyond)) 0) (x ∷ beyond)) (drop (cond t (suc (same_run c.within y.key beyond)) 0) (x ∷ beyond)))
      go true t h = walk (calm plain st _ base marks noted unfrozen entries due n v (plain_machine.extending f) z ∙ ap (λ (b : Bool). cond b (going (at_run (y ∷ (run ++ x ∷ [])) beyond)) (going (plain_machine.state st (plain_machine.buffered l e sizes first (y ∷ run) (x ∷ beyond) en m last) (pipe base marks noted unfrozen entries due) n v (plain_machine.closing f)))) t)
          (walk_to plain h (ap (λ (r : List (Row K)). at_run r (drop (same_run c.within y.key beyond) beyond)) (append_assoc (y ∷ run) (x ∷ []) (take (same_run c.within y.key beyond) beyond))))
      go false t h = walk_to plain stay (ap (λ (r : List (Row K)). at_run r (x ∷ beyond)) (sym (append-nil (y ∷ run))))

  -- ---- the load of a batch

  module _ (h : Holding) (rows : List (Row K)) (states : List FilterState) (last : Option (Row K)) (ph : Phase K) (st : Streamed K) (q : Queued) (n : Counts) (v : V) (s : State) where
    abbrev held_side : List (List (Row K)) → Closing → Buffered K
    held_side l e = record { batches = l; closing = e; holding = h; rows = rows; states = states; ended = false; last = last }

    abbrev run_here : List (Row K)
    run_here = take (h.end - h.start) (drop h.start rows)

    abbrev pipe_here : Pipe
    pipe_here = pipe_of c h.base states q

    -- what the plain machine does in s
    abbrev Loads : plain_machine.Outcome (Row K) SourceFault V → List (List (Row K)) → Closing → Type 0
    Loads at_end l e = plain_machine.micro plain s ≡ plain_machine.load plain at_end (phase_of c.kind (h.base + h.end) ph) (streamed_of st) l e (map size_of h.batches) (h.base + h.start) run_here h.matched last pipe_here (counts_of n) v

    pub record Loading : Type 0 where
      pub streamed_side : WholeStreamed batch_of st
      pub buffered_side : (l : List (List (Row K))) (e : Closing) → WholeBuffered c (held_side l e)
      pub block : WholeBlock c batch_of (h.base + h.start) q
      pub all_in : h.end ≡ h.held
      pub poised : Poised batch_of st h false ph
      pub next : (m : ℕ) → 1 ≤ m → Poised batch_of st (with_batch m h) false ph

    whole_side : (w : Loading) → WholeBuffered c (held_side [] (Ok tt))
    whole_side w = w.buffered_side [] (Ok tt)

    read_is : (w : Loading) → (h.base + h.start) + length run_here ≡ h.base + h.held
    read_is w = let b = whole_side w in omega (arith, length-take (h.end - h.start) (drop h.start rows), length-drop h.start rows, b.rows_held, b.run, b.in_held, w.all_in)

    beyond_none : (w : Loading) → drop h.end rows ≡ []
    beyond_none w = drop_all h.end rows (omega (arith, (whole_side w).rows_held, w.all_in))

    side_is : (w : Loading) (l : List (List (Row K))) (e : Closing) → buffered_of (held_side l e) ≡ plain_machine.buffered l e (map size_of h.batches) (h.base + h.start) run_here [] false h.matched last
    side_is w l e = ap (λ (b : List (Row K)). plain_machine.buffered l e (map size_of h.batches) (h.base + h.start) run_here b false h.matched last) (beyond_none w)

    load_checks : (w : Loading) (o : Option ℕ) (x : Row K) (r : List (Row K)) (l : List (List (Row K))) (e : Closing) → disorder c.within last (x ∷ r) (h.base + h.held) ≡ o → (h.base + h.held) + length (x ∷ r) ≤ most_rows → h.held + length (x ∷ r) ≤ c.buffered_table
        → plain_machine.micro plain s ≡ plain_machine.load_checked plain (plain_machine.disorder (by_key c.within) last (x ∷ r) ((h.base + h.start) + length run_here)) (phase_of c.kind (h.base + h.end) ph) (streamed_of st) l e (x ∷ r) (map size_of h.batches) (h.base + h.start) run_here h.matched last pipe_here (counts_of n) v
        → Follow s v (load_checked c o ph (x ∷ r) l st (held_side ((x ∷ r) ∷ l) e) q n)
    load_checks w o x r l e d fr ft m = go o ((sym (disorder_is c.within last (x ∷ r) _) ∙ ap (disorder c.within last (x ∷ r)) (read_is w)) ∙ d)
      where
        b : WholeBuffered c (held_side [] (Ok tt))
        b = whole_side w

        at_load : Option ℕ → plain_machine.Outcome (Row K) SourceFault V
        at_load z = plain_machine.load_checked plain z (phase_of c.kind (h.base + h.end) ph) (streamed_of st) l e (x ∷ r) (map size_of h.batches) (h.base + h.start) run_here h.matched last pipe_here (counts_of n) v

        loaded : List ℕ → List (Row K) → List (Row K) → Option (Row K) → List Mark → plain_machine.Outcome (Row K) SourceFault V
        loaded sizes run beyond lst marks = going (plain_machine.state (streamed_of st) (plain_machine.buffered l e sizes (h.base + h.start) run beyond false h.matched lst)
            (pipe h.base marks (map (place_of c.kind c.asks) q.noted) (map (entry_of c.kind c.asks) q.unfrozen) (map (entry_of c.kind c.asks) q.frozen) (map (oriented c.kind) q.due)) (counts_of n) v (phase_of c.kind (h.base + h.end) ph))

        new : BufferedBatch
        new = record { rows = length (x ∷ r); start = 0; end = 0 }

        go : (o : Option ℕ) → plain_machine.disorder (by_key c.within) last (x ∷ r) ((h.base + h.start) + length run_here) ≡ o → Follow s v (load_checked c o ph (x ∷ r) l st (held_side ((x ∷ r) ∷ l) e) q n)
        go None d = (
          walk (m ∙ ap at_load d
              ∙ ap (λ (z : List ℕ). loaded z run_here (x ∷ r) (plain_machine.last_of last (x ∷ r)) (map mark_of states ++ replicate (length (x ∷ r)) unseen)) (sym (map-append size_of h.batches (new ∷ [])))
              ∙ ap (λ (z : List (Row K)). loaded (map size_of (h.batches ++ new ∷ [])) z (x ∷ r) (plain_machine.last_of last (x ∷ r)) (map mark_of states ++ replicate (length (x ∷ r)) unseen))
              (sym (ap (take (h.end - h.start)) (drop-append-le h.start rows (x ∷ r) (omega (arith, b.rows_held, b.run, b.in_held))) ∙ take-append-le (h.end - h.start) (drop h.start rows) (x ∷ r) (omega (arith, length-drop h.start rows, b.rows_held, b.run, b.in_held))))
              ∙ ap (λ (z : List (Row K)). loaded (map size_of (h.batches ++ new ∷ [])) (take (h.end - h.start) (drop h.start (rows ++ x ∷ r))) z (plain_machine.last_of last (x ∷ r)) (map mark_of states ++ replicate (length (x ∷ r)) unseen)) (sym (drop_at rows (x ∷ r) h.end (omega (arith, b.rows_held, w.all_in))))
              ∙ ap (λ (z : Option (Row K)). loaded (map size_of (h.batches ++ new ∷ [])) (take (h.end - h.start) (drop h.start (rows ++ x ∷ r))) (drop h.end (rows ++ x ∷ r)) z (map mark_of states ++ replicate (length (x ∷ r)) unseen)) (sym (last_is last (x ∷ r)))
              ∙ ap (loaded (map size_of (h.batches ++ new ∷ [])) (take (h.end - h.start) (drop h.start (rows ++ x ∷ r))) (drop h.end (rows ++ x ∷ r)) (last_of last (x ∷ r))) (sym (marks_push states (length (x ∷ r))))) stay,
          record {
            streamed_side = w.streamed_side;
            buffered_side = record {
              rows_held = omega (arith, length-append rows (x ∷ r), b.rows_held);
              states_held = omega (arith, length-append states (replicate (length (x ∷ r)) Unvisited), length-replicate (length (x ∷ r)) Unvisited, b.states_held);
              batches_held = omega (arith, rows_push h.batches new, b.batches_held);
              run = b.run;
              in_held = omega (arith, b.in_held);
              few = omega (arith, fr);
              in_table = ft;
              tiled = full_push h.batches new b.tiled (omega (arith, b.reaches, b.batches_held, w.all_in));
              reaches = omega (arith, reach_push h.batches new, b.batches_held, w.all_in);
            };
            block = w.block;
            poised = w.next (length (x ∷ r)) (omega arith);
          },
        )
        go (Some k) d =
            stops_with c fits after batch_of sized (Unsorted (buffered_side c.kind) k) (plain_machine.disordered plain_machine.on_buffered k) (ap (λ (z : plain_machine.Side). plain_machine.disordered z k) (side_buffered c.kind)) st (held_side l e) q n v s (streamed_of st) _ refl (side_is w l e) (m ∙ ap at_load d) w.streamed_side (w.buffered_side l e) w.block

    pub follows_load : (w : Loading) (over : Outcome K) (at_end : plain_machine.Outcome (Row K) SourceFault V) (l : List (List (Row K))) (e : Closing) → Loads at_end l e → (l ≡ [] → e ≡ (Ok tt) → plain_machine.micro plain s ≡ at_end → Follow s v over)
        → Follow s v (load_from c over ph l e st (held_side l e) q n)
    follows_load w over at_end [] (Ok end) m last_one = last_one refl refl m
    follows_load w over at_end [] (Err f) m last_one =
        stops_with c fits after batch_of sized (Source (buffered_side c.kind) f) (plain_machine.from_source plain_machine.on_buffered f) (ap (λ (z : plain_machine.Side). plain_machine.from_source z f) (side_buffered c.kind)) st (held_side [] (Err f)) q n v s (streamed_of st) _ refl (side_is w [] (Err f)) m w.streamed_side (w.buffered_side [] (Err f)) w.block
    follows_load w over at_end ([] ∷ l) e m last_one = (
      walk (m ∙ ap (λ (b : plain_machine.Buffered (Row K) SourceFault). going (plain_machine.state (streamed_of st) b pipe_here (counts_of n) v (phase_of c.kind (h.base + h.end) ph))) (sym (side_is w l e))) stay,
      record { streamed_side = w.streamed_side; buffered_side = w.buffered_side l e; block = w.block; poised = w.poised },
    )
    follows_load w over at_end ((x ∷ r) ∷ l) e m last_one =
        let rows' = x ∷ r in
        let b = held_side (rows' ∷ l) e in
        let place = (h.base + h.start) + length run_here in
        let bf' = plain_machine.buffered (rows' ∷ l) e (map size_of h.batches) (h.base + h.start) run_here [] false h.matched last in
        let stop_at : plain_machine.Fault SourceFault → plain_machine.Outcome (Row K) SourceFault V = λ f. plain_machine.stops plain f (streamed_of st) bf' pipe_here (counts_of n) v in
        let on_b = plain_machine.on_buffered in
        let long = stop_at (plain_machine.overlong on_b place) in
        let many = stop_at (plain_machine.crowded place) in
        let big = stop_at (plain_machine.oversized on_b place) in
        let checked = plain_machine.load_checked plain (plain_machine.disorder (by_key c.within) last rows' place) (phase_of c.kind (h.base + h.end) ph) (streamed_of st) l e rows' (map size_of h.batches) (h.base + h.start) run_here h.matched last pipe_here (counts_of n) v in
        let t₁ : leb (place + length rows') most_rows ≡ leb ((h.base + h.held) + length rows') most_rows = ap (λ (k : ℕ). leb (k + length rows') most_rows) (read_is w) in
        let t₂ : leb (suc (length (map size_of h.batches))) most_batches ≡ leb (suc (length h.batches)) most_batches = ap (λ (k : ℕ). leb (suc k) most_batches) (length-map h.batches size_of) in
        let t₃ : leb (plain_machine.total_size (map size_of h.batches) + length rows') c.buffered_table ≡ leb (h.held + length rows') c.buffered_table = ap (λ (k : ℕ). leb (k + length rows') c.buffered_table) (sizes_total h.batches ∙ (whole_side w).batches_held) in
        let big? = leb (plain_machine.total_size (map size_of h.batches) + length rows') c.buffered_table in
        let many? = leb (suc (length (map size_of h.batches))) most_batches in
        followed_cond c fits after batch_of sized s v (leb ((h.base + h.held) + length rows') most_rows) _ _
        (λ e₁.
        let m₁ = m ∙ ap (λ (z : Bool). cond z (cond many? (cond big? checked big) many) long) (t₁ ∙ e₁) in
        followed_cond c fits after batch_of sized s v (leb (suc (length h.batches)) most_batches) _ _
        (λ e₂.
        let m₂ = m₁ ∙ ap (λ (z : Bool). cond z (cond big? checked big) many) (t₂ ∙ e₂) in
        followed_cond c fits after batch_of sized s v (leb (h.held + length rows') c.buffered_table) _ _
        (λ e₃. load_checks w (disorder c.within last rows' (h.base + h.held)) x r l e refl (leb-true _ _ e₁) (leb-true _ _ e₃) (m₂ ∙ ap (λ (z : Bool). cond z checked big) (t₃ ∙ e₃)))
        (λ e₃. stops_with c fits after batch_of sized (TableFull (buffered_side c.kind) (h.base + h.held)) (plain_machine.oversized on_b place) (ap (λ (k : plain_machine.Side). plain_machine.oversized k (h.base + h.held)) (side_buffered c.kind) ∙ ap (plain_machine.oversized on_b) (sym (read_is w))) st b q n v s (streamed_of st) bf' refl (side_is w (rows' ∷ l) e) (m₂ ∙ ap (λ (z : Bool). cond z checked big) (t₃ ∙ e₃)) w.streamed_side (w.buffered_side (rows' ∷ l) e) w.block))
        (λ e₂. stops_with c fits after batch_of sized (TooManyBatches (h.base + h.held)) (plain_machine.crowded place) (ap plain_machine.crowded (sym (read_is w))) st b q n v s (streamed_of st) bf' refl (side_is w (rows' ∷ l) e) (m₁ ∙ ap (λ (z : Bool). cond z (cond big? checked big) many) (t₂ ∙ e₂)) w.streamed_side (w.buffered_side (rows' ∷ l) e) w.block))
        (λ e₁. stops_with c fits after batch_of sized (TooManyRows (buffered_side c.kind) (h.base + h.held)) (plain_machine.overlong on_b place) (ap (λ (k : plain_machine.Side). plain_machine.overlong k (h.base + h.held)) (side_buffered c.kind) ∙ ap (plain_machine.overlong on_b) (sym (read_is w))) st b q n v s (streamed_of st) bf' refl (side_is w (rows' ∷ l) e)
        (m ∙ ap (λ (z : Bool). cond z (cond many? (cond big? checked big) many) long) (t₁ ∙ e₁)) w.streamed_side (w.buffered_side (rows' ∷ l) e) w.block)
