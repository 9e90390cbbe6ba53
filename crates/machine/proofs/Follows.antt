-- The plain machine follows each small step of a join: what follows means, and the steps of a turn on its rows.
use Rattle.std.proofs.Common.{◌≡◌, ℕ, zero, suc, ◌+◌, ◌-◌, ◌<◌, ◌≤◌, Bool, true, false, cond, ◌&&◌, ltb, leb, List, [], ◌∷◌, ◌++◌, map, length, take, drop, Some, None, Option, sym, refl, ap, ◌∙◌, subst, append_assoc, add-one, arith, length-append, length-drop, length-take, drop-drop, take-append-drop}
use mathlib.Core.List.{nil≢cons}
use lib.ListN.{length-map}
use Rattle.std.proofs.lemmas.List.{map-append}
use Rattle.std.specs.List.{AllByRecursion}
use Rattle.std.proofs.ByRecursion.{All-append}
use Rattle.std.proofs.lemmas.Bool.{leb-false, ltb-false, lt-leb, lt-ltb, le-ltb, cond_both}
use Rattle.rows.specs.declared.kind.Kind.{Kind}
use Rattle.rows.specs.declared.reading.Reading.{Reading}
use Rattle.rows.specs.declared.record.Record.{Record}
use Rattle.rows.specs.declared.row.Row.{Row}
use Rattle.sources.specs.declared.fault.SourceFault.{SourceFault}
use Rattle.rows.specs.Sides.{oriented}
use Rattle.rows.specs.Sides.{left_of, right_of}
use Rattle.law.specs.Pipe.{Mark, Pipe, pipe, judged, fixed}
use Rattle.law.specs.Pipe.{Entry as plain_entry, freeze_full as plain_freeze_full, freeze_all as plain_freeze_all, flush as plain_flush}
use Rattle.law.specs.Machine as plain_machine
use Rattle.law.specs.Machine.{going, answered}
use Rattle.pipeline.specs.declared.entry.Entry.{Entry}
use Rattle.pipeline.specs.declared.entry.StreamedRow.{StreamedRow}
use Rattle.pipeline.specs.Entries.{lone}
use Rattle.pipeline.specs.Orient.{streamed_alone, paired, buffered_place}
use Rattle.pipeline.specs.Freezing.{judged_all}
use Rattle.pipeline.specs.Block.{Queued, pushed}
use Rattle.pipeline.specs.Held.{pairs_with, matching}
use Rattle.machine.specs.Machine.{Setting, Phase, fetching, closing, turning, passing, pairing, Streamed, Buffered, Counts, Core, core, Outcome, deferred, marked_by, freeze_full, pair_row, lone_row, row_at, place, pass_row, next_row, close, go_on, with_holding, counted_row}
use Rattle.machine.specs.Machine.{going as goes, answered as says}
use Rattle.machine.proofs.Entries.{mark_of, entry_of, place_of, Made, Frozen, Noted, oriented_streamed, place_of_pair, length_marking}
use Rattle.machine.proofs.Plain.{answer_of, row_of, Placed, phase_of, streamed_of, buffered_of, counts_of, plain_setting, pipe_of, state_at, state_of, Whole, WholeStreamed, WholeBuffered, Poised}
use Rattle.machine.proofs.Block.{block, all_frozen_is, all_frozen_are, let_go_whole, flushed_is, flush_whole}

-- the pairs of the row x with rows from place j on
abbrev pub judgeds : {X V : Type 0} → plain_machine.Setting X V → ℕ → X → ℕ → List X → List plain_entry
judgeds p i x j [] = []
judgeds p i x j (y ∷ l) = judged i j (p.asks x y) ∷ judgeds p i x (suc j) l

not_full : (size : ℕ) (unfrozen : List plain_entry) (e : plain_entry) → length unfrozen + 1 < size → leb size (length (unfrozen ++ e ∷ [])) ≡ false
not_full size unfrozen e h = lt-leb _ _ (omega (arith, length-append unfrozen (e ∷ [])))

-- the row at an index
pub row_some : {A : Type 0} (n : ℕ) (l : List A) (x : A) → row_at n l ≡ Some x → (drop n l ≡ x ∷ drop (suc n) l) × (n < length l)
row_some n [] x e = cc
row_some zero (y ∷ l) x e = (let z : y ≡ x = cc in ap (λ (w : _). w ∷ l) z, omega arith)
row_some (suc n) (y ∷ l) x e = let k = row_some n l x e in (k.0, omega (arith, k.1))

pub row_none : {A : Type 0} (n : ℕ) (l : List A) → row_at n l ≡ None → drop n l ≡ []
row_none zero [] e = refl
row_none (suc n) [] e = refl
row_none zero (y ∷ l) e = cc
row_none (suc n) (y ∷ l) e = row_none n l e

module _ {X F V : Type 0} (p : plain_machine.Setting X V) where
  -- steps of the plain machine that neither give nor answer
  pub data Walk : plain_machine.State X F V → plain_machine.State X F V → Type 0 where
    stay : {s : plain_machine.State X F V} → Walk s s
    walk : {s s' s'' : plain_machine.State X F V} → plain_machine.micro p s ≡ going s' → Walk s' s'' → Walk s s''

  pub walk_on : {s s' s'' : plain_machine.State X F V} → Walk s s' → Walk s' s'' → Walk s s''
  walk_on stay w = w
  walk_on (walk e u) w = walk e (walk_on u w)

  -- nothing is due
  pub calm : (st : plain_machine.Streamed X F) (bf : plain_machine.Buffered X F) (base : ℕ) (marks : List Mark) (noted : List ℕ) (unfrozen entries : List plain_entry) (due : List Record) (n : plain_machine.Counts) (v : V) (ph : plain_machine.Phase X F) → due ≡ []
      → plain_machine.micro p (plain_machine.state st bf (pipe base marks noted unfrozen entries due) n v ph) ≡ plain_machine.step p ph st bf (pipe base marks noted unfrozen entries due) n v
  calm st bf base marks noted unfrozen entries [] n v ph e = refl
  calm st bf base marks noted unfrozen entries (r ∷ due) n v ph e = absurd (nil≢cons (sym e))

  pub walk_to : {s s' s'' : plain_machine.State X F V} → Walk s s' → s' ≡ s'' → Walk s s''
  walk_to {s} w e = subst (Walk s) e w

  pub walk_from : {s s' s'' : plain_machine.State X F V} → Walk s s' → s ≡ s'' → Walk s'' s'
  walk_from {s' = s'} w e = subst (λ z. Walk z s') e w

  -- pairs, as long as they fit
  pub walk_pairs : (l : List (List X)) (cl : plain_machine.Closing F) (x : X) (rows : List X) (i : ℕ) (en : Bool) (last : Option X) (bf : plain_machine.Buffered X F) (base : ℕ) (marks : List Mark) (noted : List ℕ) (unfrozen entries : List plain_entry) (due : List Record) (n : plain_machine.Counts) (v : V) (y : X) (ys rest : List X) (j : ℕ)
      → due ≡ [] → length unfrozen + length (y ∷ ys) ≤ p.size
      → Walk (plain_machine.state (plain_machine.streamed l cl (x ∷ rows) i en last) bf (pipe base marks noted unfrozen entries due) n v (plain_machine.pairing ((y ∷ ys) ++ rest) j))
      (plain_machine.state (plain_machine.streamed l cl (x ∷ rows) i en last) bf (plain_freeze_full p.deferred p.size (pipe base marks noted (unfrozen ++ judgeds p i x j (y ∷ ys)) entries due)) n v (plain_machine.pairing rest (j + length (y ∷ ys))))
  walk_pairs l cl x rows i en last bf base marks noted unfrozen entries due n v y [] rest j z h =
      walk (calm _ bf base marks noted unfrozen entries due n v _ z ∙ ap (λ (k : ℕ). going (plain_machine.state (plain_machine.streamed l cl (x ∷ rows) i en last) bf (plain_freeze_full p.deferred p.size (pipe base marks noted (unfrozen ++ judgeds p i x j (y ∷ [])) entries due)) n v (plain_machine.pairing rest k))) (sym (add-one j))) stay
  walk_pairs l cl x rows i en last bf base marks noted unfrozen entries due n v y (y' ∷ ys) rest j z h =
      let u = unfrozen ++ judged i j (p.asks x y) ∷ [] in
      let k = walk_pairs l cl x rows i en last bf base marks noted u entries due n v y' ys rest (suc j) z (omega (arith, length-append unfrozen (judged i j (p.asks x y) ∷ []))) in
      walk
      (calm _ bf base marks noted unfrozen entries due n v _ z
      ∙ ap (λ (t : Bool). going (plain_machine.state (plain_machine.streamed l cl (x ∷ rows) i en last) bf (cond t (plain_freeze_all p.deferred (pipe base marks noted u entries due)) (pipe base marks noted u entries due)) n v (plain_machine.pairing ((y' ∷ ys) ++ rest) (suc j)))) (not_full p.size unfrozen (judged i j (p.asks x y)) (omega arith)))
      (walk_to k
      (ap (λ (w : List plain_entry). plain_machine.state (plain_machine.streamed l cl (x ∷ rows) i en last) bf (plain_freeze_full p.deferred p.size (pipe base marks noted w entries due)) n v (plain_machine.pairing rest (suc j + length (y' ∷ ys)))) (append_assoc unfrozen (judged i j (p.asks x y) ∷ []) (judgeds p i x (suc j) (y' ∷ ys)))
      ∙ ap (λ (m : ℕ). plain_machine.state (plain_machine.streamed l cl (x ∷ rows) i en last) bf (plain_freeze_full p.deferred p.size (pipe base marks noted (unfrozen ++ judgeds p i x j (y ∷ (y' ∷ ys))) entries due)) n v (plain_machine.pairing rest m)) (omega arith)))

module _ {K V : Type 0} (c : Setting K) (fits : V → Record → Bool) (after : V → Record → V) (batch_of : ℕ → ℕ) (sized : 1 ≤ c.size) where
  abbrev plain : plain_machine.Setting (Row K) V
  plain = plain_setting c fits after

  abbrev pub PlainState : Type 0
  PlainState = plain_machine.State (Row K) SourceFault V

  abbrev pub WholeCore : Core K → Type 0
  WholeCore (core st bf q n ph) = Whole c batch_of st bf q ph

  -- the plain machine comes from s to what a step comes to
  abbrev pub Followed : PlainState → V → Outcome K → Type 0
  Followed s v (goes t) = Walk plain s (state_of c t v) × WholeCore t
  Followed s v (says a t) = (s' : PlainState) × Walk plain s s' × (plain_machine.micro plain s' ≡ answered (answer_of c.kind a) (state_of c t v)) × WholeCore t

  pub followed_cond : (s : PlainState) (v : V) (t : Bool) (a b : Outcome K) → (t ≡ true → Followed s v a) → (t ≡ false → Followed s v b) → Followed s v (cond t a b)
  followed_cond s v t a b h k = cond_both t a b (Followed s v) h k

  pub marked_whole : (q : Queued) (bf : Buffered K) → WholeBuffered c bf → WholeBuffered c (marked_by c.kind c.asks q bf)
  marked_whole q bf h = record { rows_held = h.rows_held; states_held = length_marking c.kind c.asks bf.holding.base (judged_all c.asks q.unfrozen) bf.states ∙ h.states_held; batches_held = h.batches_held; run = h.run; in_held = h.in_held; few = h.few; in_table = h.in_table; tiled = h.tiled; reaches = h.reaches }

  matched_whole : (bf : Buffered K) → WholeBuffered c bf → WholeBuffered c (with_holding c (matching bf.holding) bf)
  matched_whole bf h = record { rows_held = h.rows_held; states_held = h.states_held; batches_held = h.batches_held; run = h.run; in_held = h.in_held; few = h.few; in_table = h.in_table; tiled = h.tiled; reaches = h.reaches }

  -- all is frozen when the unfrozen reach the batch size
  pub follows_full : (ph : Phase K) (st : Streamed K) (bf : Buffered K) (noted unfrozen frozen : List Entry) (due : List Record) (n : Counts) (v : V) (s : PlainState)
      → Walk plain s (plain_machine.state (streamed_of st) (buffered_of bf) (plain_freeze_full (deferred c) c.size (pipe_of c bf.holding.base bf.states (block c batch_of noted unfrozen frozen due))) (counts_of n) v (phase_of c.kind (bf.holding.base + bf.holding.end) ph))
      → due ≡ [] → AllByRecursion (Made c.kind c.asks batch_of) unfrozen → AllByRecursion (Frozen c.kind c.asks batch_of) frozen → AllByRecursion (Noted c.kind c.asks) noted → AllByRecursion (λ e. place_of c.kind c.asks e < bf.holding.base + bf.holding.start) noted → (deferred c ≡ false → frozen ≡ [])
      → WholeStreamed batch_of st → WholeBuffered c bf → Poised batch_of st bf.holding bf.ended ph → Followed s v (freeze_full c ph st bf (block c batch_of noted unfrozen frozen due) n)
  follows_full ph st bf noted unfrozen frozen due n v s w z m f nt be o ws wb po =
      let at_pipe : Pipe → PlainState = λ p. plain_machine.state (streamed_of st) (buffered_of bf) p (counts_of n) v (phase_of c.kind (bf.holding.base + bf.holding.end) ph) in
      let q = block c batch_of noted unfrozen frozen due in
      let p = pipe_of c bf.holding.base bf.states q in
      let tests : leb c.size (length (map (entry_of c.kind c.asks) unfrozen)) ≡ leb c.size (length unfrozen) = ap (leb c.size) (length-map unfrozen (entry_of c.kind c.asks)) in
      followed_cond s v (leb c.size (length unfrozen)) _ _
      (λ t. (
        walk_to plain w (ap at_pipe (ap (λ (b : Bool). cond b (plain_freeze_all (deferred c) p) p) (tests ∙ t) ∙ sym (all_frozen_is c batch_of bf.holding.base bf.states noted unfrozen frozen due nt m o z))),
        record {
          streamed_side = ws;
          buffered_side = marked_whole q bf wb;
          block = let_go_whole c batch_of (deferred c) refl (bf.holding.base + bf.holding.start) [] frozen _ due f (all_frozen_are c batch_of noted unfrozen nt m) tt tt sized;
          poised = po;
        },
      ))
      (λ t. (
        walk_to plain w (ap at_pipe (ap (λ (b : Bool). cond b (plain_freeze_all (deferred c) p) p) (tests ∙ t))),
        record { streamed_side = ws; buffered_side = wb; block = record { made = m; frozen = f; noted = nt; behind = be; short = leb-false _ _ t; at_once = o }; poised = po },
      ))

  -- ---- pairs

  take_placed : {A : Type 0} (j n : ℕ) (l : List (ℕ × A)) → Placed j l → Placed j (take n l)
  take_placed j zero l h = tt
  take_placed j (suc n) [] h = tt
  take_placed j (suc n) (p ∷ l) h = (h.0, take_placed (suc j) n l h.1)

  drop_placed : {A : Type 0} (j n : ℕ) (l : List (ℕ × A)) → Placed j l → Placed ((j + length l) - length (drop n l)) (drop n l)
  drop_placed j zero l h = subst (λ k. Placed k l) (omega arith) h
  drop_placed j (suc n) [] h = tt
  drop_placed j (suc n) (p ∷ l) h = subst (λ k. Placed k (drop n l)) (omega arith) (drop_placed (suc j) n l h.1)

  pairs_are : (i : ℕ) (at : StreamedRow) → at.batch + at.row ≡ i → (x : Row K) (j : ℕ) (l : List (ℕ × Row K)) → Placed j l → map (entry_of c.kind c.asks) (pairs_with c.kind at i x.reading l) ≡ judgeds plain i x j (map row_of l)
  pairs_are i at e x j [] h = refl
  pairs_are i at e x j (p ∷ l) h =
      ap (λ (w : plain_entry). w ∷ map (entry_of c.kind c.asks) (pairs_with c.kind at i x.reading l))
      (ap (λ (a : ℕ). judged a (buffered_place c.kind (paired c.kind i p.0)) (c.asks (left_of c.kind x.reading p.1.reading) (right_of c.kind x.reading p.1.reading))) e
      ∙ ap (λ (b : ℕ). judged i b (c.asks (left_of c.kind x.reading p.1.reading) (right_of c.kind x.reading p.1.reading))) (place_of_pair c.kind i p.0 ∙ h.0))
      ∙ ap (λ (w : List plain_entry). judged i j (plain.asks x p.1) ∷ w) (pairs_are i at e x (suc j) l h.1)

  pairs_made : (at : StreamedRow) → at.batch ≡ batch_of (at.batch + at.row) → (r : Reading) (l : List (ℕ × Row K)) → AllByRecursion (Made c.kind c.asks batch_of) (pairs_with c.kind at (at.batch + at.row) r l)
  pairs_made at h r [] = tt
  pairs_made at h r (p ∷ l) = ((ap (paired c.kind (at.batch + at.row)) (sym (place_of_pair c.kind (at.batch + at.row) p.0)), h), pairs_made at h r l)

  map_split : (n : ℕ) (l : List (ℕ × Row K)) → map row_of l ≡ map row_of (take n l) ++ map row_of (drop n l)
  map_split n l = ap (map row_of) (sym (take-append-drop n l)) ∙ map-append row_of (take n l) (drop n l)

  pub follows_pair : (o : Option (Row K)) (todo : List (ℕ × Row K)) (st : Streamed K) (bf : Buffered K) (q : Queued) (n : Counts) (v : V) → row_at st.at st.rows ≡ o → (drop st.at st.rows ≡ [] → ⊥) → q.due ≡ []
      → Whole c batch_of st bf q (pairing todo) → Followed (state_at c st bf q n (pairing todo) v) v (pair_row c o todo st bf q n)
  follows_pair None todo st bf q n v e s z w = absurd (s (row_none st.at st.rows e))
  follows_pair (Some x) [] st bf q n v e s z w = (
    walk (calm plain _ _ _ _ _ _ _ (map (oriented c.kind) q.due) _ v _ (ap (map (oriented c.kind)) z)) stay,
    record { streamed_side = w.streamed_side; buffered_side = matched_whole bf w.buffered_side; block = w.block; poised = (w.poised.0, w.poised.1) },
  )
  follows_pair (Some x) (p ∷ todo) st bf q n v e s z w = go (c.size - length q.unfrozen) refl
    where
      at : StreamedRow
      at = record { batch = st.first; row = st.at }

      start : ℕ
      start = (bf.holding.base + bf.holding.end) - length (p ∷ todo)

      at_rows : List (Row K) → List (Row K) → PlainState
      at_rows r td = plain_machine.state (plain_machine.streamed st.batches st.closing r (st.first + st.at) st.ended st.last) (buffered_of bf) (pipe_of c bf.holding.base bf.states q) (counts_of n) v (plain_machine.pairing td start)

      then_rows : List (Row K) → List plain_entry → List (Row K) → ℕ → PlainState
      then_rows r u td k = plain_machine.state (plain_machine.streamed st.batches st.closing r (st.first + st.at) st.ended st.last) (buffered_of bf)
          (plain_freeze_full (deferred c) c.size (pipe bf.holding.base (map mark_of bf.states) (map (place_of c.kind c.asks) q.noted) u (map (entry_of c.kind c.asks) q.frozen) (map (oriented c.kind) q.due))) (counts_of n) v (plain_machine.pairing td k)

      go : (room : ℕ) → c.size - length q.unfrozen ≡ room → Followed (state_at c st bf q n (pairing (p ∷ todo)) v) v (freeze_full c (pairing (drop room (p ∷ todo))) st bf (pushed (pairs_with c.kind at (place c st) x.reading (take room (p ∷ todo))) q) n)
      go zero r = absurd (omega (arith, w.block.short))
      go (suc m) r =
          let rs = row_some st.at st.rows x e in
          let here = w.streamed_side.located (st.first + st.at) (omega arith) (omega (arith, rs.1)) in
          let more : List Entry = pairs_with c.kind at (place c st) x.reading (take (suc m) (p ∷ todo)) in
          let unfrozen = map (entry_of c.kind c.asks) q.unfrozen in
          let t = w.poised.2 in
          let w₁ = walk_pairs plain st.batches st.closing x (drop (suc st.at) st.rows) (st.first + st.at) st.ended st.last (buffered_of bf) bf.holding.base (map mark_of bf.states) (map (place_of c.kind c.asks) q.noted) unfrozen
          (map (entry_of c.kind c.asks) q.frozen) (map (oriented c.kind) q.due) (counts_of n) v p.1 (map row_of (take m todo)) (map row_of (drop m todo)) start (ap (map (oriented c.kind)) z)
          (omega (arith, length-map q.unfrozen (entry_of c.kind c.asks), length-map (take m todo) row_of, length-take m todo)) in
          follows_full (pairing (drop m todo)) st bf q.noted (q.unfrozen ++ more) q.frozen q.due n v _
          (walk_to plain
          (walk_from plain w₁ (ap (λ (r : List (Row K)). at_rows r ((p.1 ∷ map row_of (take m todo)) ++ map row_of (drop m todo))) (sym rs.0) ∙ ap (at_rows (drop st.at st.rows)) (sym (map_split (suc m) (p ∷ todo)))))
          (ap (λ (r : List (Row K)). then_rows r (unfrozen ++ judgeds plain (st.first + st.at) x start (p.1 ∷ map row_of (take m todo))) (map row_of (drop m todo)) (start + length (p.1 ∷ map row_of (take m todo)))) (sym rs.0)
          ∙ ap (λ (u : List plain_entry). then_rows (drop st.at st.rows) u (map row_of (drop m todo)) (start + length (p.1 ∷ map row_of (take m todo))))
          (ap (λ (l : List plain_entry). unfrozen ++ l) (sym (pairs_are (st.first + st.at) at refl x start (take (suc m) (p ∷ todo)) (take_placed start (suc m) (p ∷ todo) t.are))) ∙ sym (map-append (entry_of c.kind c.asks) q.unfrozen more))
          ∙ ap (then_rows (drop st.at st.rows) (map (entry_of c.kind c.asks) (q.unfrozen ++ more)) (map row_of (drop m todo))) (omega (arith, length-map (take m todo) row_of, length-take m todo, length-drop m todo, t.in_run))))
          z
          (All-append _ q.unfrozen more w.block.made (pairs_made at (sym here) x.reading (take (suc m) (p ∷ todo))))
          w.block.frozen w.block.noted w.block.behind w.block.at_once w.streamed_side w.buffered_side
          (w.poised.0, w.poised.1, record { are = subst (λ k. Placed (k - length (drop m todo)) (drop m todo)) (omega (arith, t.in_run)) (drop_placed start (suc m) (p ∷ todo) t.are); in_run = omega (arith, t.in_run, length-drop m todo) })

  -- ---- a row alone

  pub follows_lone : (keeps : Bool) (st : Streamed K) (bf : Buffered K) (q : Queued) (n : Counts) (v : V) (s : PlainState)
      → Walk plain s (plain_machine.state (streamed_of st) (buffered_of bf) (plain_machine.lone_row (deferred c) c.size keeps (st.first + st.at) (pipe_of c bf.holding.base bf.states q)) (counts_of n) v plain_machine.passing) → q.due ≡ []
      → Whole c batch_of st bf q turning → Followed s v (lone_row c keeps st bf q n)
  follows_lone true st bf q n v s w z h =
      follows_full passing st bf q.noted (q.unfrozen ++ lone (streamed_alone c.kind (st.first + st.at)) ∷ []) q.frozen q.due n v s
      (walk_to plain w (ap (λ (l : List plain_entry). plain_machine.state (streamed_of st) (buffered_of bf) (plain_freeze_full (deferred c) c.size (pipe bf.holding.base (map mark_of bf.states) (map (place_of c.kind c.asks) q.noted) l (map (entry_of c.kind c.asks) q.frozen) (map (oriented c.kind) q.due))) (counts_of n) v plain_machine.passing)
      (ap (λ (r : Record). map (entry_of c.kind c.asks) q.unfrozen ++ fixed r ∷ []) (sym (oriented_streamed c.kind (st.first + st.at))) ∙ sym (map-append (entry_of c.kind c.asks) q.unfrozen (lone (streamed_alone c.kind (st.first + st.at)) ∷ [])))))
      z (All-append _ q.unfrozen _ h.block.made (refl, tt)) h.block.frozen h.block.noted h.block.behind h.block.at_once h.streamed_side h.buffered_side h.poised
  follows_lone false st bf q n v s w z h = (w, record { streamed_side = h.streamed_side; buffered_side = h.buffered_side; block = h.block; poised = h.poised })

  -- ---- the row is passed

  pub next_drop : {A : Type 0} (n : ℕ) (l : List A) (x : A) (r : List A) → drop n l ≡ x ∷ r → drop (n + 1) l ≡ r
  next_drop n l x r e = sym (drop-drop 1 n l) ∙ ap (drop 1) e

  after_is : (kind : Kind) (to n : ℕ) (l : List (Row K)) → plain_machine.after_row plain (drop n l) ≡ phase_of {K = K} kind to (cond (ltb n (length l)) (closing false) (fetching false))
  after_is kind to n l = go (drop n l) refl
    where
      go : (r : List (Row K)) → drop n l ≡ r → plain_machine.after_row {F = SourceFault} plain r ≡ phase_of {K = K} kind to (cond (ltb n (length l)) (closing false) (fetching false))
      go [] e = rw (le-ltb n (length l) (omega (arith, length-drop n l, ap length e)))
      go (x ∷ r) e = rw (lt-ltb n (length l) (omega (arith, length-drop n l, ap length e)))

  pub follows_pass : (st : Streamed K) (bf : Buffered K) (q : Queued) (n : Counts) (v : V) → (drop st.at st.rows ≡ [] → ⊥) → st.ended ≡ false → q.due ≡ [] → Whole c batch_of st bf q passing → Followed (state_at c st bf q n passing v) v (pass_row c st bf q n)
  follows_pass st bf q n v s en z w = go (drop st.at st.rows) refl
    where
      on : List (Row K) → ℕ → plain_machine.Phase (Row K) SourceFault → plain_machine.Outcome (Row K) SourceFault V
      on l k ph = going (plain_machine.state (plain_machine.streamed st.batches st.closing l k st.ended st.last) (buffered_of bf) (pipe_of c bf.holding.base bf.states q) (counts_of (counted_row n)) v ph)

      go : (r : List (Row K)) → drop st.at st.rows ≡ r → Followed (state_at c st bf q n passing v) v (pass_row c st bf q n)
      go [] e = absurd (s e)
      go (x ∷ r) e =
          let inside : st.at < length st.rows = omega (arith, length-drop st.at st.rows, ap length e) in
          rw (lt-ltb _ _ inside) (
            walk (calm plain _ _ _ _ _ _ _ (map (oriented c.kind) q.due) _ v _ (ap (map (oriented c.kind)) z)
                ∙ ap (λ (l : List (Row K)). plain_machine.pass plain (plain_machine.streamed st.batches st.closing l (st.first + st.at) st.ended st.last) (buffered_of bf) (pipe_of c bf.holding.base bf.states q) (counts_of n) v) e
                ∙ ap (λ (l : List (Row K)). on l (suc (st.first + st.at)) (plain_machine.after_row plain l)) (sym (next_drop st.at st.rows x r e))
                ∙ ap (λ (k : ℕ). on (drop (st.at + 1) st.rows) k (plain_machine.after_row plain (drop (st.at + 1) st.rows))) (omega arith)
                ∙ ap (on (drop (st.at + 1) st.rows) (st.first + (st.at + 1))) (after_is c.kind (bf.holding.base + bf.holding.end) (st.at + 1) st.rows)) stay,
            record { streamed_side = record { inside = omega arith; located = w.streamed_side.located }; buffered_side = w.buffered_side; block = w.block; poised = cond_both (ltb (st.at + 1) (length st.rows)) (closing false) (fetching false) (Poised batch_of (next_row c st) bf.holding bf.ended) (λ t. (w.poised.0, w.poised.1)) (λ t. (w.poised.0, record { at_end = omega (arith, ltb-false (st.at + 1) (length st.rows) t); not_ended = en }, w.poised.1)) },
          )

  -- ---- the end of a turn

  pub follows_close : (first : Bool) (st : Streamed K) (bf : Buffered K) (q : Queued) (n : Counts) (v : V) → q.due ≡ [] → Whole c batch_of st bf q (closing first) → Followed (state_at c st bf q n (closing first) v) v (close c first st bf q n)
  follows_close first st bf q n v z w = go (st.ended && bf.ended) refl
    where
      calm_here : plain_machine.micro plain (state_at c st bf q n (closing first) v) ≡ plain_machine.close plain first (streamed_of st) (buffered_of bf) (pipe_of c bf.holding.base bf.states q) (counts_of n) v
      calm_here = calm plain _ _ _ _ _ _ _ (map (oriented c.kind) q.due) _ v _ (ap (map (oriented c.kind)) z)

      ends : plain_machine.Outcome (Row K) SourceFault V
      ends = going (plain_machine.state (streamed_of st) (buffered_of bf) (plain_flush (deferred c) (pipe_of c bf.holding.base bf.states q)) (counts_of n) v plain_machine.done)

      goes_on : plain_machine.Outcome (Row K) SourceFault V
      goes_on = plain_machine.go_on plain first (streamed_of st) (buffered_of bf) (pipe_of c bf.holding.base bf.states q) (counts_of n) v

      on : (first : Bool) → plain_machine.micro plain (state_at c st bf q n (closing first) v) ≡ plain_machine.go_on plain first (streamed_of st) (buffered_of bf) (pipe_of c bf.holding.base bf.states q) (counts_of n) v
          → Followed (state_at c st bf q n (closing first) v) v (go_on c first st bf q n)
      on true e = (walk e stay, record { streamed_side = w.streamed_side; buffered_side = w.buffered_side; block = w.block; poised = w.poised })
      on false e = (_, stay, e, record { streamed_side = w.streamed_side; buffered_side = w.buffered_side; block = w.block; poised = w.poised })

      go : (b : Bool) → (st.ended && bf.ended) ≡ b → Followed (state_at c st bf q n (closing first) v) v (close c first st bf q n)
      go true e = rw e (walk (calm_here ∙ ap (λ (t : Bool). cond t ends goes_on) e ∙ ap (λ (p : Pipe). going (plain_machine.state (streamed_of st) (buffered_of bf) p (counts_of n) v plain_machine.done)) (sym (flushed_is c batch_of bf.holding.base bf.states (bf.holding.base + bf.holding.start) q w.block z))) stay, record { streamed_side = w.streamed_side; buffered_side = marked_whole q bf w.buffered_side; block = flush_whole c batch_of (deferred c) _ q sized; poised = tt })
      go false e = rw e (on first (calm_here ∙ ap (λ (t : Bool). cond t ends goes_on) e))
