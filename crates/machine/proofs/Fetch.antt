-- The plain machine follows the fetch of a streamed batch.
use Rattle.std.proofs.Common.{◌≡◌, ℕ, suc, ◌+◌, ◌<◌, ◌≤◌, Bool, true, false, cond, leb, List, [], ◌∷◌, map, length, drop, Some, None, Ok, Err, Option, Ordering, sym, refl, ap, ◌∙◌, arith}
use Rattle.std.proofs.lemmas.List.{drop_all}
use Rattle.std.proofs.lemmas.Bool.{lt-ltb, le-ltb}
use Rattle.rows.specs.declared.kind.Kind.{Kind}
use Rattle.rows.specs.declared.kind.Kind.TheVariants.{Inner, Left, Right, Full}
use Rattle.rows.specs.declared.record.Record.{Record}
use Rattle.rows.specs.declared.row.Row.{Row}
use Rattle.rows.specs.Order.{is_after}
use Rattle.sources.specs.declared.fault.SourceFault.{SourceFault}
use Rattle.sources.specs.Meaning.{Closing}
use Rattle.rows.specs.Sides.{streamed_side, buffered_side, oriented, is_right}
use Rattle.merge.specs.Merging.{by_key}
use Rattle.law.specs.Pipe.{Pipe}
use Rattle.law.specs.Machine as plain_machine
use Rattle.law.specs.Machine.{going}
use Rattle.pipeline.specs.declared.entry.Entry.{Entry}
use Rattle.pipeline.specs.Freezing.{judged_all}
use Rattle.pipeline.specs.States.{marking}
use Rattle.pipeline.specs.Block.{Queued, freeze}
use Rattle.machine.specs.declared.fault.JoinFault.{JoinFault}
use Rattle.machine.specs.declared.fault.JoinFault.TheVariants.{Unsorted, TableFull, TooManyRows, Source}
use Rattle.machine.specs.Machine.{Setting, fetching, Streamed, Buffered, Counts, Outcome, deferred, let_go, disorder, last_of, stops, after_fetch, fetch_checked, fetch_taken, fetch_from, fetch, most_rows}
use Rattle.machine.proofs.Entries.{frozen_judged}
use Rattle.machine.proofs.Plain.{side_of, fault_of, phase_of, streamed_of, buffered_of, counts_of, plain_setting, pipe_of, state_at, Whole, WholeStreamed, WholeBuffered, WholeBlock, Poised, Ahead, Opening, first_of}
use Rattle.machine.proofs.Block.{block, frozen_is, let_go_whole}
use Rattle.machine.proofs.Follows.{stay, walk, calm, PlainState, Followed, followed_cond, marked_whole}

-- ---- both machines look at rows alike

pub disorder_is : {K : Type 0} (within : K → K → Ordering) (w : Option (Row K)) (l : List (Row K)) (k : ℕ) → disorder within w l k ≡ plain_machine.disorder (by_key within) w l k
disorder_is within w [] k = refl
disorder_is within None (x ∷ l) k = disorder_is within (Some x) l (suc k)
disorder_is within (Some w) (x ∷ l) k = ap (cond (is_after (within w.key x.key)) (Some k)) (disorder_is within (Some x) l (suc k))

pub last_is : {A : Type 0} (w : Option A) (l : List A) → last_of w l ≡ plain_machine.last_of w l
last_is w [] = refl
last_is w (x ∷ l) = last_is (Some x) l

pub side_streamed : (kind : Kind) → side_of (is_right kind) (streamed_side kind) ≡ plain_machine.on_streamed
side_streamed Inner = refl
side_streamed Left = refl
side_streamed Right = refl
side_streamed Full = refl

pub side_buffered : (kind : Kind) → side_of (is_right kind) (buffered_side kind) ≡ plain_machine.on_buffered
side_buffered Inner = refl
side_buffered Left = refl
side_buffered Right = refl
side_buffered Full = refl

module _ {K V : Type 0} (c : Setting K) (fits : V → Record → Bool) (after : V → Record → V) (batch_of : ℕ → ℕ) (sized : 1 ≤ c.size) where
  abbrev plain : plain_machine.Setting (Row K) V
  plain = plain_setting c fits after

  abbrev Follow : PlainState c fits after batch_of sized → V → Outcome K → Type 0
  Follow = Followed c fits after batch_of sized

  -- a fault stops both
  pub stops_with : (f : JoinFault) (g : plain_machine.Fault SourceFault) → fault_of c.kind f ≡ g → (st : Streamed K) (bf : Buffered K) (q : Queued) (n : Counts) (v : V) (s : PlainState c fits after batch_of sized) (st' : plain_machine.Streamed (Row K) SourceFault) (bf' : plain_machine.Buffered (Row K) SourceFault)
      → streamed_of st ≡ st' → buffered_of bf ≡ bf' → plain_machine.micro plain s ≡ plain_machine.stops plain g st' bf' (pipe_of c bf.holding.base bf.states q) (counts_of n) v
      → WholeStreamed batch_of st → WholeBuffered c bf → WholeBlock c batch_of (bf.holding.base + bf.holding.start) q → Follow s v (stops c f st bf q n)
  stops_with f g e st bf q n v s st' bf' es eb h ws wb wq = (
    s,
    stay,
    h
        ∙ ap (λ (z : plain_machine.Fault SourceFault). plain_machine.stops plain z st' bf' (pipe_of c bf.holding.base bf.states q) (counts_of n) v) (sym e)
        ∙ ap (λ (z : plain_machine.Streamed (Row K) SourceFault). plain_machine.stops plain (fault_of c.kind f) z bf' (pipe_of c bf.holding.base bf.states q) (counts_of n) v) (sym es)
        ∙ ap (λ (z : plain_machine.Buffered (Row K) SourceFault). plain_machine.stops plain (fault_of c.kind f) (streamed_of st) z (pipe_of c bf.holding.base bf.states q) (counts_of n) v) (sym eb),
    record { streamed_side = ws; buffered_side = wb; block = wq; poised = tt },
  )

  abbrev side : List (List (Row K)) → Closing → ℕ → List (Row K) → ℕ → Bool → Option (Row K) → Streamed K
  side l e p rows at en last = record { batches = l; closing = e; first = p; rows = rows; at = at; ended = en; last = last }

  after_phase : (first : Bool) (to : ℕ) → plain_machine.after_fetch {F = SourceFault} plain first ≡ phase_of c.kind to (after_fetch c first)
  after_phase true to = refl
  after_phase false to = refl

  after_poised : (first : Bool) (st : Streamed K) (bf : Buffered K) → Ahead batch_of st → Opening first bf.holding bf.ended → Poised batch_of st bf.holding bf.ended (after_fetch c first)
  after_poised true st bf a o = (a, o)
  after_poised false st bf a o = (a, o)

  first_in : (p : ℕ) (r : List (Row K)) (l : List (List (Row K))) (i : ℕ) → i < p + length r → first_of p (r ∷ l) i ≡ p
  first_in p r l i h = rw (lt-ltb i (p + length r) h)

  first_past : (p : ℕ) (r : List (Row K)) (l : List (List (Row K))) (i : ℕ) → p + length r ≤ i → first_of p (r ∷ l) i ≡ first_of (p + length r) l i
  first_past p r l i h = rw (le-ltb i (p + length r) h)

  module _ (first : Bool) (e : Closing) (p : ℕ) (rows : List (Row K)) (at : ℕ) (last : Option (Row K)) (bf : Buffered K) (n : Counts) (v : V) where
    -- the side before the fetch, with batches l left
    abbrev before : List (List (Row K)) → Streamed K
    before l = side l e p rows at false last

    abbrev spent : at ≡ length rows → drop at rows ≡ []
    spent h = drop_all at rows (omega arith)

    fetch_checks : (o : Option ℕ) (x : Row K) (r : List (Row K)) (l : List (List (Row K))) (q : Queued) → disorder c.within last (x ∷ r) (p + length rows) ≡ o → at ≡ length rows
        → plain_machine.micro plain (state_at c (before ((x ∷ r) ∷ l)) bf q n (fetching first) v) ≡ plain_machine.fetch_checked plain (plain_machine.disorder (by_key c.within) last (x ∷ r) (p + at)) first l e (x ∷ r) (p + at) last (buffered_of bf) (pipe_of c bf.holding.base bf.states q) (counts_of n) v
        → Whole c batch_of (before ((x ∷ r) ∷ l)) bf q (fetching first) → Follow (state_at c (before ((x ∷ r) ∷ l)) bf q n (fetching first) v) v (fetch_checked c o first (x ∷ r) l (before ((x ∷ r) ∷ l)) bf q n)
    fetch_checks o x r l q d a h w = go o ((sym (disorder_is c.within last (x ∷ r) (p + at)) ∙ ap (λ (k : ℕ). disorder c.within last (x ∷ r) (p + k)) a) ∙ d)
      where
        pipe' : Pipe
        pipe' = pipe_of c bf.holding.base bf.states q

        go : (o : Option ℕ) → plain_machine.disorder (by_key c.within) last (x ∷ r) (p + at) ≡ o → Follow (state_at c (before ((x ∷ r) ∷ l)) bf q n (fetching first) v) v (fetch_checked c o first (x ∷ r) l (before ((x ∷ r) ∷ l)) bf q n)
        go None d = (
          walk (h ∙ ap (λ (z : Option ℕ). plain_machine.fetch_checked plain z first l e (x ∷ r) (p + at) last (buffered_of bf) pipe' (counts_of n) v) d
              ∙ ap (λ (k : ℕ). going (plain_machine.state (plain_machine.streamed l e (x ∷ r) k false (plain_machine.last_of last (x ∷ r))) (buffered_of bf) pipe' (counts_of n) v (plain_machine.after_fetch plain first))) (omega (arith, a))
              ∙ ap (λ (k : Option (Row K)). going (plain_machine.state (plain_machine.streamed l e (x ∷ r) ((p + length rows) + 0) false k) (buffered_of bf) pipe' (counts_of n) v (plain_machine.after_fetch plain first))) (sym (last_is last (x ∷ r)))
              ∙ ap (λ (k : plain_machine.Phase (Row K) SourceFault). going (plain_machine.state (plain_machine.streamed l e (x ∷ r) ((p + length rows) + 0) false (last_of last (x ∷ r))) (buffered_of bf) pipe' (counts_of n) v k)) (after_phase first (bf.holding.base + bf.holding.end))) stay,
          record {
            streamed_side = record { inside = omega arith; located = λ i lo hi. w.poised.0 i lo ∙ first_in (p + length rows) (x ∷ r) l i hi };
            buffered_side = w.buffered_side;
            block = w.block;
            poised = after_poised first (side l e (p + length rows) (x ∷ r) 0 false (last_of last (x ∷ r))) bf (λ i lo. w.poised.0 i (omega arith) ∙ first_past (p + length rows) (x ∷ r) l i lo) w.poised.2;
          },
        )
        go (Some k) d =
            stops_with (Unsorted (streamed_side c.kind) k) (plain_machine.disordered plain_machine.on_streamed k) (ap (λ (z : plain_machine.Side). plain_machine.disordered z k) (side_streamed c.kind))
            (side l e (p + length rows) [] 0 false last) bf q n v _ (plain_machine.streamed l e [] (p + at) false last) (buffered_of bf) (ap (λ (z : ℕ). plain_machine.streamed l e [] z false last) (omega (arith, a))) refl
            (h ∙ ap (λ (z : Option ℕ). plain_machine.fetch_checked plain z first l e (x ∷ r) (p + at) last (buffered_of bf) pipe' (counts_of n) v) d)
            (record { inside = omega arith; located = λ i lo hi. absurd (omega arith) }) w.buffered_side w.block

    fetch_takes : (x : Row K) (r : List (Row K)) (l : List (List (Row K))) (noted unfrozen frozen : List Entry) (due : List Record) → due ≡ [] → at ≡ length rows
        → plain_machine.micro plain (state_at c (before ((x ∷ r) ∷ l)) bf (block c batch_of noted unfrozen frozen due) n (fetching first) v) ≡ plain_machine.fetch_taken plain first (x ∷ r) l e (p + at) last (buffered_of bf) (pipe_of c bf.holding.base bf.states (block c batch_of noted unfrozen frozen due)) (counts_of n) v
        → Whole c batch_of (before ((x ∷ r) ∷ l)) bf (block c batch_of noted unfrozen frozen due) (fetching first)
        → Follow (state_at c (before ((x ∷ r) ∷ l)) bf (block c batch_of noted unfrozen frozen due) n (fetching first) v) v (fetch_taken c unfrozen first (x ∷ r) l (before ((x ∷ r) ∷ l)) bf (block c batch_of noted unfrozen frozen due) n)
    fetch_takes x r l noted [] frozen due z a h w = fetch_checks (disorder c.within last (x ∷ r) (p + length rows)) x r l (block c batch_of noted [] frozen due) refl a h w
    fetch_takes x r l noted (u ∷ us) frozen due z a h w =
        let q = block c batch_of noted (u ∷ us) frozen due in (
          walk (h
              ∙ ap (λ (p' : Pipe). going (plain_machine.state (plain_machine.streamed ((x ∷ r) ∷ l) e [] (p + at) false last) (buffered_of bf) p' (counts_of n) v (plain_machine.fetching first))) (sym (frozen_is c batch_of bf.holding.base bf.states (bf.holding.base + bf.holding.start) q w.block z))
              ∙ ap (λ (rs : List (Row K)). going (plain_machine.state (plain_machine.streamed ((x ∷ r) ∷ l) e rs (p + at) false last) (buffered_of bf) (pipe_of c bf.holding.base (marking c.kind bf.holding.base (judged_all c.asks (u ∷ us)) bf.states) (let_go (deferred c) (freeze c.asks q))) (counts_of n) v (plain_machine.fetching first))) (sym (spent a))) stay,
          record {
            streamed_side = w.streamed_side;
            buffered_side = marked_whole c fits after batch_of sized q bf w.buffered_side;
            block = let_go_whole c batch_of (deferred c) refl (bf.holding.base + bf.holding.start) noted frozen (judged_all c.asks (u ∷ us)) due w.block.frozen (frozen_judged c.kind c.asks batch_of (u ∷ us) w.block.made) w.block.noted w.block.behind sized;
            poised = w.poised;
          },
        )

    fetch_rows : (x : Row K) (r : List (Row K)) (l : List (List (Row K))) (q : Queued) → q.due ≡ [] → at ≡ length rows
        → plain_machine.micro plain (state_at c (before ((x ∷ r) ∷ l)) bf q n (fetching first) v) ≡ plain_machine.fetch plain first ((x ∷ r) ∷ l) e (p + at) last (buffered_of bf) (pipe_of c bf.holding.base bf.states q) (counts_of n) v
        → Whole c batch_of (before ((x ∷ r) ∷ l)) bf q (fetching first) → Follow (state_at c (before ((x ∷ r) ∷ l)) bf q n (fetching first) v) v (fetch_from c first ((x ∷ r) ∷ l) e (before ((x ∷ r) ∷ l)) bf q n)
    fetch_rows x r l q z a h w =
        let s = state_at c (before ((x ∷ r) ∷ l)) bf q n (fetching first) v in
        let p' = pipe_of c bf.holding.base bf.states q in
        let st' = plain_machine.streamed ((x ∷ r) ∷ l) e [] (p + at) false last in
        let long = plain_machine.stops plain (plain_machine.overlong plain_machine.on_streamed (p + at)) st' (buffered_of bf) p' (counts_of n) v in
        let big = plain_machine.stops plain (plain_machine.oversized plain_machine.on_streamed (p + at)) st' (buffered_of bf) p' (counts_of n) v in
        let taken = plain_machine.fetch_taken plain first (x ∷ r) l e (p + at) last (buffered_of bf) p' (counts_of n) v in
        let fits' = leb (length (x ∷ r)) c.streamed_table in
        let same : leb ((p + at) + length (x ∷ r)) most_rows ≡ leb ((p + length rows) + length (x ∷ r)) most_rows = ap (λ (k : ℕ). leb ((p + k) + length (x ∷ r)) most_rows) a in
        let here : streamed_of (before ((x ∷ r) ∷ l)) ≡ st' = ap (λ (rs : List (Row K)). plain_machine.streamed ((x ∷ r) ∷ l) e rs (p + at) false last) (spent a) in
        followed_cond c fits after batch_of sized s v (leb ((p + length rows) + length (x ∷ r)) most_rows) _ _
        (λ t. followed_cond c fits after batch_of sized s v fits' _ _
        (λ t₂. fetch_takes x r l q.noted q.unfrozen q.frozen q.due z a (h ∙ ap (λ (b : Bool). cond b (cond fits' taken big) long) (same ∙ t) ∙ ap (λ (b : Bool). cond b taken big) t₂) w)
        (λ t₂. stops_with (TableFull (streamed_side c.kind) (p + length rows)) (plain_machine.oversized plain_machine.on_streamed (p + at)) (ap (λ (k : plain_machine.Side). plain_machine.oversized k (p + length rows)) (side_streamed c.kind) ∙ ap (λ (k : ℕ). plain_machine.oversized plain_machine.on_streamed (p + k)) (sym a))
        (before ((x ∷ r) ∷ l)) bf q n v s st' (buffered_of bf) here refl (h ∙ ap (λ (b : Bool). cond b (cond fits' taken big) long) (same ∙ t) ∙ ap (λ (b : Bool). cond b taken big) t₂) w.streamed_side w.buffered_side w.block))
        (λ t. stops_with (TooManyRows (streamed_side c.kind) (p + length rows)) (plain_machine.overlong plain_machine.on_streamed (p + at)) (ap (λ (k : plain_machine.Side). plain_machine.overlong k (p + length rows)) (side_streamed c.kind) ∙ ap (λ (k : ℕ). plain_machine.overlong plain_machine.on_streamed (p + k)) (sym a))
        (before ((x ∷ r) ∷ l)) bf q n v s st' (buffered_of bf) here refl (h ∙ ap (λ (b : Bool). cond b (cond fits' taken big) long) (same ∙ t)) w.streamed_side w.buffered_side w.block)

  calm_fetch : (first : Bool) (st : Streamed K) (bf : Buffered K) (q : Queued) (n : Counts) (v : V) → q.due ≡ [] → plain_machine.micro plain (state_at c st bf q n (fetching first) v) ≡ plain_machine.fetch plain first st.batches st.closing (st.first + st.at) st.last (buffered_of bf) (pipe_of c bf.holding.base bf.states q) (counts_of n) v
  calm_fetch first st bf q n v z = calm plain _ _ _ _ _ _ _ (map (oriented c.kind) q.due) _ v _ (ap (map (oriented c.kind)) z)

  fetch_open : (first : Bool) (l : List (List (Row K))) (e : Closing) (p : ℕ) (rows : List (Row K)) (at : ℕ) (last : Option (Row K)) (bf : Buffered K) (q : Queued) (n : Counts) (v : V) → q.due ≡ [] → Whole c batch_of (side l e p rows at false last) bf q (fetching first)
      → Follow (state_at c (side l e p rows at false last) bf q n (fetching first) v) v (fetch_from c first l e (side l e p rows at false last) bf q n)
  fetch_open first [] (Ok end) p rows at last bf q n v z w = (
    walk (calm_fetch first (side [] (Ok end) p rows at false last) bf q n v z
        ∙ ap (λ (rs : List (Row K)). going (plain_machine.state (plain_machine.streamed [] (Ok end) rs (p + at) true last) (buffered_of bf) (pipe_of c bf.holding.base bf.states q) (counts_of n) v (plain_machine.after_fetch plain first))) (sym (drop_all at rows (omega (arith, w.poised.1.at_end))))
        ∙ ap (λ (k : plain_machine.Phase (Row K) SourceFault). going (plain_machine.state (plain_machine.streamed [] (Ok end) (drop at rows) (p + at) true last) (buffered_of bf) (pipe_of c bf.holding.base bf.states q) (counts_of n) v k)) (after_phase first (bf.holding.base + bf.holding.end))) stay,
    record {
      streamed_side = record { inside = w.streamed_side.inside; located = w.streamed_side.located };
      buffered_side = w.buffered_side;
      block = w.block;
      poised = after_poised first (side [] (Ok end) p rows at true last) bf w.poised.0 w.poised.2;
    },
  )
  fetch_open first [] (Err f) p rows at last bf q n v z w =
      stops_with (Source (streamed_side c.kind) f) (plain_machine.from_source plain_machine.on_streamed f) (ap (λ (k : plain_machine.Side). plain_machine.from_source k f) (side_streamed c.kind)) (side [] (Err f) p rows at false last) bf q n v _ (plain_machine.streamed [] (Err f) [] (p + at) false last) (buffered_of bf)
      (ap (λ (rs : List (Row K)). plain_machine.streamed [] (Err f) rs (p + at) false last) (drop_all at rows (omega (arith, w.poised.1.at_end)))) refl (calm_fetch first (side [] (Err f) p rows at false last) bf q n v z) w.streamed_side w.buffered_side w.block
  fetch_open first ([] ∷ l) e p rows at last bf q n v z w = (
    walk (calm_fetch first (side ([] ∷ l) e p rows at false last) bf q n v z
        ∙ ap (λ (rs : List (Row K)). going (plain_machine.state (plain_machine.streamed l e rs (p + at) false last) (buffered_of bf) (pipe_of c bf.holding.base bf.states q) (counts_of n) v (plain_machine.fetching first))) (sym (drop_all at rows (omega (arith, w.poised.1.at_end))))) stay,
    record {
      streamed_side = record { inside = w.streamed_side.inside; located = w.streamed_side.located };
      buffered_side = w.buffered_side;
      block = w.block;
      poised = (
        λ i lo. w.poised.0 i lo ∙ first_past (p + length rows) [] l i (omega arith) ∙ ap (λ (k : ℕ). first_of k l i) (omega arith),
        record { at_end = w.poised.1.at_end; not_ended = refl },
        w.poised.2,
      );
    },
  )
  fetch_open first ((x ∷ r) ∷ l) e p rows at last bf q n v z w = fetch_rows first e p rows at last bf n v x r l q z w.poised.1.at_end (calm_fetch first (side ((x ∷ r) ∷ l) e p rows at false last) bf q n v z) w

  pub follows_fetch : (first : Bool) (st : Streamed K) (bf : Buffered K) (q : Queued) (n : Counts) (v : V) → q.due ≡ [] → Whole c batch_of st bf q (fetching first) → Follow (state_at c st bf q n (fetching first) v) v (fetch c first st bf q n)
  follows_fetch first st bf q n v z w = go st.ended w.poised.1.not_ended w
    where
      go : (en : Bool) → en ≡ false → Whole c batch_of (side st.batches st.closing st.first st.rows st.at en st.last) bf q (fetching first)
          → Follow (state_at c (side st.batches st.closing st.first st.rows st.at en st.last) bf q n (fetching first) v) v (fetch_from c first st.batches st.closing (side st.batches st.closing st.first st.rows st.at en st.last) bf q n)
      go true h w = cc
      go false h w = fetch_open first st.batches st.closing st.first st.rows st.at st.last bf q n v z w
