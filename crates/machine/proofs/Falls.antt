-- The weight falls with every small step that goes on, and the measure with every step and every record handed over.
use Rattle.std.proofs.Common.{◌≡◌, ℕ, zero, suc, ◌+◌, ◌-◌, ◌*◌, ◌<◌, ◌≤◌, Bool, true, false, cond, ◌&&◌, ltb, leb, List, [], ◌∷◌, length, take, drop, Some, None, Err, Ok, Option, Ordering, Less, Equal, Greater, refl, ap, ◌∙◌, subst, mul-le-mul_left, mul-suc, arith, length-drop, length-take}
use Rattle.std.proofs.lemmas.Bool.{ltb-true, lt-ltb, le-ltb, lt-leb, cond-true, cond-false, cond_both}
use Rattle.std.proofs.lemmas.Option.{slice_get_within}
use Rattle.rows.specs.Order.{is_same}
use Rattle.rows.specs.declared.record.Record.{Record}
use Rattle.rows.specs.declared.row.Row.{Row}
use Rattle.sources.specs.Meaning.{Closing}
use Rattle.rows.specs.Sides.{is_outer}
use Rattle.pipeline.specs.declared.batch.BufferedBatch.{BufferedBatch}
use Rattle.pipeline.specs.declared.entry.Entry.{Entry}
use Rattle.pipeline.specs.Block.{Queued, pushed, freeze}
use Rattle.pipeline.specs.Entries.{lone}
use Rattle.pipeline.specs.Orient.{streamed_alone}
use Rattle.pipeline.specs.Held.{seeded, extended, leaving, run_at, pairs_with, same_run}
use Rattle.machine.specs.Machine.{Setting, Streamed, Buffered, Counts, Phase, fetching, seeding, extending, closing, turning, pairing, passing, done, stopped, Core, core, Outcome, going, answered, most_rows, most_batches, row_at, disorder, let_go, flush, streamed_read, buffered_read, deferred, has_batch, freeze_full, fetch_checked, fetch_taken, fetch_from, fetch, load_checked, load_from, load, taken_in, passed_over, seed, extend_from, extend, part, pass_run, lone_row, head_start, place, next_row, with_holding, compared, comparison, run_head, turn, pair_row, pass_row, close, step, step_of}
use Rattle.machine.specs.Machine.{goes, hands_over, says, moved, handed, counted_record, micro_due, micro}
use Rattle.machine.specs.declared.answer.Answer.TheVariants.{Waiting}
use Rattle.machine.specs.Weight.{Sane, due_of, rows_within, any_of, anew, run_rows, weight_in, weight, measure}

-- ---- lists

at_most_length : {A : Type 0} (n : ℕ) (l : List A) → row_at n l ≡ None → length l ≤ n
at_most_length n [] e = omega arith
at_most_length zero (x ∷ l) e = cc
at_most_length (suc n) (x ∷ l) e = omega (arith, at_most_length n l e)

same_run_short : {K : Type 0} (within : K → K → Ordering) (k : K) (l : List (Row K)) → same_run within k l ≤ length l
same_run_short within k [] = omega arith
same_run_short within k (x ∷ l) = go (is_same (within k x.key)) (same_run_short within k l)
  where
    go : (t : Bool) → same_run within k l ≤ length l → cond t (suc (same_run within k l)) 0 ≤ suc (length l)
    go true h = omega arith
    go false h = omega arith

-- ---- the parts of the weight

anew_held : {K : Type 0} (bf : Buffered K) → bf.holding.start < bf.holding.held → anew bf ≡ 0
anew_held bf h = cond-true (ltb bf.holding.start bf.holding.held) 0 2 (lt-ltb _ _ h)

anew_past : {K : Type 0} (bf : Buffered K) → bf.holding.held ≤ bf.holding.start → anew bf ≡ 2
anew_past bf h = cond-false (ltb bf.holding.start bf.holding.held) 0 2 (le-ltb _ _ h)

any_few : {A : Type 0} (l : List A) → any_of l ≤ 1
any_few [] = omega arith
any_few (x ∷ l) = omega arith

one_few : (t : Bool) → cond t 1 0 ≤ 1
one_few true = omega arith
one_few false = omega arith

-- ---- the steps

module _ {K : Type 0} (c : Setting K) where
  -- a step that goes on comes to a core that weighs less
  abbrev Below : ℕ → Outcome K → Type 0
  Below w (going s) = weight c s < w
  Below w (answered a s) = Unit {0}

  below_cond : (w : ℕ) (t : Bool) (a b : Outcome K) → (t ≡ true → Below w a) → (t ≡ false → Below w b) → Below w (cond t a b)
  below_cond w t a b h k = cond_both t a b (Below w) h k

  -- what is let go leaves the unfrozen as they are
  let_go_unfrozen : (d : Bool) (q : Queued) → (let_go d q).unfrozen ≡ q.unfrozen
  let_go_unfrozen true q = refl
  let_go_unfrozen false q = refl

  fetch_falls : (first : Bool) (st : Streamed K) (bf : Buffered K) (q : Queued) (n : Counts) → Below (weight_in c (fetching first) st bf q) (fetch c first st bf q n)
  fetch_falls first st bf q n = go first st.batches st.closing refl
    where
      checked : (first : Bool) (o : Option ℕ) (r : List (Row K)) (l : List (List (Row K))) → st.batches ≡ r ∷ l → Below (weight_in c (fetching first) st bf q) (fetch_checked c o first r l st bf q n)
      checked true None r l e = omega (arith, ap length e)
      checked false None r l e = omega (arith, ap length e)
      checked first (Some k) r l e = tt

      taken : (first : Bool) (es : List Entry) (r : List (Row K)) (l : List (List (Row K))) → q.unfrozen ≡ es → st.batches ≡ r ∷ l → Below (weight_in c (fetching first) st bf q) (fetch_taken c es first r l st bf q n)
      taken first [] r l u e = checked first (disorder c.within st.last r (streamed_read st)) r l e
      taken true (x ∷ es) r l u e = omega (arith, ap any_of u, ap any_of (let_go_unfrozen (deferred c) (freeze c.asks q)))
      taken false (x ∷ es) r l u e = omega (arith, ap any_of u, ap any_of (let_go_unfrozen (deferred c) (freeze c.asks q)))

      go : (first : Bool) (l : List (List (Row K))) (e : Closing) → st.batches ≡ l → Below (weight_in c (fetching first) st bf q) (fetch_from c first l e st bf q n)
      go true [] (Ok end) e = omega arith
      go false [] (Ok end) e = omega arith
      go first [] (Err f) e = tt
      go true ([] ∷ l) z e = omega (arith, ap length e)
      go false ([] ∷ l) z e = omega (arith, ap length e)
      go first ((x ∷ r) ∷ l) z e =
          below_cond _ (leb (streamed_read st + length (x ∷ r)) most_rows) _ _ (λ _. below_cond _ (leb (length (x ∷ r)) c.streamed_table) _ _ (λ _. taken first q.unfrozen (x ∷ r) l refl e) (λ _. tt)) (λ _. tt)

  -- a load in the phase ph leaves a batch fewer in the source, the rows held and to come, and the run
  load_falls : (over : Outcome K) (ph : Phase K) (st : Streamed K) (bf : Buffered K) (q : Queued) (n : Counts) (w : ℕ) → Below w over
      → ((bf' : Buffered K) → length bf'.batches < length bf.batches → bf'.holding.held + rows_within bf'.batches ≡ bf.holding.held + rows_within bf.batches → bf'.holding.start ≡ bf.holding.start → bf.holding.held ≤ bf'.holding.held → weight_in c ph st bf' q < w)
      → Below w (load c over ph st bf q n)
  load_falls over ph st bf q n w o h = go bf.batches bf.closing refl
    where
      checked : (k : Option ℕ) (r : List (Row K)) (l : List (List (Row K))) → bf.batches ≡ r ∷ l → Below w (load_checked c k ph r l st bf q n)
      checked None r l e = h (taken_in c r l bf) (omega (arith, ap length e)) (omega (arith, ap rows_within e)) refl (omega arith)
      checked (Some k) r l e = tt

      go : (l : List (List (Row K))) (z : Closing) → bf.batches ≡ l → Below w (load_from c over ph l z st bf q n)
      go [] (Ok end) e = o
      go [] (Err f) e = tt
      go ([] ∷ l) z e = h (passed_over c l bf) (omega (arith, ap length e)) (omega (arith, ap rows_within e)) refl (omega arith)
      go ((x ∷ r) ∷ l) z e =
          below_cond w (leb (buffered_read bf + length (x ∷ r)) most_rows) _ _
          (λ _. below_cond w (leb (suc (length bf.holding.batches)) most_batches) _ _
          (λ _. below_cond w (leb (bf.holding.held + length (x ∷ r)) c.buffered_table) _ _ (λ _. checked (disorder c.within bf.last (x ∷ r) (buffered_read bf)) (x ∷ r) l e) (λ _. tt)) (λ _. tt)) (λ _. tt)

  seed_falls : (first : Bool) (st : Streamed K) (bf : Buffered K) (q : Queued) (n : Counts) → bf.holding.end ≤ bf.holding.held → Below (weight_in c (seeding first) st bf q) (seed c first st bf q n)
  seed_falls true st bf q n h = below_cond _ (ltb bf.holding.end bf.holding.held) _ _ (λ t. omega (arith, anew_held (with_holding c (seeded bf.holding) bf) (ltb-true _ _ t))) (λ _. load_falls _ (seeding true) st bf q n _ (omega arith) (λ bf' l t s g. omega arith))
  seed_falls false st bf q n h = below_cond _ (ltb bf.holding.end bf.holding.held) _ _ (λ t. omega (arith, anew_held (with_holding c (seeded bf.holding) bf) (ltb-true _ _ t))) (λ _. load_falls _ (seeding false) st bf q n _ (omega arith) (λ bf' l t s g. omega arith))

  extend_falls : (first : Bool) (st : Streamed K) (bf : Buffered K) (q : Queued) (n : Counts) → bf.holding.end ≤ bf.holding.held → length bf.rows ≡ bf.holding.held → Below (weight_in c (extending first) st bf q) (extend c first st bf q n)
  extend_falls first st bf q n h r = go first (row_at bf.holding.start bf.rows) refl
    where
      on : (first : Bool) (k : ℕ) → k ≤ bf.holding.held - bf.holding.end → bf.holding.start < bf.holding.held
          → Below (weight_in c (extending first) st bf q) (cond (ltb (bf.holding.end + k) bf.holding.held) (going (core st (with_holding c (extended k bf.holding) bf) q n (closing first))) (load c (going (core st (with_holding c (extended k bf.holding) bf) q n (closing first))) (extending first) st (with_holding c (extended k bf.holding) bf) q n))
      on true k m s =
          below_cond _ (ltb (bf.holding.end + k) bf.holding.held) _ _ (λ _. omega arith)
          (λ _. load_falls _ (extending true) st (with_holding c (extended k bf.holding) bf) q n _ (omega arith) (λ bf' l t z g. omega (arith, anew_held bf s, anew_held bf' (omega arith))))
      on false k m s =
          below_cond _ (ltb (bf.holding.end + k) bf.holding.held) _ _ (λ _. omega arith)
          (λ _. load_falls _ (extending false) st (with_holding c (extended k bf.holding) bf) q n _ (omega arith) (λ bf' l t z g. omega (arith, anew_held bf s, anew_held bf' (omega arith))))

      go : (first : Bool) (o : Option (Row K)) → row_at bf.holding.start bf.rows ≡ o → Below (weight_in c (extending first) st bf q) (extend_from c o first st bf q n)
      go true None e = omega (arith, anew_past bf (omega (arith, at_most_length bf.holding.start bf.rows e)))
      go false None e = omega (arith, anew_past bf (omega (arith, at_most_length bf.holding.start bf.rows e)))
      go first (Some y) e =
          on first (same_run c.within y.key (drop bf.holding.end bf.rows)) (omega (arith, same_run_short c.within y.key (drop bf.holding.end bf.rows), length-drop bf.holding.end bf.rows))
          (omega (arith, slice_get_within bf.rows bf.holding.start y e))

  -- freezing keeps the phase, and the batches in the sources
  full_falls : (w : ℕ) (ph : Phase K) (st : Streamed K) (bf : Buffered K) (q : Queued) (n : Counts) → ((bf : Buffered K) (q : Queued) → weight_in c ph st bf q < w) → Below w (freeze_full c ph st bf q n)
  full_falls w ph st bf q n h = below_cond w (leb c.size (length q.unfrozen)) _ _ (λ _. h _ _) (λ _. h _ _)

  part_falls : (w : ℕ) (lone : Bool) (l : List BufferedBatch) (st : Streamed K) (bf : Buffered K) (q : Queued) (n : Counts) → 3 + length bf.batches < w → Below w (part c lone l st bf q n)
  part_falls w lone [] st bf q n h = h
  part_falls w lone (b ∷ l) st bf q n h = h

  pass_run_falls : (w : ℕ) (st : Streamed K) (bf : Buffered K) (q : Queued) (n : Counts) → 3 + length bf.batches < w → Below w (pass_run c st bf q n)
  pass_run_falls w st bf q n h = below_cond w (ltb bf.holding.start bf.holding.end) _ _ (λ _. part_falls w _ (leaving bf.holding.batches) st bf _ _ h) (λ _. omega arith)

  lone_falls : (w : ℕ) (keeps : Bool) (st : Streamed K) (bf : Buffered K) (q : Queued) (n : Counts) → 4 + length st.batches < w → Below w (lone_row c keeps st bf q n)
  lone_falls w true st bf q n h = full_falls w passing st bf (pushed (lone (streamed_alone c.kind (place c st)) ∷ []) q) n (λ _ _. h)
  lone_falls w false st bf q n h = h

  compared_falls : (o : Ordering) (st : Streamed K) (bf : Buffered K) (q : Queued) (n : Counts) → Below (weight_in c turning st bf q) (compared c o st bf q n)
  compared_falls Less st bf q n = lone_falls _ (is_outer c.kind) st bf q n (omega arith)
  compared_falls Equal st bf q n = omega (arith, length-take (run_rows bf) (run_at bf.holding 0 (head_start c bf.holding.batches) bf.rows))
  compared_falls Greater st bf q n = pass_run_falls _ st bf q n (omega arith)

  -- after a flush nothing waits in the block
  flush_empties : (d : Bool) (q : Queued) → 1 ≤ c.size → has_batch c (flush d c.kind c.asks q) ≡ false
  flush_empties true q h = lt-leb c.size 0 h
  flush_empties false q h = lt-leb c.size 0 h

  turn_falls : (st : Streamed K) (bf : Buffered K) (q : Queued) (n : Counts) → 1 ≤ c.size → Below (weight_in c turning st bf q) (turn c st bf q n)
  turn_falls st bf q n h =
      below_cond _ (has_batch c q) _ _
      (λ t. omega (arith, cond-true {A = ℕ} (has_batch c q) 1 0 t, cond-false {A = ℕ} (has_batch c (flush (deferred c) c.kind c.asks q)) 1 0 (flush_empties (deferred c) q h)))
      (λ _. compared_falls (comparison c (row_at st.at st.rows) (run_head c bf)) st bf q n)

  pair_falls : (o : Option (Row K)) (todo : List (ℕ × Row K)) (st : Streamed K) (bf : Buffered K) (q : Queued) (n : Counts) → length q.unfrozen < c.size → Below (weight_in c (pairing todo) st bf q) (pair_row c o todo st bf q n)
  pair_falls None todo st bf q n h = omega arith
  pair_falls (Some x) [] st bf q n h = omega arith
  pair_falls (Some x) (p ∷ todo) st bf q n h = full_falls (weight_in c (pairing (p ∷ todo)) st bf q) (pairing (drop (c.size - length q.unfrozen) (p ∷ todo))) st bf
      (pushed (pairs_with c.kind (record { batch = st.first; row = st.at }) (place c st) x.reading (take (c.size - length q.unfrozen) (p ∷ todo))) q) n (λ _ _. omega (arith, length-drop (c.size - length q.unfrozen) (p ∷ todo)))

  pass_falls : (st : Streamed K) (bf : Buffered K) (q : Queued) (n : Counts) → Below (weight_in c passing st bf q) (pass_row c st bf q n)
  pass_falls st bf q n = below_cond _ (ltb st.at (length st.rows)) _ _ (λ _. go (ltb (st.at + 1) (length st.rows))) (λ _. omega (arith, any_few q.unfrozen))
    where
      go : (t : Bool) → weight_in c (cond t (closing false) (fetching false)) (next_row c st) bf q < 4 + length st.batches
      go true = omega arith
      go false = omega (arith, any_few q.unfrozen)

  close_falls : (first : Bool) (st : Streamed K) (bf : Buffered K) (q : Queued) (n : Counts) → Below (weight_in c (closing first) st bf q) (close c first st bf q n)
  close_falls true st bf q n = below_cond _ (st.ended && bf.ended) _ _ (λ _. omega arith) (λ _. omega (arith, one_few (has_batch c q)))
  close_falls false st bf q n = below_cond _ (st.ended && bf.ended) _ _ (λ _. omega arith) (λ _. tt)

  step_falls : (ph : Phase K) (st : Streamed K) (bf : Buffered K) (q : Queued) (n : Counts) → Sane c (core st bf q n ph) → Below (weight_in c ph st bf q) (step c ph st bf q n)
  step_falls (fetching first) st bf q n h = fetch_falls first st bf q n
  step_falls (seeding first) st bf q n h = seed_falls first st bf q n h.run_is_held
  step_falls (extending first) st bf q n h = extend_falls first st bf q n h.run_is_held h.held_is_there
  step_falls (closing first) st bf q n h = close_falls first st bf q n
  step_falls turning st bf q n h = turn_falls st bf q n h.has_size
  step_falls (pairing todo) st bf q n h = pair_falls (row_at st.at st.rows) todo st bf q n h.has_room
  step_falls passing st bf q n h = pass_falls st bf q n
  step_falls done st bf q n h = tt
  step_falls (stopped f) st bf q n h = tt

-- a small step that goes on weighs less
pub falls : {K : Type 0} (c : Setting K) (s s' : Core K) → Sane c s → step_of c s ≡ going s' → weight c s' < weight c s
falls c (core st bf q n ph) s' h e = subst (Below c (weight_in c ph st bf q)) e (step_falls c ph st bf q n h)

-- ---- the measure

-- one part less of weight outweighs what becomes due
outweighs : (L w w' d d' : ℕ) → w' < w → d' ≤ L → (L + 1) * w' + d' < (L + 1) * w + d
outweighs L w w' d d' h k = omega (arith, mul-le-mul_left (L + 1) h, mul-suc (L + 1) w')

pub measure_steps : {K : Type 0} (c : Setting K) (block : ℕ) (s s' : Core K) → Sane c s → step_of c s ≡ going s' → length (due_of s') ≤ block → measure c block s' < measure c block s
measure_steps c block s s' h e d = outweighs block (weight c s) (weight c s') (length (due_of s)) (length (due_of s')) (falls c s s' h e) d

module _ {K V : Type 0} (c : Setting K) (fits : V → Record → Bool) (after : V → Record → V) where
  -- a micro step goes on where nothing is due and the small step goes on
  pub record GoesOn (s : Core K) (v : V) (s' : Core K) (v' : V) : Type 0 where
    pub nothing_due : due_of s ≡ []
    pub steps_on : step_of c s ≡ going s'
    pub same_sink : v' ≡ v

  pub when_goes : (s s' : Core K) (v v' : V) → micro c fits after s v ≡ goes s' v' → GoesOn s v s' v'
  when_goes (core st bf q n ph) s' v v' e = due q.due refl e
    where
      stepped : (o : Outcome K) → step c ph st bf q n ≡ o → moved c fits after o v ≡ goes s' v' → (step c ph st bf q n ≡ going s') × (v' ≡ v)
      stepped (going t) k e = (cc, cc)
      stepped (answered a t) k e = cc

      fitted : (t : Bool) (x : Record) (l : List Record) → cond t (hands_over x (core st bf (handed c fits after l q) (counted_record n) ph) (after v x)) (says (Ok Waiting) (core st bf q n ph) v) ≡ goes s' v' → ⊥
      fitted true x l e = cc
      fitted false x l e = cc

      due : (l : List Record) → q.due ≡ l → micro_due c fits after l st bf q n ph v ≡ goes s' v' → GoesOn (core st bf q n ph) v s' v'
      due [] d e = let h = stepped (step c ph st bf q n) refl e in record { nothing_due = d; steps_on = h.0; same_sink = h.1 }
      due (x ∷ l) d e = absurd (fitted (fits v x) x l e)

  -- a record is handed over where it is the first due and fits; the phase stays, so the weight does
  pub record HandsOne (s : Core K) (v : V) (x : Record) (s' : Core K) (v' : V) : Type 0 where
    pub first_due : due_of s ≡ x ∷ due_of s'
    pub fits_in : fits v x ≡ true
    pub sink_after : v' ≡ after v x
    pub same_weight : weight c s' ≡ weight c s

  due_weighs_nothing : (l : List Record) (st : Streamed K) (bf : Buffered K) (q : Queued) (ph : Phase K) → weight_in c ph st bf (handed c fits after l q) ≡ weight_in c ph st bf q
  due_weighs_nothing l st bf q (fetching true) = refl
  due_weighs_nothing l st bf q (fetching false) = refl
  due_weighs_nothing l st bf q (seeding true) = refl
  due_weighs_nothing l st bf q (seeding false) = refl
  due_weighs_nothing l st bf q (extending true) = refl
  due_weighs_nothing l st bf q (extending false) = refl
  due_weighs_nothing l st bf q (closing true) = refl
  due_weighs_nothing l st bf q (closing false) = refl
  due_weighs_nothing l st bf q turning = refl
  due_weighs_nothing l st bf q (pairing todo) = refl
  due_weighs_nothing l st bf q passing = refl
  due_weighs_nothing l st bf q done = refl
  due_weighs_nothing l st bf q (stopped f) = refl

  pub when_hands : (s s' : Core K) (v v' : V) (x : Record) → micro c fits after s v ≡ hands_over x s' v' → HandsOne s v x s' v'
  when_hands (core st bf q n ph) s' v v' x e = due q.due refl e
    where
      stepped : (o : Outcome K) → moved c fits after o v ≡ hands_over x s' v' → ⊥
      stepped (going t) e = cc
      stepped (answered a t) e = cc

      fitted : (t : Bool) (y : Record) (l : List Record) → q.due ≡ y ∷ l → fits v y ≡ t → cond t (hands_over y (core st bf (handed c fits after l q) (counted_record n) ph) (after v y)) (says (Ok Waiting) (core st bf q n ph) v) ≡ hands_over x s' v' → HandsOne (core st bf q n ph) v x s' v'
      fitted true y l d f e =
          let same : s' ≡ core st bf (handed c fits after l q) (counted_record n) ph = cc in
          let yx : y ≡ x = cc in
          let rest : due_of s' ≡ l = ap due_of same in
          record { first_due = cc; fits_in = cc; sink_after = cc; same_weight = ap (weight c) same ∙ due_weighs_nothing l st bf q ph }
      fitted false y l d f e = cc

      due : (l : List Record) → q.due ≡ l → micro_due c fits after l st bf q n ph v ≡ hands_over x s' v' → HandsOne (core st bf q n ph) v x s' v'
      due [] d e = absurd (stepped (step c ph st bf q n) e)
      due (y ∷ l) d e = fitted (fits v y) y l d refl e

  pub measure_hands : (block : ℕ) (s s' : Core K) (v v' : V) (x : Record) → micro c fits after s v ≡ hands_over x s' v' → measure c block s' < measure c block s
  measure_hands block s s' v v' x e = let h = when_hands s s' v v' x e in omega (arith, ap (λ w. (block + 1) * w) h.same_weight, ap length h.first_due)

  pub measure_goes : (block : ℕ) (s s' : Core K) (v v' : V) → Sane c s → micro c fits after s v ≡ goes s' v' → length (due_of s') ≤ block → measure c block s' < measure c block s
  measure_goes block s s' v v' h e d = measure_steps c block s s' h (when_goes s s' v v' e).steps_on d
