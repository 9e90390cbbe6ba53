-- How the sources close never changes, and a join that has stopped stays so.
use Rattle.std.proofs.Common.{◌≡◌, ℕ, suc, ◌+◌, ◌-◌, Bool, true, false, cond, ◌&&◌, ◌||◌, ltb, leb, ◌⊎◌, List, [], ◌∷◌, ◌++◌, length, take, drop, Some, None, Ok, Err, Option, Ordering, Less, Equal, Greater, sym, refl, ap, ◌∙◌, subst, inl, inr}
use mathlib.Core.Bool.{false≢true}
use Rattle.std.proofs.lemmas.Bool.{or_cases, or_left, or_right}
use Rattle.rows.specs.declared.kind.Side.{Side}
use Rattle.rows.specs.declared.record.Record.{Record}
use Rattle.rows.specs.declared.row.Row.{Row}
use Rattle.sources.specs.Meaning.{Closing}
use Rattle.rows.specs.Sides.{is_outer}
use Rattle.pipeline.specs.declared.entry.Entry.{Entry}
use Rattle.pipeline.specs.declared.batch.BufferedBatch.{BufferedBatch}
use Rattle.pipeline.specs.Entries.{lone}
use Rattle.pipeline.specs.Orient.{streamed_alone}
use Rattle.pipeline.specs.Block.{Queued, pushed}
use Rattle.pipeline.specs.Held.{leaving, extended, same_run, pairs_with}
use Rattle.machine.specs.declared.answer.Answer.TheVariants.{Waiting}
use Rattle.machine.specs.Machine.{Setting, Told, Phase, fetching, seeding, extending, closing, turning, passing, done, pairing, stopped, Streamed, Buffered, Counts, Core, core, Outcome, going, answered, Moved, goes, hands_over, says, moved, handed, counted_record, micro_due, micro, Turned, answers, steps, hands, row_at, disorder, streamed_read, buffered_read, most_rows, most_batches, freeze_full, fetch_checked, fetch_taken, fetch_from, load_checked, load_from, extend_from, with_holding, part, is_lone, lone_row, compared, comparison, run_head, pair_row, go_on, step, has_batch, place}
use Rattle.machine.specs.Law.{fails, has_failed}

abbrev pub Closes : {K : Type 0} → Streamed K → Buffered K → Streamed K → Buffered K → Type 0
Closes st bf st' bf' = (st'.closing ≡ st.closing) × (bf'.closing ≡ bf.closing)

-- the side's fault stopped the join
abbrev pub fails_at : {K : Type 0} → Side → Phase K → Bool
fails_at side (fetching f) = false
fails_at side (seeding f) = false
fails_at side (extending f) = false
fails_at side (closing f) = false
fails_at side turning = false
fails_at side passing = false
fails_at side done = false
fails_at side (pairing todo) = false
fails_at side (stopped f) = fails side (Err f)

module _ {K : Type 0} (c : Setting K) where
  abbrev Sound : Streamed K → Buffered K → Outcome K → Type 0
  Sound st bf (going (core st' bf' q n ph)) = Closes st bf st' bf'
  Sound st bf (answered (Ok a) (core st' bf' q n ph)) = Closes st bf st' bf'
  Sound st bf (answered (Err f) (core st' bf' q n ph)) = Closes st bf st' bf' × (ph ≡ stopped f)

  sound_cond : (st : Streamed K) (bf : Buffered K) (t : Bool) (a b : Outcome K) → Sound st bf a → Sound st bf b → Sound st bf (cond t a b)
  sound_cond st bf true a b h k = h
  sound_cond st bf false a b h k = k

  sound_checked : (o : Option ℕ) (first : Bool) (r : List (Row K)) (l : List (List (Row K))) (st : Streamed K) (bf : Buffered K) (q : Queued) (n : Counts) → Sound st bf (fetch_checked c o first r l st bf q n)
  sound_checked None first r l st bf q n = (refl, refl)
  sound_checked (Some k) first r l st bf q n = ((refl, refl), refl)

  sound_taken : (es : List Entry) (first : Bool) (r : List (Row K)) (l : List (List (Row K))) (st : Streamed K) (bf : Buffered K) (q : Queued) (n : Counts) → Sound st bf (fetch_taken c es first r l st bf q n)
  sound_taken [] first r l st bf q n = sound_checked (disorder c.within st.last r (streamed_read st)) first r l st bf q n
  sound_taken (e ∷ es) first r l st bf q n = (refl, refl)

  sound_fetch : (first : Bool) (l : List (List (Row K))) (e : Closing) (st : Streamed K) (bf : Buffered K) (q : Queued) (n : Counts) → Sound st bf (fetch_from c first l e st bf q n)
  sound_fetch first [] (Ok end) st bf q n = (refl, refl)
  sound_fetch first [] (Err f) st bf q n = ((refl, refl), refl)
  sound_fetch first ([] ∷ l) e st bf q n = (refl, refl)
  sound_fetch first ((x ∷ r) ∷ l) e st bf q n = sound_cond st bf (leb (streamed_read st + length (x ∷ r)) most_rows) _ _ (sound_cond st bf (leb (length (x ∷ r)) c.streamed_table) _ _ (sound_taken q.unfrozen first (x ∷ r) l st bf q n) ((refl, refl), refl)) ((refl, refl), refl)

  sound_loaded : (o : Option ℕ) (ph : Phase K) (r : List (Row K)) (l : List (List (Row K))) (st : Streamed K) (bf : Buffered K) (q : Queued) (n : Counts) → Sound st bf (load_checked c o ph r l st bf q n)
  sound_loaded None ph r l st bf q n = (refl, refl)
  sound_loaded (Some k) ph r l st bf q n = ((refl, refl), refl)

  sound_load : (over : Outcome K) (ph : Phase K) (l : List (List (Row K))) (e : Closing) (st : Streamed K) (bf : Buffered K) (q : Queued) (n : Counts) → Sound st bf over → Sound st bf (load_from c over ph l e st bf q n)
  sound_load over ph [] (Ok end) st bf q n h = h
  sound_load over ph [] (Err f) st bf q n h = ((refl, refl), refl)
  sound_load over ph ([] ∷ l) e st bf q n h = (refl, refl)
  sound_load over ph ((x ∷ r) ∷ l) e st bf q n h =
      sound_cond st bf (leb (buffered_read bf + length (x ∷ r)) most_rows) _ _
      (sound_cond st bf (leb (suc (length bf.holding.batches)) most_batches) _ _
      (sound_cond st bf (leb (bf.holding.held + length (x ∷ r)) c.buffered_table) _ _ (sound_loaded (disorder c.within bf.last (x ∷ r) (buffered_read bf)) ph (x ∷ r) l st bf q n) ((refl, refl), refl)) ((refl, refl), refl)) ((refl, refl), refl)

  sound_extend : (o : Option (Row K)) (first : Bool) (st : Streamed K) (bf : Buffered K) (q : Queued) (n : Counts) → Sound st bf (extend_from c o first st bf q n)
  sound_extend None first st bf q n = (refl, refl)
  sound_extend (Some y) first st bf q n =
      let on = with_holding c (extended (same_run c.within y.key (drop bf.holding.end bf.rows)) bf.holding) bf in
      sound_cond st bf (ltb (bf.holding.end + same_run c.within y.key (drop bf.holding.end bf.rows)) bf.holding.held) _ _ (refl, refl) (sound_load (going (core st on q n (closing first))) (extending first) bf.batches bf.closing st on q n (refl, refl))

  sound_full : (ph : Phase K) (st : Streamed K) (bf : Buffered K) (q : Queued) (n : Counts) → Sound st bf (freeze_full c ph st bf q n)
  sound_full ph st bf q n = sound_cond st bf (leb c.size (length q.unfrozen)) _ _ (refl, refl) (refl, refl)

  sound_part : (lone : Bool) (l : List BufferedBatch) (st : Streamed K) (bf : Buffered K) (q : Queued) (n : Counts) → Sound st bf (part c lone l st bf q n)
  sound_part lone [] st bf q n = (refl, refl)
  sound_part lone (b ∷ l) st bf q n = (refl, refl)

  sound_lone : (keeps : Bool) (st : Streamed K) (bf : Buffered K) (q : Queued) (n : Counts) → Sound st bf (lone_row c keeps st bf q n)
  sound_lone true st bf q n = sound_full passing st bf (pushed (lone (streamed_alone c.kind (place c st)) ∷ []) q) n
  sound_lone false st bf q n = (refl, refl)

  sound_compared : (o : Ordering) (st : Streamed K) (bf : Buffered K) (q : Queued) (n : Counts) → Sound st bf (compared c o st bf q n)
  sound_compared Less st bf q n = sound_lone (is_outer c.kind) st bf q n
  sound_compared Equal st bf q n = (refl, refl)
  sound_compared Greater st bf q n = sound_cond st bf (ltb bf.holding.start bf.holding.end) _ _ (sound_part (is_lone c bf) (leaving bf.holding.batches) st bf _ _) (refl, refl)

  sound_pair : (o : Option (Row K)) (todo : List (ℕ × Row K)) (st : Streamed K) (bf : Buffered K) (q : Queued) (n : Counts) → Sound st bf (pair_row c o todo st bf q n)
  sound_pair None todo st bf q n = (refl, refl)
  sound_pair (Some x) [] st bf q n = (refl, refl)
  sound_pair (Some x) (p ∷ todo) st bf q n =
      let room = c.size - length q.unfrozen in
      sound_full (pairing (drop room (p ∷ todo))) st bf (pushed (pairs_with c.kind (record { batch = st.first; row = st.at }) (place c st) x.reading (take room (p ∷ todo))) q) n

  sound_on : (first : Bool) (st : Streamed K) (bf : Buffered K) (q : Queued) (n : Counts) → Sound st bf (go_on c first st bf q n)
  sound_on true st bf q n = (refl, refl)
  sound_on false st bf q n = (refl, refl)

  sound_step : (ph : Phase K) (st : Streamed K) (bf : Buffered K) (q : Queued) (n : Counts) → Sound st bf (step c ph st bf q n)
  sound_step (fetching first) st bf q n = sound_fetch first st.batches st.closing st bf q n
  sound_step (seeding first) st bf q n = sound_cond st bf (ltb bf.holding.end bf.holding.held) _ _ (refl, refl) (sound_load _ (seeding first) bf.batches bf.closing st bf q n (refl, refl))
  sound_step (extending first) st bf q n = sound_extend (row_at bf.holding.start bf.rows) first st bf q n
  sound_step (closing first) st bf q n = sound_cond st bf (st.ended && bf.ended) _ _ (refl, refl) (sound_on first st bf q n)
  sound_step turning st bf q n = sound_cond st bf (has_batch c q) _ _ (refl, refl) (sound_compared (comparison c (row_at st.at st.rows) (run_head c bf)) st bf q n)
  sound_step (pairing todo) st bf q n = sound_pair (row_at st.at st.rows) todo st bf q n
  sound_step passing st bf q n = sound_cond st bf (ltb st.at (length st.rows)) _ _ (refl, refl) (refl, refl)
  sound_step done st bf q n = (refl, refl)
  sound_step (stopped f) st bf q n = ((refl, refl), refl)

-- ---- calls

module _ {K V : Type 0} (c : Setting K) (fits : V → Record → Bool) (after : V → Record → V) (side : Side) where
  abbrev pub Close : Core K → Core K → Type 0
  Close (core st bf q n ph) (core st' bf' q' n' ph') = Closes st bf st' bf'

  abbrev pub stopped_by : Core K → Bool
  stopped_by (core st bf q n ph) = fails_at side ph

  pub record Kept (t t' : Core K) : Type 0 where
    pub closes : Close t t'
    pub stopped_so : stopped_by t ≡ true → stopped_by t' ≡ true

  abbrev SoundMove : Core K → Moved K V → Type 0
  SoundMove t (goes t' v) = Kept t t'
  SoundMove t (hands_over x t' v) = Kept t t'
  SoundMove t (says a t' v) = Kept t t' × (fails side a ≡ true → stopped_by t' ≡ true)

  -- a step of a join that has not stopped
  moved_sound : (o : Outcome K) (st : Streamed K) (bf : Buffered K) (q : Queued) (n : Counts) (ph : Phase K) (v : V) → fails_at side ph ≡ false → Sound c st bf o → SoundMove (core st bf q n ph) (moved c fits after o v)
  moved_sound (going (core st' bf' q' n' ph')) st bf q n ph v z h = record { closes = h; stopped_so = λ e. absurd (false≢true (sym z ∙ e)) }
  moved_sound (answered (Ok a) (core st' bf' q' n' ph')) st bf q n ph v z h = (record { closes = h; stopped_so = λ e. absurd (false≢true (sym z ∙ e)) }, λ e. absurd (false≢true e))
  moved_sound (answered (Err f) (core st' bf' q' n' ph')) st bf q n ph v z h = (record { closes = h.0; stopped_so = λ e. absurd (false≢true (sym z ∙ e)) }, λ e. ap (fails_at side) h.1 ∙ e)

  step_sound : (ph : Phase K) (st : Streamed K) (bf : Buffered K) (q : Queued) (n : Counts) (v : V) → SoundMove (core st bf q n ph) (moved c fits after (step c ph st bf q n) v)
  step_sound (fetching first) st bf q n v = moved_sound (step c (fetching first) st bf q n) st bf q n (fetching first) v refl (sound_step c (fetching first) st bf q n)
  step_sound (seeding first) st bf q n v = moved_sound (step c (seeding first) st bf q n) st bf q n (seeding first) v refl (sound_step c (seeding first) st bf q n)
  step_sound (extending first) st bf q n v = moved_sound (step c (extending first) st bf q n) st bf q n (extending first) v refl (sound_step c (extending first) st bf q n)
  step_sound (closing first) st bf q n v = moved_sound (step c (closing first) st bf q n) st bf q n (closing first) v refl (sound_step c (closing first) st bf q n)
  step_sound turning st bf q n v = moved_sound (step c turning st bf q n) st bf q n turning v refl (sound_step c turning st bf q n)
  step_sound (pairing todo) st bf q n v = moved_sound (step c (pairing todo) st bf q n) st bf q n (pairing todo) v refl (sound_step c (pairing todo) st bf q n)
  step_sound passing st bf q n v = moved_sound (step c passing st bf q n) st bf q n passing v refl (sound_step c passing st bf q n)
  step_sound done st bf q n v = moved_sound (step c done st bf q n) st bf q n done v refl (sound_step c done st bf q n)
  step_sound (stopped f) st bf q n v = (record { closes = (refl, refl); stopped_so = λ e. e }, λ e. e)

  due_sound : (due : List Record) (st : Streamed K) (bf : Buffered K) (q : Queued) (n : Counts) (ph : Phase K) (v : V) → SoundMove (core st bf q n ph) (micro_due c fits after due st bf q n ph v)
  due_sound [] st bf q n ph v = step_sound ph st bf q n v
  due_sound (x ∷ due) st bf q n ph v = go (fits v x)
    where
      go : (t : Bool) → SoundMove (core st bf q n ph) (cond t (hands_over x (core st bf (handed c fits after due q) (counted_record n) ph) (after v x)) (says (Ok Waiting) (core st bf q n ph) v))
      go true = record { closes = (refl, refl); stopped_so = λ e. e }
      go false = (record { closes = (refl, refl); stopped_so = λ e. e }, λ e. absurd (false≢true e))

  micro_sound : (t : Core K) (v : V) → SoundMove t (micro c fits after t v)
  micro_sound (core st bf q n ph) v = due_sound q.due st bf q n ph v

  kept_both : (a b d : Core K) → Kept a b → Kept b d → Kept a d
  kept_both (core st bf q n ph) (core st' bf' q' n' ph') (core st'' bf'' q'' n'' ph'') h k = record { closes = (k.closes.0 ∙ h.closes.0, k.closes.1 ∙ h.closes.1); stopped_so = λ e. k.stopped_so (h.stopped_so e) }

  pub call_sound : {t t' : Core K} {v v' : V} {l : List Record} {a : Told} → Turned c fits after t v l a t' v' → Kept t t' × (fails side a ≡ true → stopped_by t' ≡ true)
  call_sound (answers {s = t} {v = v} e) = subst (SoundMove t) e (micro_sound t v)
  call_sound (steps {s = t} {s' = t'} {s'' = t''} {v = v} e u) = let k = call_sound u in (kept_both t t' t'' (subst (SoundMove t) e (micro_sound t v)) k.0, k.1)
  call_sound (hands {s = t} {s' = t'} {s'' = t''} {v = v} e u) = let k = call_sound u in (kept_both t t' t'' (subst (SoundMove t) e (micro_sound t v)) k.0, k.1)

  pub failed_push : (told : List Told) (a : Told) → has_failed side (told ++ a ∷ []) ≡ true → (has_failed side told ≡ true) ⊎ (fails side a ≡ true)
  failed_push [] a e = inr (go (fails side a) e)
    where
      go : (t : Bool) → (t || false) ≡ true → t ≡ true
      go true e = refl
      go false e = absurd (false≢true e)
  failed_push (b ∷ told) a e = go (or_cases (fails side b) (has_failed side (told ++ a ∷ [])) e) (failed_push told a)
    where
      go : (fails side b ≡ true) ⊎ (has_failed side (told ++ a ∷ []) ≡ true) → (has_failed side (told ++ a ∷ []) ≡ true → (has_failed side told ≡ true) ⊎ (fails side a ≡ true)) → ((fails side b || has_failed side told) ≡ true) ⊎ (fails side a ≡ true)
      go (inl h) k = inl (or_left (fails side b) (has_failed side told) h)
      go (inr h) k = up (k h)
        where
          up : (has_failed side told ≡ true) ⊎ (fails side a ≡ true) → ((fails side b || has_failed side told) ≡ true) ⊎ (fails side a ≡ true)
          up (inl h) = inl (or_right (fails side b) (has_failed side told) h)
          up (inr h) = inr h
