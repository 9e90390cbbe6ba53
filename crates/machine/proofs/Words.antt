-- The law of runs: what is proved of the plain machine, said of a join in words of left and right.
use Rattle.std.proofs.Common.{◌≡◌, ℕ, ◌+◌, ◌-◌, ◌≤◌, min, Bool, true, false, cond, not, ◌&&◌, ◌⊎◌, List, [], ◌∷◌, ◌++◌, map, length, take, drop, Some, None, Ok, Err, Option, Ordering, sym, refl, ap, ◌∙◌, subst, subst₂, inl, inr, arith, length-append, length-drop, length-take}
use mathlib.Core.List.{Permᴰ}
use mathlib.Core.List.Permᴰ
use mathlib.Core.Bool.{false≢true}
use lib.ListN.{length-map}
use Rattle.std.specs.List.{ContainsAt as Has, AllByRecursion}
use Rattle.std.specs.List.Sorted.{IsPermutation}
use Rattle.std.proofs.ByRecursion.{All-weaker, All-map, all-has}
use Rattle.std.proofs.lemmas.List.{map-append, get_or-map}
use Rattle.rows.specs.declared.kind.Kind.{Kind}
use Rattle.rows.specs.declared.kind.Kind.TheVariants.{Inner, Left, Right, Full}
use Rattle.rows.specs.declared.kind.Side.{Side}
use Rattle.rows.specs.declared.kind.Side.TheVariants.{Left as on_left, Right as on_right}
use Rattle.rows.specs.declared.record.Record.{Record}
use Rattle.rows.specs.declared.row.Row.{Row}
use Rattle.rows.specs.Order.{Laws}
use Rattle.sources.specs.declared.fault.SourceFault.{SourceFault}
use Rattle.sources.specs.Meaning.{Closing}
use Rattle.sinks.specs.Meaning.{Led}
use Rattle.merge.specs.Table.{Distinct, table}
use Rattle.merge.specs.Runs.{runs}
use Rattle.merge.specs.Path.{start, tally, one_row, one_run}
use Rattle.merge.specs.Decided.{Follows}
use Rattle.rows.specs.Sides.{streamed_side, buffered_side, is_right, streamed_of, buffered_of, left_of, right_of, is_outer, is_full, oriented}
use Rattle.merge.specs.Joined.{Asks, passes, InTable, joined}
use Rattle.merge.specs.Merging.{by_key}
use Rattle.merge.proofs.Sides.{oriented_twice, distinct_oriented}
use Rattle.merge.proofs.Joined.{named}
use Rattle.merge.proofs.Members.{table_only}
use Rattle.merge.proofs.Merging.{by_key_laws}
use Rattle.merge.proofs.Shuffles.{shuffled_from_perm}
use Rattle.law.specs.Machine as plain_machine
use Rattle.law.specs.Law as plain_law
use Rattle.law.proofs.Holds.{lawful, runs_inv, whole_perm}
use Rattle.pipeline.specs.Block.{Queued}
use Rattle.machine.specs.declared.answer.Answer.TheVariants.{More, Waiting, Finished}
use Rattle.machine.specs.declared.fault.JoinFault.TheVariants.{Unsorted, TableFull, TooManyBatches, TooManyRows, Source}
use Rattle.machine.specs.Machine.{Setting, Told, Phase, fetching, seeding, extending, closing, turning, passing, done, pairing, stopped, Streamed, Buffered, Counts, Core, core, Turned, last_of, streamed_read, buffered_read, most_handed}
use Rattle.machine.specs.Report.{reported}
use Rattle.machine.specs.Law.{Log, rows_in, is_over, is_side, fails, has_failed, InOrderAfter, answers_of_more, setting, at_opening, Runs, none, turned, MayFollow, Lawful, Law, LawOfRuns}
use Rattle.machine.proofs.Plain.{side_of, answer_of, phase_of, run_of, plain_setting, state_of, first_of, Whole}
use Rattle.machine.proofs.Follows.{WholeCore}
use Rattle.machine.proofs.Fetch.{last_is, side_streamed, side_buffered}
use Rattle.machine.proofs.Steps.{follows_call}
use Rattle.machine.proofs.Sound.{Close, Kept, stopped_by, fails_at, call_sound, failed_push}

-- ---- small translations

over_same : {A : Type 0} (l : List (List A)) (e : Closing) → is_over l e ≡ plain_law.is_over l e
over_same [] (Ok end) = refl
over_same [] (Err f) = refl
over_same (b ∷ l) e = refl

more_same : (kind : Kind) (told : List Told) → answers_of_more told ≡ plain_law.mores (map (answer_of kind) told)
more_same kind [] = refl
more_same kind (Ok More ∷ told) = ap (λ (n : ℕ). 1 + n) (more_same kind told)
more_same kind (Ok Waiting ∷ told) = ap (λ (n : ℕ). 0 + n) (more_same kind told)
more_same kind (Ok Finished ∷ told) = ap (λ (n : ℕ). 0 + n) (more_same kind told)
more_same kind (Err f ∷ told) = ap (λ (n : ℕ). 0 + n) (more_same kind told)

order_same : {K : Type 0} (within : K → K → Ordering) (w : Option (Row K)) (l : List (Row K)) → InOrderAfter within w l → plain_law.InOrderAfter (by_key within) w l
order_same within None l h = h
order_same within (Some x) l h = h

twice : (kind : Kind) (l : List Record) → map (oriented kind) (map (oriented kind) l) ≡ l
twice kind [] = refl
twice kind (r ∷ l) = ap (λ (q : Record). q ∷ map (oriented kind) (map (oriented kind) l)) (oriented_twice kind r) ∙ ap (λ (q : List Record). r ∷ q) (twice kind l)

led_same : {V : Type 0} (fits : V → Record → Bool) (after : V → Record → V) (kind : Kind) (v : V) (l : List Record) (w : V) → plain_law.Led (λ v r. fits v (oriented kind r)) (λ v r. after v (oriented kind r)) v (map (oriented kind) l) w → Led fits after v l w
led_same fits after kind v [] w h = h
led_same fits after kind v (r ∷ l) w h = (ap (fits v) (sym (oriented_twice kind r)) ∙ h.0, led_same fits after kind (after v r) l w (subst (λ q. plain_law.Led (λ v r. fits v (oriented kind r)) (λ v r. after v (oriented kind r)) (after v q) (map (oriented kind) l) w) (oriented_twice kind r) h.1))

has_map : {A B : Type 0} (f : A → B) (l : List A) (x : A) → Has l x → Has (map f l) (f x)
has_map f l x h = (h.0, omega (arith, length-map l f, h.1), λ e. get_or-map f l h.0 x e h.1 ∙ ap f (h.2 x))

either : {A B : Type 0} (P : A → B → Type 0) (t : Bool) (a a' : A) (b b' : B) → P a b → P a' b' → P (cond t a a') (cond t b b')
either P true a a' b b' h k = h
either P false a a' b b' h k = k

rows_of_side : {A : Type 0} (t : Bool) (l r : List (List A)) → cond t (rows_in l) (rows_in r) ≡ rows_in (cond t l r)
rows_of_side true l r = refl
rows_of_side false l r = refl

-- the fault that stopped a join, by side
same_side : (t : Bool) (a b : Side) → plain_law.is_side (side_of t a) (side_of t b) ≡ is_side a b
same_side true on_left on_left = refl
same_side true on_left on_right = refl
same_side true on_right on_left = refl
same_side true on_right on_right = refl
same_side false on_left on_left = refl
same_side false on_left on_right = refl
same_side false on_right on_left = refl
same_side false on_right on_right = refl

side_fails : {K : Type 0} (kind : Kind) (side : Side) (to : ℕ) (ph : Phase K) → plain_law.failed_on (side_of (is_right kind) side) (phase_of kind to ph) ≡ fails_at side ph
side_fails kind side to (fetching f) = refl
side_fails kind side to (seeding f) = refl
side_fails kind side to (extending f) = refl
side_fails kind side to (closing f) = refl
side_fails kind side to turning = refl
side_fails kind side to passing = refl
side_fails kind side to done = refl
side_fails kind side to (pairing todo) = refl
side_fails kind side to (stopped (Unsorted s k)) = same_side (is_right kind) side s
side_fails kind side to (stopped (TableFull s k)) = refl
side_fails kind side to (stopped (TooManyBatches k)) = refl
side_fails kind side to (stopped (TooManyRows s k)) = refl
side_fails kind side to (stopped (Source s f)) = refl

streamed_fails : {K : Type 0} (kind : Kind) (to : ℕ) (ph : Phase K) → plain_law.streamed_failed (phase_of kind to ph) ≡ fails_at (streamed_side kind) ph
streamed_fails {K} kind to ph = ap (λ (s : plain_machine.Side). plain_law.failed_on {X = Row K} s (phase_of kind to ph)) (sym (side_streamed kind)) ∙ side_fails kind (streamed_side kind) to ph

buffered_fails : {K : Type 0} (kind : Kind) (to : ℕ) (ph : Phase K) → plain_law.buffered_failed (phase_of kind to ph) ≡ fails_at (buffered_side kind) ph
buffered_fails {K} kind to ph = ap (λ (s : plain_machine.Side). plain_law.failed_on {X = Row K} s (phase_of kind to ph)) (sym (side_buffered kind)) ∙ side_fails kind (buffered_side kind) to ph

-- nothing may follow where the plain machine says so
over_follows : {A : Type 0} (failed : Bool) (told : Bool) (l : List (List A)) (e : Closing) → (told ≡ true → failed ≡ true) → plain_law.over failed l e ≡ true → (not told && is_over l e) ≡ true
over_follows true told l e h k = absurd (false≢true k)
over_follows false true l e h k = absurd (false≢true (h refl))
over_follows false false l e h k = over_same l e ∙ k

-- ---- the words of left and right

module _ {K V : Type 0} (kind : Kind) (within across : K → K → Ordering) (filter : Option Asks) (size streamed_table buffered_table : ℕ) (fits : V → Record → Bool) (after : V → Record → V) (lefts rights : Log K) (v₀ : V) (sized : 1 ≤ size) (laws : Laws within across) where
  abbrev c : Setting K
  c = setting kind within across filter size streamed_table buffered_table fits after lefts rights v₀

  abbrev plain : plain_machine.Setting (Row K) V
  plain = plain_setting c fits after

  abbrev row_laws : Laws (by_key within) (by_key across)
  row_laws = by_key_laws within across laws

  abbrev sl : List (List (Row K))
  sl = streamed_of kind lefts.batches rights.batches

  abbrev sc : Closing
  sc = streamed_of kind lefts.closing rights.closing

  abbrev bl : List (List (Row K))
  bl = buffered_of kind lefts.batches rights.batches

  abbrev bc : Closing
  bc = buffered_of kind lefts.closing rights.closing

  abbrev batch_of : ℕ → ℕ
  batch_of = first_of 0 sl

  abbrev JoinRuns : List Record → List Told → Core K → V → Type 0
  JoinRuns = Runs kind within across filter size streamed_table buffered_table fits after lefts rights v₀

  abbrev opening : Core K
  opening = at_opening kind within across filter size streamed_table buffered_table fits after lefts rights v₀

  fair_by : (kind : Kind) (filter : Option Asks) → plain_law.Fair (plain_setting (setting kind within across filter size streamed_table buffered_table fits after lefts rights v₀) fits after)
  fair_by kind None = inr (refl, inr (λ x y. refl))
  fair_by Inner (Some asks) = inr (refl, inl refl)
  fair_by Left (Some asks) = inl (refl, refl)
  fair_by Right (Some asks) = inl (refl, refl)
  fair_by Full (Some asks) = inl (refl, refl)

  fair : plain_law.Fair plain
  fair = fair_by kind filter

  opened_whole : WholeCore c fits after batch_of sized opening
  opened_whole = record {
    streamed_side = record { inside = omega arith; located = λ i lo hi. absurd (omega arith) };
    buffered_side = record { rows_held = refl; states_held = refl; batches_held = refl; run = omega arith; in_held = omega arith; few = omega arith; in_table = omega arith; tiled = tt; reaches = refl };
    block = record { made = tt; frozen = tt; noted = tt; behind = tt; short = sized; at_once = λ e. refl };
    poised = (λ i lo. refl, record { at_end = refl; not_ended = refl }, record { none = refl; one = omega arith; emptied = λ e. refl; unmatched = refl; not_ended = refl });
  }

  abbrev PlainRuns : List Record → List (plain_machine.Answer SourceFault) → plain_machine.State (Row K) SourceFault V → Type 0
  PlainRuns = plain_law.Runs plain sl sc bl bc v₀

  pub follows_runs : {out : List Record} {told : List Told} {s : Core K} {v : V} → JoinRuns out told s v → PlainRuns (map (oriented kind) out) (map (answer_of kind) told) (state_of c s v) × WholeCore c fits after batch_of sized s
  follows_runs none = (plain_law.none, opened_whole)
  follows_runs (turned {out = out} {l = l} {told = told} {a = a} {s = s} {s' = s'} {v = v} {v' = v'} r t) =
      let k = follows_runs r in
      let i = runs_inv plain row_laws sl sc bl bc v₀ fair k.0 in
      let u = follows_call c fits after batch_of sized row_laws fair sl sc bl bc v₀ t (map (oriented kind) out) (plain_law.mores (map (answer_of kind) told)) (plain_law.turns_of (state_of c s v) + 1) k.1 i.0 in
      (subst (λ o. PlainRuns o (map (answer_of kind) (told ++ a ∷ [])) (state_of c s' v')) (sym (map-append (oriented kind) out l)) (subst (λ o. PlainRuns (map (oriented kind) out ++ map (oriented kind) l) o (state_of c s' v')) (sym (map-append (answer_of kind) told (a ∷ []))) (plain_law.turned k.0 u.0)), u.1)

  -- how the sources close, and which faults were told
  pub record ToldSo (side : Side) (told : List Told) (s : Core K) : Type 0 where
    pub closes : Close c fits after side opening s
    pub stopped_so : has_failed side told ≡ true → stopped_by c fits after side s ≡ true

  sound_runs : (side : Side) {out : List Record} {told : List Told} {s : Core K} {v : V} → JoinRuns out told s v → ToldSo side told s
  sound_runs side none = record { closes = (refl, refl); stopped_so = λ e. absurd (false≢true e) }
  sound_runs side (turned {told = told} {a = a} {s = s} {s' = s'} r t) = let h = sound_runs side r in let k = call_sound c fits after side t in both s s' h k.0 k.1
    where
      both : (s s' : Core K) → ToldSo side told s → Kept c fits after side s s' → (fails side a ≡ true → stopped_by c fits after side s' ≡ true) → ToldSo side (told ++ a ∷ []) s'
      both (core st bf q n ph) (core st' bf' q' n' ph') h k f = record { closes = (k.closes.0 ∙ h.closes.0, k.closes.1 ∙ h.closes.1); stopped_so = λ e. go (failed_push c fits after side told a e) }
        where
          go : (has_failed side told ≡ true) ⊎ (fails side a ≡ true) → fails_at side ph' ≡ true
          go (inl e) = k.stopped_so (h.stopped_so e)
          go (inr e) = f e

  turns_same : (s : Core K) (v : V) → plain_law.turns_of (state_of c s v) ≡ (reported kind s).turns
  turns_same (core st bf q n ph) v = refl

  module _ (out : List Record) (told : List Told) (st : Streamed K) (bf : Buffered K) (q : Queued) (n : Counts) (ph : Phase K) (v : V) (r : JoinRuns out told (core st bf q n ph) v) where
    abbrev s : Core K
    s = core st bf q n ph

    abbrev s₂ : plain_machine.State (Row K) SourceFault V
    s₂ = state_of c s v

    w : Whole c batch_of st bf q ph
    w = (follows_runs r).1

    law : plain_law.Lawful plain sl sc bl bc v₀ (map (oriented kind) out) (map (answer_of kind) told) s₂
    law = lawful plain row_laws sl sc bl bc v₀ fair (map (oriented kind) out) (map (answer_of kind) told) s₂ (follows_runs r).0

    read_s : plain_law.streamed_read s₂ ≡ streamed_read st
    read_s = omega (arith, length-drop st.at st.rows, w.streamed_side.inside)

    read_b : plain_law.buffered_read s₂ ≡ buffered_read bf
    read_b = omega (arith, length-append (run_of bf) (drop bf.holding.end bf.rows), length-take (bf.holding.end - bf.holding.start) (drop bf.holding.start bf.rows), length-drop bf.holding.start bf.rows, length-drop bf.holding.end bf.rows, w.buffered_side.rows_held, w.buffered_side.run, w.buffered_side.in_held)

    abbrev lr : List (Row K)
    lr = take (left_of kind (streamed_read st) (buffered_read bf)) (rows_in lefts.batches)

    abbrev rr : List (Row K)
    rr = take (right_of kind (streamed_read st) (buffered_read bf)) (rows_in rights.batches)

    side_rows : (t : Bool) (a b : ℕ) (ls rs : List (List (Row K))) → cond t (take (cond t a b) (rows_in rs)) (take (cond t b a) (rows_in ls)) ≡ take a (rows_in (cond t rs ls))
    side_rows true a b ls rs = refl
    side_rows false a b ls rs = refl

    rows_s : streamed_of kind lr rr ≡ take (plain_law.streamed_read s₂) (rows_in sl)
    rows_s = side_rows (is_right kind) (streamed_read st) (buffered_read bf) lefts.batches rights.batches ∙ ap (λ (k : ℕ). take k (rows_in sl)) (sym read_s)

    rows_b : buffered_of kind lr rr ≡ take (plain_law.buffered_read s₂) (rows_in bl)
    rows_b = side_rows (is_right kind) (buffered_read bf) (streamed_read st) rights.batches lefts.batches ∙ ap (λ (k : ℕ). take k (rows_in bl)) (sym read_b)

    all_s : streamed_of kind (rows_in lefts.batches) (rows_in rights.batches) ≡ rows_in sl
    all_s = rows_of_side (is_right kind) rights.batches lefts.batches

    all_b : buffered_of kind (rows_in lefts.batches) (rows_in rights.batches) ≡ rows_in bl
    all_b = rows_of_side (is_right kind) lefts.batches rights.batches

    side_append : (t : Bool) (a a' b b' : List (Row K)) → cond t (a ++ a') (b ++ b') ≡ cond t a b ++ cond t a' b'
    side_append true a a' b b' = refl
    side_append false a a' b b' = refl

    module _ (l r' : List (Row K)) (m : MayFollow kind within across filter size streamed_table buffered_table fits after lefts rights v₀ told s l r') where
      -- the batches left of the streamed side, in words of left and right
      streamed_words : (k : Kind) → cond (is_right k) (not (has_failed on_right told) && is_over (right_of k st.batches bf.batches) rights.closing) (not (has_failed on_left told) && is_over (left_of k st.batches bf.batches) lefts.closing)
          ≡ (not (has_failed (streamed_side k) told) && is_over st.batches (streamed_of k lefts.closing rights.closing))
      streamed_words Inner = refl
      streamed_words Left = refl
      streamed_words Right = refl
      streamed_words Full = refl

      buffered_words : (k : Kind) → cond (is_right k) (not (has_failed on_left told) && is_over (left_of k st.batches bf.batches) lefts.closing) (not (has_failed on_right told) && is_over (right_of k st.batches bf.batches) rights.closing)
          ≡ (not (has_failed (buffered_side k) told) && is_over bf.batches (buffered_of k lefts.closing rights.closing))
      buffered_words Inner = refl
      buffered_words Left = refl
      buffered_words Right = refl
      buffered_words Full = refl

      follows_s : Follows (plain_law.streamed_over s₂) (streamed_of kind l r')
      follows_s e =
          let h = sound_runs (streamed_side kind) r in
          either Follows (is_right kind) _ _ r' l m.right_ended m.left_ended
          (streamed_words kind ∙ over_follows (plain_law.streamed_failed (phase_of kind (bf.holding.base + bf.holding.end) ph)) (has_failed (streamed_side kind) told) st.batches (streamed_of kind lefts.closing rights.closing) (λ t. streamed_fails kind _ ph ∙ h.stopped_so t)
          (ap (λ (z : Closing). plain_law.over (plain_law.streamed_failed (phase_of kind (bf.holding.base + bf.holding.end) ph)) st.batches z) (sym h.closes.0) ∙ e))

      follows_b : Follows (plain_law.buffered_over s₂) (buffered_of kind l r')
      follows_b e =
          let h = sound_runs (buffered_side kind) r in
          either Follows (is_right kind) _ _ l r' m.left_ended m.right_ended
          (buffered_words kind ∙ over_follows (plain_law.buffered_failed (phase_of kind (bf.holding.base + bf.holding.end) ph)) (has_failed (buffered_side kind) told) bf.batches (buffered_of kind lefts.closing rights.closing) (λ t. buffered_fails kind _ ph ∙ h.stopped_so t)
          (ap (λ (z : Closing). plain_law.over (plain_law.buffered_failed (phase_of kind (bf.holding.base + bf.holding.end) ph)) bf.batches z) (sym h.closes.1) ∙ e))

      abbrev OrderedAfter : List (Row K) → List (Row K) → Type 0
      OrderedAfter a b = InOrderAfter within (last_of None a) b

      order_s : plain_law.InOrderAfter (by_key within) (plain_machine.last_of None (take (plain_law.streamed_read s₂) (rows_in sl))) (streamed_of kind l r')
      order_s = subst (λ z. plain_law.InOrderAfter (by_key within) z (streamed_of kind l r')) (last_is None (take (plain_law.streamed_read s₂) (rows_in sl))) (order_same within (last_of None (take (plain_law.streamed_read s₂) (rows_in sl))) (streamed_of kind l r') (subst (λ z. OrderedAfter z (streamed_of kind l r')) rows_s (either OrderedAfter (is_right kind) rr lr r' l m.right_in_order m.left_in_order)))

      order_b : plain_law.InOrderAfter (by_key within) (plain_machine.last_of None (take (plain_law.buffered_read s₂) (rows_in bl))) (buffered_of kind l r')
      order_b = subst (λ z. plain_law.InOrderAfter (by_key within) z (buffered_of kind l r')) (last_is None (take (plain_law.buffered_read s₂) (rows_in bl))) (order_same within (last_of None (take (plain_law.buffered_read s₂) (rows_in bl))) (buffered_of kind l r') (subst (λ z. OrderedAfter z (buffered_of kind l r')) rows_b (either OrderedAfter (is_right kind) lr rr l r' m.left_in_order m.right_in_order)))

      longer_s : streamed_of kind (lr ++ l) (rr ++ r') ≡ take (plain_law.streamed_read s₂) (rows_in sl) ++ streamed_of kind l r'
      longer_s = side_append (is_right kind) rr r' lr l ∙ ap (λ (z : List (Row K)). z ++ streamed_of kind l r') rows_s

      longer_b : buffered_of kind (lr ++ l) (rr ++ r') ≡ take (plain_law.buffered_read s₂) (rows_in bl) ++ buffered_of kind l r'
      longer_b = side_append (is_right kind) lr l rr r' ∙ ap (λ (z : List (Row K)). z ++ buffered_of kind l r') rows_b

      abbrev InLonger : Record → Type 0
      InLonger = InTable kind across filter (lr ++ l) (rr ++ r')

      in_table : (x : Record) → Has (plain_law.joined plain (take (plain_law.streamed_read s₂) (rows_in sl) ++ streamed_of kind l r') (take (plain_law.buffered_read s₂) (rows_in bl) ++ buffered_of kind l r')) x → InLonger (oriented kind x)
      in_table x h =
          let h₁ = subst (λ z. Has (plain_law.joined plain z (take (plain_law.buffered_read s₂) (rows_in bl) ++ buffered_of kind l r')) x) (sym longer_s) h in
          let h₂ = subst (λ z. Has (plain_law.joined plain (streamed_of kind (lr ++ l) (rr ++ r')) z) x) (sym longer_b) h₁ in
          named across filter kind (lr ++ l) (rr ++ r') x (all-has _ (table (passes kind across filter) (is_outer kind) (is_full kind) (streamed_of kind (lr ++ l) (rr ++ r')) (buffered_of kind (lr ++ l) (rr ++ r'))) x (table_only (passes kind across filter) (is_outer kind) (is_full kind) (streamed_of kind (lr ++ l) (rr ++ r')) (buffered_of kind (lr ++ l) (rr ++ r'))) h₂)

      belong : AllByRecursion InLonger out
      belong = subst (AllByRecursion InLonger) (twice kind out) (All-map InLonger (oriented kind) (map (oriented kind) out) (All-weaker _ (λ x. InLonger (oriented kind x)) in_table (map (oriented kind) out) (law.belongs (streamed_of kind l r') (buffered_of kind l r') follows_s follows_b order_s order_b)))

    finished : Has told (Ok Finished) → Has (map (answer_of kind) told) plain_machine.finished
    finished h = has_map (answer_of kind) told (Ok Finished) h

    whole_table : Has told (Ok Finished) → IsPermutation out (joined kind across filter (rows_in lefts.batches) (rows_in rights.batches))
    whole_table h =
        let p = Permᴰ.map (oriented kind) (whole_perm plain row_laws sl sc bl bc v₀ fair (map (oriented kind) out) (map (answer_of kind) told) s₂ (follows_runs r).0 (finished h)) in
        let p₁ = subst (λ z. Permᴰ z (map (oriented kind) (plain_law.joined plain (rows_in sl) (rows_in bl)))) (twice kind out) p in
        let p₂ = subst (λ z. Permᴰ out (map (oriented kind) (plain_law.joined plain z (rows_in bl)))) (sym all_s) p₁ in
        shuffled_from_perm (subst (λ z. Permᴰ out (map (oriented kind) (plain_law.joined plain (streamed_of kind (rows_in lefts.batches) (rows_in rights.batches)) z))) (sym all_b) p₂)

    calls : (l : List Record) (a : Told) (s' : Core K) (v' : V) → Turned c fits after s v l a s' v' → (reported kind s').turns ≤ (reported kind s).turns + 1
    calls l a s' v' t =
        let i = runs_inv plain row_laws sl sc bl bc v₀ fair (follows_runs r).0 in
        let u = follows_call c fits after batch_of sized row_laws fair sl sc bl bc v₀ t (map (oriented kind) out) (plain_law.mores (map (answer_of kind) told)) (plain_law.turns_of s₂ + 1) w i.0 in
        omega (arith, law.one_turn (map (oriented kind) l) (answer_of kind a) (state_of c s' v') u.0, turns_same s' v', turns_same s v)

    pub lawful_run : Lawful kind within across filter size streamed_table buffered_table fits after lefts rights v₀ out told s v
    lawful_run = record {
      no_record_twice = subst Distinct (twice kind out) (distinct_oriented kind (map (oriented kind) out) law.once);
      each_record_belongs = λ l r' m. belong l r' m;
      ends_as_the_joined_table = whole_table;
      turns_are_rows_and_runs_passed = law.turns;
      a_call_adds_at_most_one = calls;
      no_more_answers_than_turns = omega (arith, law.answers, more_same kind told);
      goes_along_the_merge_path =
          let p = subst₂ (λ a b. (n.rows ≡ tally (by_key within) (by_key across) (passes kind across filter) (is_outer kind) (is_full kind) one_row n.turns (start a b)) × (n.runs ≡ tally (by_key within) (by_key across) (passes kind across filter) (is_outer kind) (is_full kind) one_run n.turns (start a b))) (sym all_s) (sym all_b) law.path in
          (p.0, p.1);
      passes_all_at_the_end = λ h. let p = law.ends (finished h) in (p.0 ∙ ap length (sym all_s), p.1 ∙ ap (runs (by_key within)) (sym all_b));
      counts_the_records = law.handed ∙ ap (λ (k : ℕ). min k most_handed) (length-map out (oriented kind));
      records_lead_the_sink = led_same fits after kind v₀ out v law.led;
    }

  pub law_holds : Law kind within across filter size streamed_table buffered_table fits after lefts rights v₀
  law_holds out told (core st bf q n ph) v r = lawful_run out told st bf q n ph v r

pub law_of_runs : {K V : Type 0} (within across : K → K → Ordering) → Laws within across → (fits : V → Record → Bool) (after : V → Record → V) → LawOfRuns within across fits after
law_of_runs within across laws fits after kind filter size streamed_table buffered_table sized lefts rights v = law_holds kind within across filter size streamed_table buffered_table fits after lefts rights v sized laws
