-- What leaves with the batches that a run has used up: noted rows by count are noted rows by place, and no failed row is cut.
use Rattle.std.proofs.Common.{◌≡◌, ℕ, zero, suc, ◌+◌, ◌-◌, ◌<◌, ◌≤◌, Bool, true, false, cond, not, ltb, ◌⊎◌, List, [], ◌∷◌, ◌++◌, map, length, take, drop, filter, sym, refl, ap, ◌∙◌, subst, inl, inr, append_assoc, append-nil, arith, length-append, length-drop, take-append-drop, length-take, drop-drop}
use lib.ListN.{length-map}
use Rattle.std.proofs.Math.Nat.{zero-add, add-zero, suc-add, sub-zero}
use Rattle.std.specs.List.{AllByRecursion}
use Rattle.std.proofs.lemmas.List.Elements.{filter-append}
use Rattle.std.proofs.ByRecursion.{All-append, All-weaker}
use Rattle.std.proofs.lemmas.List.{take_at, drop_at, take_all, take-map, drop-map, map-append}
use Rattle.std.proofs.lemmas.Bool.{lt-ltb, le-ltb, le-leb, lt-leb, eqb-true, eqb-false, cases_lt}
use Rattle.rows.specs.declared.record.Record.{Record}
use Rattle.merge.specs.Table.{when}
use Rattle.rows.specs.Sides.{is_full}
use Rattle.law.specs.Pipe.{Mark, unseen, failing, met, fixed, fixeds, alones, places, failures, Left, left, giving}
use Rattle.law.specs.Pipe.{Entry as plain_entry, leave as plain_leave}
use Rattle.law.proofs.Totals.{shift, total, total_append}
use Rattle.law.proofs.Pipes.{unseens, fails_in, unseen_few, unseens_total, past, past_none, past_all}
use Rattle.pipeline.specs.declared.entry.Entry.{Entry}
use Rattle.pipeline.specs.declared.batch.BufferedBatch.{BufferedBatch}
use Rattle.pipeline.specs.declared.states.FilterState.{FilterState}
use Rattle.pipeline.specs.declared.states.FilterState.TheVariants.{Unvisited, AllFailed, SomePassed}
use Rattle.pipeline.specs.Entries.{lone}
use Rattle.pipeline.specs.Orient.{buffered_alone}
use Rattle.pipeline.specs.States.{failed}
use Rattle.pipeline.specs.Batches.{rows_of}
use Rattle.pipeline.specs.Block.{lone_rows, leave}
use Rattle.pipeline.specs.Held.{is_consumed, leaving}
use Rattle.machine.specs.Machine.{Setting, leave_all}
use Rattle.machine.proofs.Entries.{mark_of, entry_of, place_of, Frozen, Noted, noted_are, failed_are, place_of_alone}
use Rattle.machine.proofs.Plain.{size_of, reach, FullButLast, first_rows}
use Rattle.machine.proofs.Block.{block, noted_frozen}

-- weights that count up to a place
abbrev short_of : ℕ → ℕ → ℕ
short_of e j = cond (ltb j e) 1 0

short_some : (e j : ℕ) (l : List Mark) → total (short_of e) (unseens j l) ≤ total (λ j. 1) (unseens j l)
short_some e j [] = omega arith
short_some e j (unseen ∷ l) = go (ltb j e) (short_some e (suc j) l)
  where
    go : (t : Bool) → total (short_of e) (unseens (suc j) l) ≤ total (λ j. 1) (unseens (suc j) l) → cond t 1 0 + total (short_of e) (unseens (suc j) l) ≤ 1 + total (λ j. 1) (unseens (suc j) l)
    go true h = omega arith
    go false h = omega arith
short_some e j (failing ∷ l) = short_some e (suc j) l
short_some e j (met ∷ l) = short_some e (suc j) l

short_none : (e j : ℕ) (l : List Mark) → e ≤ j → total (short_of e) (unseens j l) ≡ 0
short_none e j [] h = refl
short_none e j (unseen ∷ l) h = rw (le-ltb j e h) (omega (arith, short_none e (suc j) l (omega arith)))
short_none e j (failing ∷ l) h = short_none e (suc j) l (omega arith)
short_none e j (met ∷ l) h = short_none e (suc j) l (omega arith)

module _ {K : Type 0} (c : Setting K) (batch_of : ℕ → ℕ) where
  abbrev pub place_at : Entry → ℕ
  place_at = place_of c.kind c.asks

  abbrev entries : List Entry → List plain_entry
  entries = map (entry_of c.kind c.asks)

  -- ---- rows noted in sequence

  place_lone : (j : ℕ) → place_at (lone (buffered_alone c.kind j)) ≡ j
  place_lone j = place_of_alone c.kind j

  pub lone_places : (j n : ℕ) → map place_at (lone_rows c.kind j n) ≡ places j n
  lone_places j zero = refl
  lone_places j (suc n) = ap (λ (k : ℕ). k ∷ map place_at (lone_rows c.kind (suc j) n)) (place_lone j) ∙ ap (λ (l : List ℕ). j ∷ l) (lone_places (suc j) n)

  pub lone_noted : (j n : ℕ) → AllByRecursion (Noted c.kind c.asks) (lone_rows c.kind j n)
  lone_noted j zero = tt
  lone_noted j (suc n) = (ap (λ (k : ℕ). lone (buffered_alone c.kind k)) (sym (place_lone j)), lone_noted (suc j) n)

  lone_add : (j n m : ℕ) → lone_rows c.kind j (n + m) ≡ lone_rows c.kind j n ++ lone_rows c.kind (j + n) m
  lone_add j zero m = rw (zero-add m, add-zero j)
  lone_add j (suc n) m = ap (λ (k : ℕ). lone_rows c.kind j k) (suc-add n m) ∙ ap (λ (l : List Entry). lone (buffered_alone c.kind j) ∷ l) (lone_add (suc j) n m ∙ ap (λ (k : ℕ). lone_rows c.kind (suc j) n ++ lone_rows c.kind k m) (shift j n))

  lone_length : (j n : ℕ) → length (lone_rows c.kind j n) ≡ n
  lone_length j zero = refl
  lone_length j (suc n) = ap suc (lone_length (suc j) n)

  pub lone_below : (j n e : ℕ) → j + n ≤ e → AllByRecursion (λ x. place_at x < e) (lone_rows c.kind j n)
  lone_below j zero e h = tt
  lone_below j (suc n) e h = (omega (arith, place_lone j), lone_below (suc j) n e (omega arith))

  lone_above : (j n e : ℕ) → e ≤ j → AllByRecursion (λ x. e ≤ place_at x) (lone_rows c.kind j n)
  lone_above j zero e h = tt
  lone_above j (suc n) e h = (omega (arith, place_lone j), lone_above (suc j) n e (omega arith))

  -- ---- those that leave with a batch and those that stay

  record Split (e keep : ℕ) (noted : List Entry) : Type 0 where
    front : List Entry
    back : List Entry
    is : noted ≡ front ++ back
    long : length back ≡ keep
    low : AllByRecursion (λ x. place_at x < e) front
    high : AllByRecursion (λ x. e ≤ place_at x) back

  -- The run that is passed ends m rows from the base on. If its rows are noted, they are the last noted, from row s on; those
  -- noted before stand before row s.
  abbrev pub Stand : Bool → ℕ → ℕ → ℕ → List Entry → Type 0
  Stand true base m s noted = (old : List Entry) × (noted ≡ old ++ lone_rows c.kind (base + s) (m - s)) × AllByRecursion (λ x. place_at x < base + s) old
  Stand false base m s noted = AllByRecursion (λ x. place_at x < base + s) noted

  below_more : (a b : ℕ) → a ≤ b → (l : List Entry) → AllByRecursion (λ x. place_at x < a) l → AllByRecursion (λ x. place_at x < b) l
  below_more a b h l k = All-weaker (λ x. place_at x < a) (λ x. place_at x < b) (λ x lt. omega arith) l k

  pub stand_below : (lone : Bool) (base m s : ℕ) (noted : List Entry) → s ≤ m → Stand lone base m s noted → AllByRecursion (λ x. place_at x < base + m) noted
  stand_below true base m s noted h k = subst (AllByRecursion (λ x. place_at x < base + m)) (sym k.1) (All-append _ k.0 _ (below_more (base + s) (base + m) (omega arith) k.0 k.2) (lone_below (base + s) (m - s) (base + m) (omega arith)))
  stand_below false base m s noted h k = below_more (base + s) (base + m) (omega arith) noted k

  split : (lone : Bool) (base m s n : ℕ) (noted : List Entry) → s ≤ n → n ≤ m → Stand lone base m s noted → (p : Split (base + n) (cond lone (m - n) 0) noted) × Stand lone (base + n) (m - n) 0 p.back
  split true base m s n noted h k t = (
    record {
      front = t.0 ++ lone_rows c.kind (base + s) (n - s);
      back = lone_rows c.kind (base + n) (m - n);
      is = t.1 ∙ ap (λ (l : List Entry). t.0 ++ l) (ap (lone_rows c.kind (base + s)) cut ∙ lone_add (base + s) (n - s) (m - n) ∙ ap (λ (z : ℕ). lone_rows c.kind (base + s) (n - s) ++ lone_rows c.kind z (m - n)) here) ∙ sym (append_assoc t.0 _ _);
      long = lone_length (base + n) (m - n);
      low = All-append _ t.0 _ (below_more (base + s) (base + n) (omega arith) t.0 t.2) (lone_below (base + s) (n - s) (base + n) (omega arith));
      high = lone_above (base + n) (m - n) (base + n) (omega arith);
    },
    ([], ap (λ (z : ℕ). lone_rows c.kind z (m - n)) (sym (add-zero (base + n))) ∙ ap (lone_rows c.kind ((base + n) + 0)) (sym (sub-zero (m - n))), tt),
  )
    where
      cut : m - s ≡ (n - s) + (m - n)
      cut = omega arith

      here : (base + s) + (n - s) ≡ base + n
      here = omega arith
  split false base m s n noted h k t = (record { front = noted; back = []; is = sym (append-nil noted); long = refl; low = below_more (base + s) (base + n) (omega arith) noted t; high = tt }, tt)

  kept_low : (e : ℕ) (l : List Entry) → AllByRecursion (λ x. place_at x < e) l → (filter (λ j. ltb j e) (map place_at l) ≡ map place_at l) × (filter (λ j. not (ltb j e)) (map place_at l) ≡ [])
  kept_low e [] h = (refl, refl)
  kept_low e (x ∷ l) h = let k = kept_low e l h.1 in (rw (lt-ltb (place_at x) e h.0) (ap (λ (z : List ℕ). place_at x ∷ z) k.0), rw (lt-ltb (place_at x) e h.0) k.1)

  kept_high : (e : ℕ) (l : List Entry) → AllByRecursion (λ x. e ≤ place_at x) l → (filter (λ j. ltb j e) (map place_at l) ≡ []) × (filter (λ j. not (ltb j e)) (map place_at l) ≡ map place_at l)
  kept_high e [] h = (refl, refl)
  kept_high e (x ∷ l) h = let k = kept_high e l h.1 in (rw (le-ltb (place_at x) e h.0) k.0, rw (le-ltb (place_at x) e h.0) (ap (λ (z : List ℕ). place_at x ∷ z) k.1))

  low_total : (e : ℕ) (l : List Entry) → AllByRecursion (λ x. place_at x < e) l → (total (short_of e) (map place_at l) ≡ length l) × ((f : ℕ → ℕ) → total (past f e) (map place_at l) ≡ 0)
  low_total e [] h = (refl, λ f. refl)
  low_total e (x ∷ l) h = let k = low_total e l h.1 in (rw (lt-ltb (place_at x) e h.0) (omega (arith, k.0)), λ f. rw (lt-ltb (place_at x) e h.0) (omega (arith, k.1 f)))

  high_total : (e : ℕ) (l : List Entry) → AllByRecursion (λ x. e ≤ place_at x) l → (total (short_of e) (map place_at l) ≡ 0) × ((f : ℕ → ℕ) → total (past f e) (map place_at l) ≡ total f (map place_at l))
  high_total e [] h = (refl, λ f. refl)
  high_total e (x ∷ l) h = let k = high_total e l h.1 in (rw (le-ltb (place_at x) e h.0) (omega (arith, k.0)), λ f. rw (le-ltb (place_at x) e h.0) (ap (λ (z : ℕ). f (place_at x) + z) (k.1 f)))

  -- ---- rows whose pairs all failed

  failed_frozen : (j : ℕ) (l : List FilterState) → AllByRecursion (Frozen c.kind c.asks batch_of) (failed c.kind j l)
  failed_frozen j [] = tt
  failed_frozen j (Unvisited ∷ l) = failed_frozen (suc j) l
  failed_frozen j (AllFailed ∷ l) = ((refl, tt), failed_frozen (suc j) l)
  failed_frozen j (SomePassed ∷ l) = failed_frozen (suc j) l

  failed_length : (j : ℕ) (l : List FilterState) → length (failed c.kind j l) ≤ fails_in (map mark_of l)
  failed_length j [] = omega arith
  failed_length j (Unvisited ∷ l) = failed_length (suc j) l
  failed_length j (AllFailed ∷ l) = omega (arith, failed_length (suc j) l)
  failed_length j (SomePassed ∷ l) = failed_length (suc j) l

  abbrev pub Unpaired : ℕ → List FilterState → List Entry → Type 0
  Unpaired base states noted = (f : ℕ → ℕ) → total f (map place_at noted) ≤ total f (unseens base (map mark_of states))

  -- the states of n rows and of the rest
  states_split : (f : ℕ → ℕ) (base n : ℕ) (states : List FilterState) → n ≤ length states → total f (unseens base (map mark_of states)) ≡ total f (unseens base (map mark_of (take n states))) + total f (unseens (base + n) (map mark_of (drop n states)))
  states_split f base n states h =
      ap (λ (l : List FilterState). total f (unseens base (map mark_of l))) (sym (take-append-drop n states))
      ∙ ap (λ (l : List Mark). total f (unseens base l)) (map-append mark_of (take n states) (drop n states))
      ∙ unseens_total f base (map mark_of (take n states)) (map mark_of (drop n states))
      ∙ ap (λ (k : ℕ). total f (unseens base (map mark_of (take n states))) + total f (unseens (base + k) (map mark_of (drop n states)))) (length-map (take n states) mark_of ∙ long)
    where
      long : length (take n states) ≡ n
      long = omega (arith, length-take n states)

  few_failed : (base n keep : ℕ) (states : List FilterState) (noted : List Entry) → n ≤ length states → (p : Split (base + n) keep noted) → Unpaired base states noted → length (failed c.kind base (take n states)) + length p.front ≤ n
  few_failed base n keep states noted h p u =
      let front = map mark_of (take n states) in
      omega (
        arith,
        failed_length base (take n states),
        unseen_few base front,
        length-map (take n states) mark_of,
        length-take n states,
        u (short_of (base + n)),
        states_split (short_of (base + n)) base n states h,
        short_some (base + n) base front,
        short_none (base + n) (base + n) (map mark_of (drop n states)) (omega arith),
        ap (λ (l : List Entry). total (short_of (base + n)) (map place_at l)) p.is,
        ap (total (short_of (base + n))) (map-append place_at p.front p.back),
        total_append (short_of (base + n)) (map place_at p.front) (map place_at p.back),
        (low_total (base + n) p.front p.low).0,
        (high_total (base + n) p.back p.high).0,
      )

  unpaired_next : (base n keep : ℕ) (states : List FilterState) (noted : List Entry) → n ≤ length states → (p : Split (base + n) keep noted) → Unpaired base states noted → Unpaired (base + n) (drop n states) p.back
  unpaired_next base n keep states noted h p u f =
      let g = past f (base + n) in
      omega (
        arith,
        u g,
        states_split g base n states h,
        past_none f (base + n) base (map mark_of (take n states)) (omega (arith, length-map (take n states) mark_of, length-take n states)),
        past_all f (base + n) (base + n) (map mark_of (drop n states)) (omega arith),
        ap (λ (l : List Entry). total g (map place_at l)) p.is,
        ap (total g) (map-append place_at p.front p.back),
        total_append g (map place_at p.front) (map place_at p.back),
        (low_total (base + n) p.front p.low).1 f,
        (high_total (base + n) p.back p.high).1 f,
      )

  -- ---- one batch leaves

  abbrev fails_of : Bool → ℕ → List FilterState → List Entry
  fails_of full base states = cond full (failed c.kind base states) []

  fails_are : (full : Bool) (base : ℕ) (states : List FilterState) → entries (fails_of full base states) ≡ fixeds (when full (failures base (map mark_of states)))
  fails_are true base states = failed_are c.kind c.asks base states
  fails_are false base states = refl

  fails_frozen : (full : Bool) (base : ℕ) (states : List FilterState) → AllByRecursion (Frozen c.kind c.asks batch_of) (fails_of full base states)
  fails_frozen true base states = failed_frozen base states
  fails_frozen false base states = tt

  fails_all : (full : Bool) (base k : ℕ) (states : List FilterState) → length (failed c.kind base states) ≤ k → cond full (take k (failed c.kind base states)) [] ≡ fails_of full base states
  fails_all true base k states h = take_all k (failed c.kind base states) h
  fails_all false base k states h = refl

  leave_is : (full : Bool) (base n keep : ℕ) (states : List FilterState) (noted frozen : List Entry) (due : List Record) → n ≤ length states → (p : Split (base + n) keep noted) → Unpaired base states noted
      → leave c.kind full base n keep (take n states) (block c batch_of noted [] frozen due) ≡ block c batch_of p.back [] (frozen ++ (p.front ++ fails_of full base (take n states))) due
  leave_is full base n keep states noted frozen due h p u =
      let gone : length noted - keep ≡ length p.front = omega (arith, ap length p.is, length-append p.front p.back, p.long) in
      let fronts : take (length noted - keep) noted ≡ p.front = ap (take (length noted - keep)) p.is ∙ take_at p.front p.back (length noted - keep) (sym gone) in
      let backs : drop (length noted - keep) noted ≡ p.back = ap (drop (length noted - keep)) p.is ∙ drop_at p.front p.back (length noted - keep) (sym gone) in
      let all : cond full (take (n - (length noted - keep)) (failed c.kind base (take n states))) [] ≡ fails_of full base (take n states) = fails_all full base (n - (length noted - keep)) (take n states) (omega (arith, few_failed base n keep states noted h p u)) in
      ap (λ (z : List Entry). block c batch_of z [] (frozen ++ (take (length noted - keep) noted ++ cond full (take (n - (length noted - keep)) (failed c.kind base (take n states))) [])) due) backs
      ∙ ap (λ (z : List Entry). block c batch_of p.back [] (frozen ++ (z ++ cond full (take (n - (length noted - keep)) (failed c.kind base (take n states))) [])) due) fronts
      ∙ ap (λ (z : List Entry). block c batch_of p.back [] (frozen ++ (p.front ++ z)) due) all

  -- ---- all that leave

  pub record LeftAs (l leaves : List BufferedBatch) (base m : ℕ) (states : List FilterState) (noted : List Entry) (lone : Bool) : Type 0 where
    pub given : List Entry
    pub rest : List Entry
    pub told : List Record
    pub given_are : entries given ≡ fixeds told
    pub given_frozen : AllByRecursion (Frozen c.kind c.asks batch_of) given
    pub rest_noted : AllByRecursion (Noted c.kind c.asks) rest
    pub rest_behind : AllByRecursion (λ x. place_at x < base + m) rest
    pub plainly : plain_leave (is_full c.kind) m base (map size_of l) (map mark_of states) (map place_at noted) ≡ left (base + rows_of leaves) (map size_of (drop (length leaves) l)) (map mark_of (drop (rows_of leaves) states)) (map place_at rest) told
    pub exactly : (frozen : List Entry) (due : List Record) → leave_all c lone base m leaves states (block c batch_of noted [] frozen due) ≡ block c batch_of rest [] (frozen ++ given) due
    pub few : length (drop (length leaves) l) ≤ 1
    pub reaches : reach (drop (length leaves) l) + rows_of leaves ≡ m
    pub sums : rows_of leaves + rows_of (drop (length leaves) l) ≡ rows_of l
    pub emptied : m ≡ rows_of l → drop (length leaves) l ≡ []
    pub front : take (length leaves) l ≡ leaves

  -- nothing leaves
  stays : (l : List BufferedBatch) (base m s : ℕ) (states : List FilterState) (noted : List Entry) (lone : Bool) → AllByRecursion (Noted c.kind c.asks) noted → s ≤ m → Stand lone base m s noted → length l ≤ 1 → reach l ≡ m → (m ≡ rows_of l → l ≡ [])
      → plain_leave (is_full c.kind) m base (map size_of l) (map mark_of states) (map place_at noted) ≡ left base (map size_of l) (map mark_of states) (map place_at noted) [] → LeftAs l [] base m states noted lone
  stays l base m s states noted lone no' h t few r em e = record {
    given = [];
    rest = noted;
    told = [];
    given_are = refl;
    given_frozen = tt;
    rest_noted = no';
    rest_behind = stand_below lone base m s noted h t;
    plainly = e ∙ ap (λ (b : ℕ). left b (map size_of l) (map mark_of states) (map place_at noted) []) (sym (add-zero base));
    exactly = λ frozen due. ap (λ (z : List Entry). block c batch_of noted [] z due) (sym (append-nil frozen));
    few = few;
    reaches = omega (arith, r);
    sums = omega arith;
    emptied = em;
    front = refl;
  }

  noted_parts : (e keep : ℕ) (noted : List Entry) → AllByRecursion (Noted c.kind c.asks) noted → (p : Split e keep noted) → AllByRecursion (Noted c.kind c.asks) p.front × AllByRecursion (Noted c.kind c.asks) p.back
  noted_parts e keep noted h p = go p.front p.back (subst (AllByRecursion (Noted c.kind c.asks)) p.is h)
    where
      go : (a b : List Entry) → AllByRecursion (Noted c.kind c.asks) (a ++ b) → AllByRecursion (Noted c.kind c.asks) a × AllByRecursion (Noted c.kind c.asks) b
      go [] b h = (tt, h)
      go (x ∷ a) b h = let k = go a b h.1 in ((h.0, k.0), k.1)

  -- one batch leaves, then the rest
  leaves_next : (b : BufferedBatch) (l leaves : List BufferedBatch) (base m s : ℕ) (states : List FilterState) (noted : List Entry) (lone : Bool) → AllByRecursion (Noted c.kind c.asks) noted → s ≤ b.rows → b.rows ≤ m → b.rows ≤ length states
      → Unpaired base states noted → (p : Split (base + b.rows) (cond lone (m - b.rows) 0) noted) → LeftAs l leaves (base + b.rows) (m - b.rows) (drop b.rows states) p.back lone → LeftAs (b ∷ l) (b ∷ leaves) base m states noted lone
  leaves_next b l leaves base m s states noted lone no' h k len u p next =
      let n = b.rows in
      let parts = noted_parts (base + n) _ noted no' p in
      let fs = fails_of (is_full c.kind) base (take n states) in
      let gave : List Record = alones (map place_at p.front) ++ when (is_full c.kind) (failures base (map mark_of (take n states))) in
      let low = kept_low (base + n) p.front p.low in
      let high = kept_high (base + n) p.back p.high in
      let fronts : filter (λ j. ltb j (base + n)) (map place_at noted) ≡ map place_at p.front =
      ap (λ (z : List Entry). filter (λ j. ltb j (base + n)) (map place_at z)) p.is ∙ ap (filter (λ j. ltb j (base + n))) (map-append place_at p.front p.back) ∙ filter-append (λ j. ltb j (base + n)) (map place_at p.front) (map place_at p.back)
      ∙ ap (λ (z : List ℕ). z ++ filter (λ j. ltb j (base + n)) (map place_at p.back)) low.0 ∙ ap (λ (z : List ℕ). map place_at p.front ++ z) high.0 ∙ append-nil _ in
      let backs : filter (λ j. not (ltb j (base + n))) (map place_at noted) ≡ map place_at p.back =
      ap (λ (z : List Entry). filter (λ j. not (ltb j (base + n))) (map place_at z)) p.is ∙ ap (filter (λ j. not (ltb j (base + n)))) (map-append place_at p.front p.back) ∙ filter-append (λ j. not (ltb j (base + n))) (map place_at p.front) (map place_at p.back)
      ∙ ap (λ (z : List ℕ). z ++ filter (λ j. not (ltb j (base + n))) (map place_at p.back)) low.1 ∙ high.1 in
      record {
        given = (p.front ++ fs) ++ next.given;
        rest = next.rest;
        told = gave ++ next.told;
        given_are = map-append (entry_of c.kind c.asks) (p.front ++ fs) next.given
            ∙ ap (λ (z : List plain_entry). z ++ entries next.given) (map-append (entry_of c.kind c.asks) p.front fs ∙ ap (λ (z : List plain_entry). z ++ entries fs) (noted_are c.kind c.asks p.front parts.0) ∙ ap (λ (z : List plain_entry). fixeds (alones (map place_at p.front)) ++ z) (fails_are (is_full c.kind) base (take n states)) ∙ sym (map-append fixed (alones (map place_at p.front)) _))
            ∙ ap (λ (z : List plain_entry). fixeds gave ++ z) next.given_are
            ∙ sym (map-append fixed gave next.told);
        given_frozen = All-append _ (p.front ++ fs) next.given (All-append _ p.front fs (noted_frozen c batch_of p.front parts.0) (fails_frozen (is_full c.kind) base (take n states))) next.given_frozen;
        rest_noted = next.rest_noted;
        rest_behind = subst (λ z. AllByRecursion (λ x. place_at x < z) next.rest) (omega arith) next.rest_behind;
        plainly = plain_next fronts backs;
        exactly = λ frozen due.
            ap (leave_all c lone (base + n) (m - n) leaves (drop n states)) (leave_is (is_full c.kind) base n (cond lone (m - n) 0) states noted frozen due len p u)
            ∙ next.exactly (frozen ++ (p.front ++ fs)) due
            ∙ ap (λ (z : List Entry). block c batch_of next.rest [] z due) (append_assoc frozen (p.front ++ fs) next.given);
        few = next.few;
        reaches = omega (arith, next.reaches);
        sums = omega (arith, next.sums);
        emptied = λ z. next.emptied (omega arith);
        front = ap (λ (z : List BufferedBatch). b ∷ z) next.front;
      }
    where
      rest_at : List ℕ → List Mark → List ℕ → Left
      rest_at z marks back = giving (alones z ++ when (is_full c.kind) (failures base marks)) (plain_leave (is_full c.kind) (m - b.rows) (base + b.rows) (map size_of l) (map mark_of (drop b.rows states)) back)

      plus : (base + b.rows) + rows_of leaves ≡ base + (b.rows + rows_of leaves)
      plus = omega arith

      plain_next : filter (λ j. ltb j (base + b.rows)) (map place_at noted) ≡ map place_at p.front → filter (λ j. not (ltb j (base + b.rows))) (map place_at noted) ≡ map place_at p.back
          → plain_leave (is_full c.kind) m base (b.rows ∷ map size_of l) (map mark_of states) (map place_at noted)
          ≡ left (base + (b.rows + rows_of leaves)) (map size_of (drop (length leaves) l)) (map mark_of (drop (b.rows + rows_of leaves) states)) (map place_at next.rest) ((alones (map place_at p.front) ++ when (is_full c.kind) (failures base (map mark_of (take b.rows states)))) ++ next.told)
      plain_next fronts backs =
          ap (λ (t : Bool). cond t (giving (alones (filter (λ j. ltb j (base + b.rows)) (map place_at noted)) ++ when (is_full c.kind) (failures base (take b.rows (map mark_of states)))) (plain_leave (is_full c.kind) (m - b.rows) (base + b.rows) (map size_of l) (drop b.rows (map mark_of states)) (filter (λ j. not (ltb j (base + b.rows))) (map place_at noted)))) (left base (b.rows ∷ map size_of l) (map mark_of states) (map place_at noted) [])) (le-leb b.rows m k)
          ∙ ap (λ (z : List Mark). giving (alones (filter (λ j. ltb j (base + b.rows)) (map place_at noted)) ++ when (is_full c.kind) (failures base (take b.rows (map mark_of states)))) (plain_leave (is_full c.kind) (m - b.rows) (base + b.rows) (map size_of l) z (filter (λ j. not (ltb j (base + b.rows))) (map place_at noted)))) (drop-map mark_of b.rows states)
          ∙ ap (λ (z : List Mark). rest_at (filter (λ j. ltb j (base + b.rows)) (map place_at noted)) z (filter (λ j. not (ltb j (base + b.rows))) (map place_at noted))) (take-map mark_of b.rows states)
          ∙ ap (λ (z : List ℕ). rest_at z (map mark_of (take b.rows states)) (filter (λ j. not (ltb j (base + b.rows))) (map place_at noted))) fronts
          ∙ ap (rest_at (map place_at p.front) (map mark_of (take b.rows states))) backs
          ∙ ap (giving (alones (map place_at p.front) ++ when (is_full c.kind) (failures base (map mark_of (take b.rows states))))) next.plainly
          ∙ ap (λ (z : ℕ). left z (map size_of (drop (length leaves) l)) (map mark_of (drop (rows_of leaves) (drop b.rows states))) (map place_at next.rest) ((alones (map place_at p.front) ++ when (is_full c.kind) (failures base (map mark_of (take b.rows states)))) ++ next.told)) plus
          ∙ ap (λ (z : List FilterState). left (base + (b.rows + rows_of leaves)) (map size_of (drop (length leaves) l)) (map mark_of z) (map place_at next.rest) ((alones (map place_at p.front) ++ when (is_full c.kind) (failures base (map mark_of (take b.rows states)))) ++ next.told)) (drop-drop (rows_of leaves) b.rows states)

  pub reach_tail : (b : BufferedBatch) (l : List BufferedBatch) (m : ℕ) → FullButLast (b ∷ l) → reach (b ∷ l) ≡ m → b.end ≡ b.rows → (reach l ≡ m - b.rows) × (b.rows ≤ m) × FullButLast l
  reach_tail b [] m f r e = (omega arith, omega arith, tt)
  reach_tail b (d ∷ l) m f r e = (omega arith, omega arith, f.1)

  pub kept_last : (b : BufferedBatch) (l : List BufferedBatch) (m : ℕ) → FullButLast (b ∷ l) → reach (b ∷ l) ≡ m → m ≤ rows_of (b ∷ l) → (b.end ≡ b.rows → ⊥) → (l ≡ []) × (m < b.rows)
  kept_last b [] m f r h e = (refl, go (cases_lt m b.rows))
    where
      go : (m < b.rows) ⊎ (b.rows ≤ m) → m < b.rows
      go (inl z) = z
      go (inr z) = absurd (e (omega arith))
  kept_last b (d ∷ l) m f r h e = absurd (e f.0)

  pub leaves : (l : List BufferedBatch) (base m s : ℕ) (states : List FilterState) (noted : List Entry) (lone : Bool) → AllByRecursion (Noted c.kind c.asks) noted → FullButLast l → reach l ≡ m → m ≤ rows_of l → rows_of l ≤ length states → s ≤ m → s ≤ first_rows l
      → Stand lone base m s noted → Unpaired base states noted → LeftAs l (leaving l) base m states noted lone
  leaves [] base m s states noted lone no' f r h len sm sf t u = stays [] base m s states noted lone no' sm t (omega arith) r (λ z. refl) refl
  leaves (b ∷ l) base m s states noted lone no' f r h len sm sf t u =
      go (is_consumed b) refl (λ n base' m' states' noted' a f' r' h' len' t' u'. leaves l base' m' 0 states' noted' lone a f' r' h' len' (omega arith) (omega arith) t' u')
    where
      go : (z : Bool) → is_consumed b ≡ z
          → ((n base' m' : ℕ) (states' : List FilterState) (noted' : List Entry) → AllByRecursion (Noted c.kind c.asks) noted' → FullButLast l → reach l ≡ m' → m' ≤ rows_of l → rows_of l ≤ length states' → Stand lone base' m' 0 noted' → Unpaired base' states' noted' → LeftAs l (leaving l) base' m' states' noted' lone)
          → LeftAs (b ∷ l) (cond z (b ∷ leaving l) []) base m states noted lone
      go true e ih =
          let tail = reach_tail b l m f r (eqb-true b.end b.rows e) in
          let p = split lone base m s b.rows noted sf tail.1 t in
          let parts = noted_parts (base + b.rows) _ noted no' p.0 in
          leaves_next b l (leaving l) base m s states noted lone no' sf tail.1 (omega arith) u p.0
          (ih 0 (base + b.rows) (m - b.rows) (drop b.rows states) p.0.back parts.1 tail.2 tail.0 (omega arith) (omega (arith, length-drop b.rows states)) p.1 (unpaired_next base b.rows _ states noted (omega arith) p.0 u))
      go false e ih =
          let k = kept_last b l m f r h (eqb-false b.end b.rows e) in
          stays (b ∷ l) base m s states noted lone no' sm t (omega (arith, ap length k.0)) r (λ z. absurd (omega (arith, k.1, z)))
          (ap (λ (z : Bool). cond z (giving (alones (filter (λ j. ltb j (base + b.rows)) (map place_at noted)) ++ when (is_full c.kind) (failures base (take b.rows (map mark_of states)))) (plain_leave (is_full c.kind) (m - b.rows) (base + b.rows) (map size_of l) (drop b.rows (map mark_of states)) (filter (λ j. not (ltb j (base + b.rows))) (map place_at noted)))) (left base (b.rows ∷ map size_of l) (map mark_of states) (map place_at noted) [])) (lt-leb b.rows m k.1))
