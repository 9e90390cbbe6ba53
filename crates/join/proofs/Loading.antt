-- What a load of the machine comes to, by what the checks of the next batch's size answer.
use Rattle.std.proofs.Common.{◌≡◌, ℕ, zero, suc, ◌+◌, ◌≤◌, Bool, true, false, cond, not, leb, List, [], ◌∷◌, length, take, drop, Some, None, Ok, Err, Option, Result, sym, refl, ap, ◌∙◌, arith}
use Rattle.std.proofs.lemmas.List.{take_at}
use Rattle.std.proofs.lemmas.Bool.{leb-true}
use Rattle.rows.specs.declared.row.Row.{Row}
use Rattle.rows.specs.Sides.{streamed_side, buffered_side}
use Rattle.sources.specs.declared.fault.SourceFault.{SourceFault}
use Rattle.sources.specs.Meaning.{Closing, upcoming, take_of, Took}
use Rattle.sources.proofs.Takes.{takes_first}
use Rattle.pipeline.specs.declared.entry.Entry.{Entry}
use Rattle.pipeline.specs.Block.{Queued, freeze}
use Rattle.machine.specs.Machine.{Setting, Streamed, Buffered, Counts, Phase, fetching, core, Outcome, going, most_rows, streamed_read, buffered_read, deferred, let_go, marked_by, disorder, stops, after_fetch, fetch_taken, fetch_from, skipped, at_end, load_from, load_checked, passed_over, most_batches}
use Rattle.join.specs.declared.load.LoadFault.{LoadFault}
use Rattle.join.specs.declared.load.LoadFault.TheVariants.{TableFull, TooManyBatches, TooManyRows, Source}
use Rattle.join.specs.Loads.{on_side, checked}

-- the answer to the checks of a batch that has rows
abbrev verdict : (places no_batches rows : Bool) → ℕ → Result (Option ℕ) LoadFault
verdict places no_batches rows n = cond places (cond no_batches (Err TooManyBatches) (cond rows (Ok (Some n)) (Err TableFull))) (Err TooManyRows)

-- the size that passes the checks is the source's, and no more than the table has space for
pub checked_is : (x : Result (Option ℕ) SourceFault) (read : ℕ) (full : Bool) (space n : ℕ) → Ok (Some n) ≡ checked x read full space → (x ≡ Ok (Some n)) × (n ≤ space)
checked_is (Err f) read full space n h = absurd (let z : ◌≡◌ {A = ℕ} 0 1 = cc in omega arith)
checked_is (Ok None) read full space n h = absurd (let z : ◌≡◌ {A = ℕ} 0 1 = cc in omega arith)
checked_is (Ok (Some zero)) read full space n h = let z : n ≡ 0 = cc in (cc, omega arith)
checked_is (Ok (Some (suc k))) read full space n h = go (leb (read + suc k) most_rows) full (leb (suc k) space) refl h
  where
    go : (a b s : Bool) → leb (suc k) space ≡ s → Ok (Some n) ≡ verdict a b s (suc k) → (◌≡◌ {A = Result (Option ℕ) SourceFault} (Ok (Some (suc k))) (Ok (Some n))) × (n ≤ space)
    go true false true is h = let z : n ≡ suc k = cc in (cc, omega (arith, leb-true (suc k) space is))
    go true false false is h = absurd (let z : ◌≡◌ {A = ℕ} 0 1 = cc in omega arith)
    go true true s is h = absurd (let z : ◌≡◌ {A = ℕ} 0 1 = cc in omega arith)
    go false b s is h = absurd (let z : ◌≡◌ {A = ℕ} 0 1 = cc in omega arith)

-- an empty batch is taken and passed over: the memory stays
pub skipped_stays : {A : Type 0} (read : ℕ) (full : Bool) (space : ℕ) (l : List (List A)) (e : Closing) (m : List A) → Ok (Some 0) ≡ checked (upcoming l e) read full space → (take_of l e m).memory ≡ m
skipped_stays read full space [] e m h = refl
skipped_stays {A} read full space ([] ∷ l) e m h = ap (λ (w : Took A). w.memory) (takes_first ([] ∷ l) e m [] l refl (omega arith))
skipped_stays read full space ((x ∷ r) ∷ l) e m h =
    let is = (checked_is (Ok (Some (suc (length r)))) read full space 0 h).0 in
    let z : suc (length r) ≡ 0 = cc is in absurd (omega arith)

-- A load: what it comes to at the end, at a fault, past a batch without rows, and with a batch's rows.
module _ {A X : Type 0} (read : ℕ) (full : Bool) (space : ℕ) (over : X) (failing : LoadFault → X) (skips : List (List A) → X) (takes : List A → List (List A) → X) where
  abbrev by_checks : (places no_batches rows : Bool) → A → List A → List (List A) → X
  by_checks places no_batches rows x r l = cond places (cond no_batches (failing TooManyBatches) (cond rows (takes (x ∷ r) l) (failing TableFull))) (failing TooManyRows)

  abbrev pub loading : List (List A) → Closing → X
  loading [] (Ok end) = over
  loading [] (Err f) = failing (Source f)
  loading ([] ∷ l) e = skips l
  loading ((x ∷ r) ∷ l) e = by_checks (leb (read + suc (length r)) most_rows) full (leb (suc (length r)) space) x r l

  -- the same by what the checks answer and what the source then leaves
  abbrev pub told : Result (Option ℕ) LoadFault → Took A → X
  told (Err f) t = failing f
  told (Ok None) t = over
  told (Ok (Some zero)) t = skips t.left
  told (Ok (Some (suc n))) t = takes (take (suc n) t.memory) t.left

  -- of the memory it asks that it has room for a batch that is taken, and nothing where none is
  pub loading_told : (l : List (List A)) (e : Closing) (m : List A) → ((k : ℕ) → Ok (Some (suc k)) ≡ checked (upcoming l e) read full space → suc k ≤ length m)
      → loading l e ≡ told (checked (upcoming l e) read full space) (take_of l e m)
  loading_told [] (Ok end) m fits = refl
  loading_told [] (Err f) m fits = refl
  loading_told ([] ∷ l) e m fits = ap (λ (w : Took A). skips w.left) (sym (takes_first ([] ∷ l) e m [] l refl (omega arith)))
  loading_told ((x ∷ r) ∷ l) e m fits = go (leb (read + suc (length r)) most_rows) full (leb (suc (length r)) space) fits
    where
      all : Took A
      all = take_of ((x ∷ r) ∷ l) e m

      go : (a b s : Bool) → ((k : ℕ) → Ok (Some (suc k)) ≡ verdict a b s (suc (length r)) → suc k ≤ length m) → by_checks a b s x r l ≡ told (verdict a b s (suc (length r))) all
      go true false true h =
          let t = takes_first ((x ∷ r) ∷ l) e m (x ∷ r) l refl (h (length r) refl) in
          ap (λ (y : List A). takes y l) (sym (take_at (x ∷ r) (drop (length (x ∷ r)) m) (suc (length r)) refl))
          ∙ ap (λ (w : Took A). takes (take (suc (length r)) w.memory) w.left) (sym t)
      go true false false h = refl
      go true true s h = refl
      go false b s h = refl

module _ {K : Type 0} (c : Setting K) (st : Streamed K) (bf : Buffered K) (q : Queued) (n : Counts) where
  pub fetch_is : (first : Bool) (l : List (List (Row K))) (e : Closing) → fetch_from c first l e st bf q n
      ≡ loading (streamed_read st) false c.streamed_table (going (core (at_end c st) bf q n (after_fetch c first))) (λ f. stops c (on_side f (streamed_side c.kind) (streamed_read st)) st bf q n)
      (λ left. going (core (skipped c left st) bf q n (fetching first))) (λ rows left. fetch_taken c q.unfrozen first rows left st bf q n) l e
  fetch_is first [] (Ok end) = refl
  fetch_is first [] (Err f) = refl
  fetch_is first ([] ∷ l) e = refl
  fetch_is first ((x ∷ r) ∷ l) e = refl

  abbrev failing : LoadFault → Outcome K
  failing f = stops c (on_side f (streamed_side c.kind) (streamed_read st)) st bf q n

  -- a batch that has rows: the unfrozen freeze before it is taken
  pub fetch_freezes : (first : Bool) (l : List (List (Row K))) (e : Closing) (k : ℕ) → checked (upcoming l e) (streamed_read st) false c.streamed_table ≡ Ok (Some (suc k)) → 1 ≤ length q.unfrozen
      → fetch_from c first l e st bf q n ≡ going (core st (marked_by c.kind c.asks q bf) (let_go (deferred c) (freeze c.asks q)) n (fetching first))
  fetch_freezes first [] (Ok end) k h u = absurd (let z : ◌≡◌ {A = ℕ} 0 1 = cc in omega arith)
  fetch_freezes first [] (Err f) k h u = absurd (let z : ◌≡◌ {A = ℕ} 0 1 = cc in omega arith)
  fetch_freezes first ([] ∷ l) e k h u = absurd (let z : 0 ≡ suc k = cc in omega arith)
  fetch_freezes first ((x ∷ r) ∷ l) e k h u = go (leb (streamed_read st + suc (length r)) most_rows) (leb (suc (length r)) c.streamed_table) h (some q.unfrozen u)
    where
      frozen : Outcome K
      frozen = going (core st (marked_by c.kind c.asks q bf) (let_go (deferred c) (freeze c.asks q)) n (fetching first))

      some : (es : List Entry) → 1 ≤ length es → fetch_taken c es first (x ∷ r) l st bf q n ≡ frozen
      some [] h = absurd (omega arith)
      some (y ∷ es) h = refl

      go : (a b : Bool) → verdict a false b (suc (length r)) ≡ Ok (Some (suc k)) → fetch_taken c q.unfrozen first (x ∷ r) l st bf q n ≡ frozen
          → cond a (cond b (fetch_taken c q.unfrozen first (x ∷ r) l st bf q n) (failing TableFull)) (failing TooManyRows) ≡ frozen
      go true true h t = t
      go true false h t = absurd (let z : ◌≡◌ {A = ℕ} 0 1 = cc in omega arith)
      go false b h t = absurd (let z : ◌≡◌ {A = ℕ} 0 1 = cc in omega arith)

  -- The same of the buffered side. `full` says that no batch more can be held, and `space` is what the table has left.
  pub load_is : (over : Outcome K) (ph : Phase K) (full : Bool) (space : ℕ) → leb (suc (length bf.holding.batches)) most_batches ≡ not full → ((k : ℕ) → leb (bf.holding.held + k) c.buffered_table ≡ leb k space)
      → (l : List (List (Row K))) (e : Closing) → load_from c over ph l e st bf q n
      ≡ loading (buffered_read bf) full space over (λ f. stops c (on_side f (buffered_side c.kind) (buffered_read bf)) st bf q n)
      (λ left. going (core st (passed_over c left bf) q n ph)) (λ rows left. load_checked c (disorder c.within bf.last rows (buffered_read bf)) ph rows left st bf q n) l e
  load_is over ph full space is_full is_space [] (Ok end) = refl
  load_is over ph full space is_full is_space [] (Err f) = refl
  load_is over ph full space is_full is_space ([] ∷ l) e = refl
  load_is over ph full space is_full is_space ((x ∷ r) ∷ l) e = rw (is_full, is_space (suc (length r))) (turned full)
    where
      failing : LoadFault → Outcome K
      failing f = stops c (on_side f (buffered_side c.kind) (buffered_read bf)) st bf q n

      loaded : Outcome K
      loaded = cond (leb (suc (length r)) space) (load_checked c (disorder c.within bf.last (x ∷ r) (buffered_read bf)) ph (x ∷ r) l st bf q n) (failing TableFull)

      turned : (b : Bool) → cond (leb (buffered_read bf + suc (length r)) most_rows) (cond (not b) loaded (failing TooManyBatches)) (failing TooManyRows)
          ≡ cond (leb (buffered_read bf + suc (length r)) most_rows) (cond b (failing TooManyBatches) loaded) (failing TooManyRows)
      turned true = refl
      turned false = refl
