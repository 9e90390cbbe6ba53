-- The scan of a run over the batches held and their rows, from one position to another.
use Rattle.std.proofs.Common.{◌≡◌, ℕ, zero, suc, ◌+◌, ◌-◌, ◌<◌, ◌≤◌, min, ◌⊎◌, List, [], ◌∷◌, ◌++◌, length, get_or, take, drop, set, sym, refl, ap, ◌∙◌, subst, inl, inr, ⊎_elim, append_assoc, add_assoc, arith, length-set, take-append-drop, length-take, length-take-le, drop-drop, drop-set-lt}
use Rattle.std.proofs.lemmas.List.{append_cancel_right, take_more, take_more_set, drop_more, drop_all, at_drop_more, at_drop_all, get_or-take, length-drop}
use Rattle.rows.specs.declared.kind.Kind.{Kind}
use Rattle.rows.specs.declared.reading.Reading.{Reading}
use Rattle.rows.specs.declared.row.Row.{Row}
use Rattle.pipeline.specs.declared.batch.BufferedBatch.{BufferedBatch}
use Rattle.pipeline.specs.declared.held.BufferedData.{BufferedData}
use Rattle.pipeline.specs.declared.entry.Entry.{Entry}
use Rattle.pipeline.specs.declared.entry.StreamedRow.{StreamedRow}
use Rattle.pipeline.specs.Batches.{rows_of}
use Rattle.pipeline.specs.Held.{Holding, holding, placed, run_from, run_at, pair_entry, pairs_with}
use Rattle.pipeline.proofs.Ranges.{rows_of_push, rows_of_split}

take_none : {X : Type 0} (n : ℕ) → take {A = X} n [] ≡ []
take_none zero = refl
take_none (suc n) = refl

-- what is left of the run at a position in the batch number b: one row on, and with the next batch
module _ {A : Type 0} (h : Holding) (rows : List A) (b : ℕ) (d here : BufferedBatch) (some : b < length h.batches) (is_here : get_or h.batches b d ≡ here) where
  abbrev first : ℕ
  first = rows_of (take b h.batches)

  abbrev known : List A
  known = take h.held rows

  abbrev onward : List (ℕ × A)
  onward = run_from ((h.base + first) + here.rows) 0 (drop (b + 1) h.batches) (drop here.rows (drop first known))

  opened : (r : ℕ) → run_at h b r rows ≡ placed ((h.base + first) + r) (take (here.end - r) (drop r (drop first known))) ++ onward
  opened r =
      at_drop_more (λ l. run_from (h.base + first) r l (drop first known)) h.batches b d some
      ∙ ap (λ (x : BufferedBatch). run_from (h.base + first) r (x ∷ drop (b + 1) h.batches) (drop first known)) is_here

  pub first_more : rows_of (take (b + 1) h.batches) ≡ first + here.rows
  first_more = ap rows_of (take_more h.batches b d some) ∙ rows_of_push (take b h.batches) (get_or h.batches b d) ∙ ap (λ (x : BufferedBatch). first + x.rows) is_here

  pub run_at_row : (r : ℕ) (x : A) → r < here.end → first + r < length known → run_at h b r rows ≡ (h.base + (first + r), get_or known (first + r) x) ∷ run_at h b (r + 1) rows
  run_at_row r d k m =
      let j = h.base + first in
      let one : here.end - r ≡ suc (here.end - (r + 1)) = omega arith in
      let next : (first + r) + 1 ≡ first + (r + 1) = omega arith in
      let on : suc (j + r) ≡ j + (r + 1) = omega arith in
      let x = get_or known (first + r) d in
      let row : drop r (drop first known) ≡ x ∷ drop (r + 1) (drop first known) =
      drop-drop r first known ∙ drop_more known (first + r) d m ∙ ap (λ n. x ∷ drop n known) next ∙ ap (λ l. x ∷ l) (sym (drop-drop (r + 1) first known)) in
      opened r ∙ ap (λ l. placed (j + r) (take (here.end - r) l) ++ onward) row
      ∙ ap (λ n. placed (j + r) (take n (x ∷ drop (r + 1) (drop first known))) ++ onward) one
      ∙ ap (λ n. (j + r, x) ∷ (placed n (take (here.end - (r + 1)) (drop (r + 1) (drop first known))) ++ onward)) on
      ∙ ap (λ n. (n, x) ∷ (placed (j + (r + 1)) (take (here.end - (r + 1)) (drop (r + 1) (drop first known))) ++ onward)) (add_assoc h.base first r)
      ∙ ap (λ l. (h.base + (first + r), x) ∷ l) (sym (opened (r + 1)))

  no_more : (r : ℕ) → (here.end ≤ r) ⊎ (length known ≤ first + r) → take (here.end - r) (drop r (drop first known)) ≡ []
  no_more r (inl e) = let z : here.end - r ≡ 0 = omega arith in ap (λ n. take n (drop r (drop first known))) z
  no_more r (inr e) = ap (take (here.end - r)) (drop-drop r first known ∙ drop_all (first + r) known e) ∙ take_none (here.end - r)

  pub run_at_next : (r : ℕ) → (here.end ≤ r) ⊎ (length known ≤ first + r) → run_at h b r rows ≡ run_at h (b + 1) 0 rows
  run_at_next r over =
      opened r ∙ ap (λ l. placed ((h.base + first) + r) l ++ onward) (no_more r over)
      ∙ ap (λ l. run_from ((h.base + first) + here.rows) 0 (drop (b + 1) h.batches) l) (drop-drop here.rows first known)
      ∙ ap (λ n. run_from n 0 (drop (b + 1) h.batches) (drop (first + here.rows) known)) (add_assoc h.base first here.rows)
      ∙ ap (λ n. run_from (h.base + n) 0 (drop (b + 1) h.batches) (drop n known)) (sym first_more)

pub run_at_end : {A : Type 0} (h : Holding) (rows : List A) (b r : ℕ) → length h.batches ≤ b → run_at h b r rows ≡ []
run_at_end h rows b r past = at_drop_all (λ l. run_from (h.base + rows_of (take b h.batches)) r l (drop (rows_of (take b h.batches)) (take h.held rows))) h.batches b past

-- the same of what is held: f is the index of the batch's first row
module _ {A : Type 0} (s : BufferedData) (rows : List A) (b f : ℕ) (is_first : f ≡ rows_of (take b (take s.count s.batches))) where
  abbrev held : List BufferedBatch
  held = take s.count s.batches

  pub first_within : f ≤ 16777215
  first_within = let split = rows_of_split b held in let all = s.together in let few = s.places in omega arith

  module _ (d : BufferedBatch) (some : b < s.count) where
    abbrev range : BufferedBatch
    range = get_or s.batches b d

    some_held : b < length held
    some_held = let len : length held ≡ s.count = length-take-le s.count s.batches (omega arith) in omega arith

    is_range : get_or held b d ≡ range
    is_range = get_or-take s.count s.batches b d some

    pub next_first : f + range.rows ≡ rows_of (take (b + 1) held)
    next_first = ap (λ n. n + range.rows) is_first ∙ sym (first_more (holding s) rows b d range some_held is_range)

    pub scan_row : (r : ℕ) (x : A) → r < range.end → f + r < min (length rows) s.held → run_at (holding s) b r rows ≡ (s.base + (f + r), get_or rows (f + r) x) ∷ run_at (holding s) b (r + 1) rows
    scan_row r x k m =
        let long : length (take s.held rows) ≡ min s.held (length rows) = length-take s.held rows in
        let i = rows_of (take b held) in
        run_at_row (holding s) rows b d range some_held is_range r x k (omega arith)
        ∙ ap (λ y. (s.base + (i + r), y) ∷ run_at (holding s) b (r + 1) rows) (get_or-take s.held rows (i + r) x (omega arith))
        ∙ ap (λ n. (s.base + (n + r), get_or rows (n + r) x) ∷ run_at (holding s) b (r + 1) rows) (sym is_first)

    pub scan_next : (r : ℕ) → (range.end ≤ r) ⊎ (min (length rows) s.held ≤ f + r) → run_at (holding s) b r rows ≡ run_at (holding s) (b + 1) 0 rows
    scan_next r over =
        let long : length (take s.held rows) ≡ min s.held (length rows) = length-take s.held rows in
        run_at_next (holding s) rows b d range some_held is_range r (⊎_elim (λ e. inl e) (λ e. inr (omega arith)) over)

-- from out₀, where n₀ pairs were written and T₀ was left, the scan comes to out, n and T
module _ {K : Type 0} (P : List (ℕ × Row K) → List Entry) where
  pub record Goes (out₀ : List Entry) (n₀ : ℕ) (T₀ : List (ℕ × Row K)) (out : List Entry) (n : ℕ) (T : List (ℕ × Row K)) : Type 0 where
    pub low : n₀ ≤ n
    pub within : n ≤ length out
    pub long : length out ≡ length out₀
    pub cut : take n out ++ P T ≡ take n₀ out₀ ++ P T₀
    pub rest : T ≡ drop (n - n₀) T₀
    pub beyond : drop n out ≡ drop n out₀

  further : {X : Type 0} (j k : ℕ) (xs ys : List X) → j ≤ k → drop j xs ≡ drop j ys → drop k xs ≡ drop k ys
  further j k xs ys h e =
      let s : j + (k - j) ≡ k = omega arith in
      subst (λ n. drop n xs ≡ drop n ys) s (sym (drop-drop (k - j) j xs) ∙ ap (drop (k - j)) e ∙ drop-drop (k - j) j ys)

  pub stays : (out : List Entry) (n : ℕ) (T T' : List (ℕ × Row K)) → n ≤ length out → T ≡ T' → Goes out n T out n T'
  stays out n T T' h e =
      let none : 0 ≡ n - n = omega arith in
      record { low = omega arith; within = h; long = refl; cut = ap (λ t. take n out ++ P t) (sym e); rest = sym e ∙ ap (λ k. drop k T) none; beyond = refl }

  pub and_on : {out₀ out₁ out₂ : List Entry} {n₀ n₁ n₂ : ℕ} {T₀ T₁ T₂ : List (ℕ × Row K)} → Goes out₀ n₀ T₀ out₁ n₁ T₁ → Goes out₁ n₁ T₁ out₂ n₂ T₂ → Goes out₀ n₀ T₀ out₂ n₂ T₂
  and_on {out₀} {out₁} {out₂} {n₀} {n₁} {n₂} {T₀} {T₁} {T₂} a b =
      let sum : (n₁ - n₀) + (n₂ - n₁) ≡ n₂ - n₀ = omega (arith, a.low, b.low) in
      record {
        low = omega (arith, a.low, b.low);
        within = b.within;
        long = b.long ∙ a.long;
        cut = b.cut ∙ a.cut;
        rest = b.rest ∙ ap (drop (n₂ - n₁)) a.rest ∙ drop-drop (n₂ - n₁) (n₁ - n₀) T₀ ∙ ap (λ k. drop k T₀) sum;
        beyond = b.beyond ∙ further n₁ n₂ out₁ out₀ b.low a.beyond;
      }

  pub took : (out : List Entry) (n : ℕ) (p : ℕ × Row K) (e : Entry) (T T' : List (ℕ × Row K)) → n < length out → T ≡ p ∷ T' → P (p ∷ T') ≡ e ∷ P T' → Goes out n T (set out n e) (n + 1) T'
  took out n p e T T' h is made =
      let one : 1 ≡ (n + 1) - n = omega arith in
      record {
        low = omega arith;
        within = simp length-set (omega arith);
        long = length-set out n e;
        cut = ap (λ l. l ++ P T') (take_more_set out n e h) ∙ append_assoc (take n out) (e ∷ []) (P T') ∙ ap (λ l. take n out ++ l) (sym made) ∙ ap (λ t. take n out ++ P t) (sym is);
        rest = ap (drop 1) (sym is) ∙ ap (λ k. drop k T) one;
        beyond = drop-set-lt (n + 1) out n e (omega arith);
      }

-- what the scan from the start of `out` has written
module _ {K : Type 0} (kind : Kind) (at : StreamedRow) (place : ℕ) (reading : Reading) where
  abbrev pub pairs : List (ℕ × Row K) → List Entry
  pairs l = pairs_with kind at place reading l

  length_pairs : (l : List (ℕ × Row K)) → length (pairs l) ≡ length l
  length_pairs [] = refl
  length_pairs (p ∷ l) = ap suc (length_pairs l)

  pairs_append : (l m : List (ℕ × Row K)) → pairs (l ++ m) ≡ pairs l ++ pairs m
  pairs_append [] m = refl
  pairs_append (p ∷ l) m = ap (λ t. pair_entry kind at place reading p ∷ t) (pairs_append l m)

  module _ (out₀ out : List Entry) (n : ℕ) (T₀ T : List (ℕ × Row K)) (goes : Goes pairs out₀ 0 T₀ out n T) where
    left_of_run : T ≡ drop n T₀
    left_of_run = let all : n - 0 ≡ n = omega arith in goes.rest ∙ ap (λ k. drop k T₀) all

    pub scan_left : T ≡ drop n T₀
    scan_left = left_of_run

    written : take n out ≡ pairs (take n T₀)
    written = append_cancel_right (take n out) (pairs (take n T₀)) (pairs T)
        (goes.cut ∙ ap pairs (sym (take-append-drop n T₀)) ∙ pairs_append (take n T₀) (drop n T₀) ∙ ap (λ t. pairs (take n T₀) ++ pairs t) (sym left_of_run))

    pub scan_written : out ≡ pairs (take n T₀) ++ drop n out₀
    scan_written = sym (take-append-drop n out) ∙ ap (λ l. l ++ drop n out) written ∙ ap (λ l. pairs (take n T₀) ++ l) goes.beyond

    few : n ≤ length T₀
    few =
        let a : length (take n out) ≡ n = length-take-le n out goes.within in
        let b : length (pairs (take n T₀)) ≡ length (take n T₀) = length_pairs (take n T₀) in
        let c : length (take n T₀) ≡ min n (length T₀) = length-take n T₀ in
        let e : length (take n out) ≡ length (pairs (take n T₀)) = ap length written in
        omega arith

    pub scan_count : (n ≡ length out₀) ⊎ (T ≡ []) → n ≡ min (length T₀) (length out₀)
    scan_count (inl e) = let f = few in omega arith
    scan_count (inr e) =
        let f = few in
        let w : n ≤ length out = goes.within in
        let l : length out ≡ length out₀ = goes.long in
        let z : length (drop n T₀) ≡ 0 = ap length (sym left_of_run ∙ e) in
        let d : length (drop n T₀) ≡ length T₀ - n = length-drop n T₀ in
        omega arith
