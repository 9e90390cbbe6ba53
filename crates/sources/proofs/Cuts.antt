-- Rows cut every n rows.
use Rattle.std.proofs.Common.{◌≡◌, ℕ, zero, suc, ◌+◌, ◌<◌, ◌≤◌, min, max, List, [], ◌∷◌, ◌++◌, length, take, drop, Some, Option, Ok, Result, sym, refl, ap, ◌∙◌, arith, length-drop, length-take}
use Rattle.std.specs.List.{flat_map}
use Rattle.std.proofs.lemmas.List.{take-append-drop, length-append, take_at, drop_at, take_min, drop_min}
use Rattle.sources.specs.declared.fault.SourceFault.{SourceFault}
use Rattle.sources.specs.Meaning.{upcoming}
use Rattle.sources.specs.Memory.{first_cut, cut, Filled, CutEvery}

-- in two lists of batches of the same rows the first batches are equally long
as_long : (n a b x y : ℕ) → a ≤ n → b ≤ n → (0 < x → a ≡ n) → (0 < y → b ≡ n) → a + x ≡ b + y → a ≡ b
as_long n a b zero zero p q f g e = omega arith
as_long n a b zero (suc y) p q f g e = let k = g (omega arith) in omega arith
as_long n a b (suc x) zero p q f g e = let k = f (omega arith) in omega arith
as_long n a b (suc x) (suc y) p q f g e = f (omega arith) ∙ sym (g (omega arith))

module _ {A : Type 0} where
  -- it does not matter how many batches are asked for, if they suffice
  enough : (m k n : ℕ) (rows : List A) → 1 ≤ n → length rows ≤ m → length rows ≤ k → first_cut m n rows ≡ first_cut k n rows
  enough zero zero n rows p h g = refl
  enough zero (suc k) n [] p h g = refl
  enough zero (suc k) n (row ∷ rows) p h g = absurd (omega arith)
  enough (suc m) zero n [] p h g = refl
  enough (suc m) zero n (row ∷ rows) p h g = absurd (omega arith)
  enough (suc m) (suc k) n [] p h g = refl
  enough (suc m) (suc k) n (row ∷ rows) p h g =
      let l = length-drop n (row ∷ rows) in
      ap (λ left. take n (row ∷ rows) ∷ left) (enough m k n (drop n (row ∷ rows)) p (omega arith) (omega arith))

  cut_more : (every : ℕ) (rows : List A) → 0 < length rows → cut every rows ≡ take (max every 1) rows ∷ cut every (drop (max every 1) rows)
  cut_more every [] h = absurd (omega arith)
  cut_more every (row ∷ rows) h =
      let l = length-drop (max every 1) (row ∷ rows) in
      ap (λ left. take (max every 1) (row ∷ rows) ∷ left)
      (enough (length rows) (length (drop (max every 1) (row ∷ rows))) (max every 1) (drop (max every 1) (row ∷ rows)) (omega arith) (omega arith) (omega arith))

  whole : (m n : ℕ) (rows : List A) → 1 ≤ n → length rows ≤ m → flat_map (λ batch. batch) (first_cut m n rows) ≡ rows
  whole zero n [] p h = refl
  whole zero n (row ∷ rows) p h = absurd (omega arith)
  whole (suc m) n [] p h = refl
  whole (suc m) n (row ∷ rows) p h =
      let l = length-drop n (row ∷ rows) in
      ap (λ left. take n (row ∷ rows) ++ left) (whole m n (drop n (row ∷ rows)) p (omega arith)) ∙ take-append-drop n (row ∷ rows)

  some : (m n : ℕ) (rows : List A) → 0 < length (first_cut m n rows) → 0 < length rows
  some zero n rows h = absurd (omega arith)
  some (suc m) n [] h = absurd (omega arith)
  some (suc m) n (row ∷ rows) h = omega arith

  filled_more : (n : ℕ) (batch : List A) (left : List (List A)) → 1 ≤ length batch → length batch ≤ n → (0 < length left → length batch ≡ n) → Filled n left → Filled n (batch ∷ left)
  filled_more n batch [] one most full rest = (one, most)
  filled_more n batch (next ∷ left) one most full rest = (full (omega arith), rest)

  filled : (m n : ℕ) (rows : List A) → 1 ≤ n → Filled n (first_cut m n rows)
  filled zero n rows p = tt
  filled (suc m) n [] p = tt
  filled (suc m) n (row ∷ rows) p =
      let t = length-take n (row ∷ rows) in
      let d = length-drop n (row ∷ rows) in
      filled_more n _ _ (omega arith) (omega arith) (λ h. let k = some m n (drop n (row ∷ rows)) h in omega arith) (filled m n (drop n (row ∷ rows)) p)

  pub cuts_every : (every : ℕ) (rows : List A) → CutEvery every rows (cut every rows)
  cuts_every every rows =
      record { whole = whole (length rows) (max every 1) rows (omega arith) (omega arith); filled = filled (length rows) (max every 1) rows (omega arith) }

  record Begun (n : ℕ) (batch : List A) (left : List (List A)) : Type 0 where
    pub one : 1 ≤ length batch
    pub most : length batch ≤ n
    pub full : 0 < length (flat_map (λ b. b) left) → length batch ≡ n
    pub rest : Filled n left

  begun : (n : ℕ) (batch : List A) (left : List (List A)) → 1 ≤ n → Filled n (batch ∷ left) → Begun n batch left
  begun n batch [] p f = record { one = f.0; most = f.1; full = λ h. absurd (omega arith); rest = tt }
  begun n batch (next ∷ left) p f = record { one = omega arith; most = omega arith; full = λ h. f.0; rest = f.1 }

  only : (n : ℕ) (these those : List (List A)) → 1 ≤ n → Filled n these → Filled n those → flat_map (λ b. b) these ≡ flat_map (λ b. b) those → these ≡ those
  only n [] [] p f g e = refl
  only n [] (b ∷ bs) p f g e = let m = begun n b bs p g in let l = ap length e ∙ length-append b (flat_map (λ b. b) bs) in absurd (omega arith)
  only n (a ∷ later) [] p f g e = let k = begun n a later p f in let l = ap length (sym e) ∙ length-append a (flat_map (λ b. b) later) in absurd (omega arith)
  only n (a ∷ later) (b ∷ bs) p f g e =
      let x = flat_map (λ b. b) later in
      let y = flat_map (λ b. b) bs in
      let k = begun n a later p f in
      let m = begun n b bs p g in
      let l : length a + length x ≡ length b + length y = sym (length-append a x) ∙ ap length e ∙ length-append b y in
      let same = as_long n (length a) (length b) (length x) (length y) k.most m.most k.full m.full l in
      let first : a ≡ b = sym (take_at a x (length a) refl) ∙ ap (take (length a)) e ∙ take_at b y (length a) (sym same) in
      let left : x ≡ y = sym (drop_at a x (length a) refl) ∙ ap (drop (length a)) e ∙ drop_at b y (length a) (sym same) in
      ap (λ batch. batch ∷ later) first ∙ ap (λ l. b ∷ l) (only n later bs p k.rest m.rest left)

  -- no other batches are the rows cut so
  pub cuts_only : (every : ℕ) (rows : List A) (other : List (List A)) → CutEvery every rows other → other ≡ cut every rows
  cuts_only every rows other o =
      let c = cuts_every every rows in
      only (max every 1) other (cut every rows) (omega arith) o.filled c.filled (o.whole ∙ sym c.whole)

  -- the size of the next batch
  pub coming : (every : ℕ) (rows : List A) (n : ℕ) → 0 < length rows → n ≡ min (length rows) (max every 1) → Ok (Some n) ≡ upcoming (cut every rows) (Ok tt)
  coming every rows n h e =
      rw (cut_more every rows h) (ap (λ k. let r : Result (Option ℕ) SourceFault = Ok (Some k) in r) (let t = length-take (max every 1) rows in omega arith))

  -- what the next batch is, where it has n rows
  pub record First (every : ℕ) (rows : List A) (n : ℕ) : Type 0 where
    pub cuts : cut every rows ≡ take n rows ∷ cut every (drop n rows)
    pub within : n ≤ length rows

  pub first : (every : ℕ) (rows : List A) (n : ℕ) → Ok (Some n) ≡ upcoming (cut every rows) (Ok tt) → First every rows n
  first every [] n e = absurd (let z : ◌≡◌ {A = ℕ} 0 1 = cc in omega arith)
  first every (row ∷ rows) n e =
      let m = max every 1 in
      let h : 0 < length (row ∷ rows) = omega arith in
      let q : n ≡ length (take m (row ∷ rows)) = cc in
      let t = length-take m (row ∷ rows) in
      record {
        cuts = rw (q, t, take_min m (row ∷ rows), drop_min m (row ∷ rows)) (cut_more every (row ∷ rows) h);
        within = omega arith;
      }
