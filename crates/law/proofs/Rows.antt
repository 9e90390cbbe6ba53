-- Runs, groups of pairs and marks, against the merge path.
use Rattle.std.proofs.Common.{◌≡◌, ℕ, zero, suc, ◌+◌, ◌≤◌, Bool, true, false, cond, not, ◌&&◌, ◌||◌, eqb, ◌⊎◌, List, [], ◌∷◌, ◌++◌, length, Some, None, Option, Ordering, Less, Equal, Greater, sym, refl, ap, ◌∙◌, inl, inr, true≢false, append_assoc, append-nil, arith}
use Rattle.std.specs.List.{AllByRecursion}
use Rattle.std.proofs.ByRecursion.{All-weaker}
use Rattle.std.proofs.lemmas.Bool.{eq-eqb}
use Rattle.rows.specs.Order.{Laws, rank, is_same, is_after}
use Rattle.merge.specs.Table.{when, meets_buffered, meets_streamed, pairs_of, lone_buffered}
use Rattle.merge.specs.Runs.{more_of_run, past_run, Sorted}
use Rattle.rows.specs.declared.record.Record.{Record}
use Rattle.rows.specs.declared.record.Record.TheVariants.{Pair, LeftAlone, RightAlone}
use Rattle.merge.proofs.Orders.{sums}
use Rattle.merge.proofs.Steps.{Shuns}
use Rattle.merge.proofs.Flags.{meets_push, meets_none}
use Rattle.law.specs.Pipe.{Entry, judged, Mark, unseen, failing, met, marked, mark_at, corrected, plain, settled, alones, places, failures}
use Rattle.law.specs.Machine.{disorder, last_of}
use Rattle.law.specs.Law.{InOrderAfter}
use Rattle.law.proofs.Totals.{shift, total}
use Rattle.law.proofs.Pipes.{Own, unseens}

-- ---- order

module _ {X : Type 0} (within across : X → X → Ordering) (laws : Laws within across) where
  same_rank : (o : Ordering) → is_same o ≡ true → rank o ≡ 1
  same_rank Less e = cc
  same_rank Equal e = refl
  same_rank Greater e = cc

  rank_same : (o : Ordering) → rank o ≡ 1 → is_same o ≡ true
  rank_same Less e = absurd (omega arith)
  rank_same Equal e = refl
  rank_same Greater e = absurd (omega arith)

  same_back : (a b : X) → is_same (within a b) ≡ true → is_same (within b a) ≡ true
  same_back a b e = rank_same _ (omega (arith, same_rank _ e, sums within across laws a b))

  same_on : (a b d : X) → is_same (within a b) ≡ true → is_same (within b d) ≡ true → is_same (within a d) ≡ true
  same_on a b d e f =
      let p = same_rank _ e in
      let q = same_rank _ f in
      let p' = same_rank _ (same_back a b e) in
      let q' = same_rank _ (same_back b d f) in
      rank_same _ (omega (arith, laws.passes_on a b d (omega arith) (omega arith), laws.passes_on d b a (omega arith) (omega arith), sums within across laws a d))

  same_between : (a b d : X) (t : Bool) → is_same (within a b) ≡ true → is_same (within a d) ≡ t → is_same (within b d) ≡ t
  same_between a b d true e f = same_on b a d (same_back a b e) f
  same_between a b d false e f = go (is_same (within b d)) refl
    where
      go : (t : Bool) → is_same (within b d) ≡ t → is_same (within b d) ≡ false
      go true g = absurd (true≢false (sym (same_on a b d e g) ∙ f))
      go false g = g

  abbrev pub Level : X → List X → Type 0
  Level y l = AllByRecursion (λ z. is_same (within y z) ≡ true) l

  -- a run ends before a row that is not of it, and at the end
  abbrev pub Stop : X → List X → Type 0
  Stop y [] = Unit {0}
  Stop y (z ∷ l) = is_same (within y z) ≡ false

  stop_on : (y z : X) (l : List X) → is_same (within y z) ≡ true → Stop y l → Stop z l
  stop_on y z [] e h = tt
  stop_on y z (w ∷ l) e h = same_between y z w false e h

  pub run_is : (y : X) (run l : List X) → Level y run → Stop y l → (more_of_run within y (run ++ l) ≡ run) × (past_run within y (run ++ l) ≡ l)
  run_is y [] [] h s = (refl, refl)
  run_is y [] (z ∷ l) h s = rw s (refl, refl)
  run_is y (z ∷ run) l h s =
      let r = run_is z run l (All-weaker _ _ (λ w k. same_between y z w true h.0 k) run h.1) (stop_on y z l h.0 s) in
      rw h.0 (ap (λ (m : List X). z ∷ m) r.0, r.1)

-- ---- the order check

module _ {X : Type 0} (within : X → X → Ordering) where
  not_after : (o : Ordering) → is_after o ≡ false → rank o ≤ 1
  not_after Less e = omega arith
  not_after Equal e = omega arith
  not_after Greater e = absurd (true≢false e)

  in_order : (w : Option X) (l : List X) (k : ℕ) → disorder within w l k ≡ None → InOrderAfter within w l
  in_order None [] k e = tt
  in_order None (x ∷ l) k e = in_order (Some x) l (suc k) e
  in_order (Some w) [] k e = (tt, tt)
  in_order (Some w) (x ∷ l) k e = go (is_after (within w x)) refl e (in_order (Some x) l (suc k))
    where
      go : (t : Bool) → is_after (within w x) ≡ t → cond t (Some k) (disorder within (Some x) l (suc k)) ≡ None → (disorder within (Some x) l (suc k) ≡ None → InOrderAfter within (Some x) l) → InOrderAfter within (Some w) (x ∷ l)
      go true a q r = cc
      go false a q r = (not_after (within w x) a, r q)

  -- what may follow makes a sorted log with what was read
  follows_on : (x : X) (s l : List X) → Sorted within (x ∷ s) → InOrderAfter within (last_of (Some x) s) l → Sorted within (x ∷ (s ++ l))
  follows_on x [] l h g = g
  follows_on x (y ∷ s) l h g = (h.0, follows_on y s l h.1 g)

  pub sorted_on : (s l : List X) → Sorted within s → InOrderAfter within (last_of None s) l → Sorted within (s ++ l)
  sorted_on [] l h g = g
  sorted_on (x ∷ s) l h g = follows_on x s l h g

  pub last_append : (w : Option X) (s l : List X) → last_of w (s ++ l) ≡ last_of (last_of w s) l
  last_append w [] l = refl
  last_append w (x ∷ s) l = last_append (Some x) s l

  pub checked : (w : Option X) (s l : List X) (k : ℕ) → Sorted within s → last_of None s ≡ w → disorder within w l k ≡ None → Sorted within (s ++ l) × (last_of None (s ++ l) ≡ last_of w l)
  checked w s l k h e d = (sorted_on s l h (rw e (in_order w l k d)), last_append None s l ∙ ap (λ (o : Option X). last_of o l) e)

-- ---- the pairs of one row

module _ {X : Type 0} (passes : X → X → Bool) where
  abbrev pub group_of : ℕ → X → ℕ → List X → List Entry
  group_of i x j [] = []
  group_of i x j (y ∷ l) = judged i j (passes x y) ∷ group_of i x (suc j) l

  pub group_push : (i : ℕ) (x : X) (j : ℕ) (l : List X) (y : X) → group_of i x j (l ++ y ∷ []) ≡ group_of i x j l ++ judged i (j + length l) (passes x y) ∷ []
  group_push i x j [] y = ap (λ (k : ℕ). judged i k (passes x y) ∷ []) (omega arith)
  group_push i x j (z ∷ l) y = ap (λ (m : List Entry). judged i j (passes x z) ∷ m) (group_push i x (suc j) l y ∙ ap (λ (k : ℕ). group_of i x (suc j) l ++ judged i k (passes x y) ∷ []) (omega arith))

  pub own_group : (i : ℕ) (x : X) (j : ℕ) (l : List X) → AllByRecursion (Own i) (group_of i x j l)
  own_group i x j [] = tt
  own_group i x j (y ∷ l) = ((omega arith, omega arith), own_group i x (suc j) l)

  pub plain_group : (i : ℕ) (x : X) (j : ℕ) (l : List X) → plain (group_of i x j l) ≡ pairs_of passes i x j l
  plain_group i x j [] = refl
  plain_group i x j (y ∷ l) = ap (λ (m : List Record). when (passes x y) (Pair i j ∷ []) ++ m) (plain_group i x (suc j) l)

  corrected_group : (seen : Bool) (i : ℕ) (x : X) (j : ℕ) (y : X) (l : List X)
      → corrected seen (group_of i x j (y ∷ l)) ≡ pairs_of passes i x j (y ∷ l) ++ when (not (seen || meets_buffered passes x (y ∷ l))) (LeftAlone i ∷ [])
  corrected_group seen i x j y [] = go (passes x y) seen
    where
      go : (t seen : Bool) → corrected seen (judged i j t ∷ []) ≡ (when t (Pair i j ∷ []) ++ []) ++ when (not (seen || (t || false))) (LeftAlone i ∷ [])
      go true true = refl
      go true false = refl
      go false true = refl
      go false false = refl
  corrected_group seen i x j y (z ∷ l) = go (passes x y) seen (eqb i i) (eq-eqb i i refl) (corrected_group true i x (suc j) z l) (corrected_group seen i x (suc j) z l)
    where
      go : (t seen u : Bool) → u ≡ true
          → corrected true (group_of i x (suc j) (z ∷ l)) ≡ pairs_of passes i x (suc j) (z ∷ l) ++ when (not (true || meets_buffered passes x (z ∷ l))) (LeftAlone i ∷ [])
          → corrected seen (group_of i x (suc j) (z ∷ l)) ≡ pairs_of passes i x (suc j) (z ∷ l) ++ when (not (seen || meets_buffered passes x (z ∷ l))) (LeftAlone i ∷ [])
          → corrected seen (judged i j t ∷ group_of i x (suc j) (z ∷ l)) ≡ (when t (Pair i j ∷ []) ++ pairs_of passes i x (suc j) (z ∷ l)) ++ when (not (seen || (t || meets_buffered passes x (z ∷ l)))) (LeftAlone i ∷ [])
      go true true u e p q = rw (eq-eqb i i refl) (ap (λ (m : List Record). Pair i j ∷ m) p)
      go true false u e p q = rw (eq-eqb i i refl) (ap (λ (m : List Record). Pair i j ∷ m) p)
      go false true u e p q = rw (eq-eqb i i refl) q
      go false false u e p q = rw (eq-eqb i i refl) q

  -- what the row's pairs come to
  pub settled_group : (d keeps : Bool) (i : ℕ) (x : X) (j : ℕ) (y : X) (l : List X) → ((d ≡ true) × (keeps ≡ true)) ⊎ ((d ≡ false) × ((keeps ≡ false) ⊎ (passes x y ≡ true)))
      → settled d (group_of i x j (y ∷ l)) ≡ pairs_of passes i x j (y ∷ l) ++ when keeps (when (not (meets_buffered passes x (y ∷ l))) (LeftAlone i ∷ []))
  settled_group d keeps i x j y l (inl h) = rw (h.0, h.1) (corrected_group false i x j y l)
  settled_group d keeps i x j y l (inr h) = rw h.0 (plain_group i x j (y ∷ l) ∙ sym (append-nil _) ∙ ap (λ (m : List Record). pairs_of passes i x j (y ∷ l) ++ m) (none keeps h.1))
    where
      none : (k : Bool) → (k ≡ false) ⊎ (passes x y ≡ true) → [] ≡ when k (when (not (meets_buffered passes x (y ∷ l))) (LeftAlone i ∷ []))
      none true (inl e) = absurd (true≢false e)
      none true (inr e) = rw e
      none false e = refl

  -- ---- marks

  abbrev pub mark_of : Bool → List X → X → Mark
  mark_of false p y = unseen
  mark_of true p y = cond (meets_streamed passes p y) met failing

  abbrev pub standing : Bool → List X → List X → List Mark
  standing m p [] = []
  standing m p (y ∷ l) = mark_of m p y ∷ standing m p l

  pub length_standing : (m : Bool) (p l : List X) → length (standing m p l) ≡ length l
  length_standing m p [] = refl
  length_standing m p (y ∷ l) = ap suc (length_standing m p l)

  pub standing_append : (m : Bool) (p a b : List X) → standing m p (a ++ b) ≡ standing m p a ++ standing m p b
  standing_append m p [] b = refl
  standing_append m p (y ∷ a) b = ap (λ (l : List Mark). mark_of m p y ∷ l) (standing_append m p a b)

  abbrev pub Unmet : List X → List X → Type 0
  Unmet p l = AllByRecursion (λ y. meets_streamed passes p y ≡ false) l

  pub unmet_push : (p : List X) (x : X) (l : List X) → Unmet p l → Shuns passes x l → Unmet (p ++ x ∷ []) l
  unmet_push p x [] h s = tt
  unmet_push p x (y ∷ l) h s = (meets_push passes p x y ∙ rw (h.0, s.0), unmet_push p x l h.1 s.1)

  pub unmet_fresh : (p l : List X) → AllByRecursion (λ x. Shuns passes x l) p → Unmet p l
  unmet_fresh p [] h = tt
  unmet_fresh p (y ∷ l) h = (meets_none passes p y (All-weaker _ _ (λ x k. k.0) p h), unmet_fresh p l (All-weaker _ _ (λ x k. k.1) p h))

  pub mark_push : (m : Bool) (p : List X) (x y : X) → (m ≡ false → meets_streamed passes p y ≡ false) → marked (passes x y) (mark_of m p y) ≡ mark_of true (p ++ x ∷ []) y
  mark_push true p x y h = rw (meets_push passes p x y) (go (meets_streamed passes p y) (passes x y))
    where
      go : (t u : Bool) → marked u (cond t met failing) ≡ cond (t || u) met failing
      go true true = refl
      go true false = refl
      go false true = refl
      go false false = refl
  mark_push false p x y h = rw (meets_push passes p x y, h refl) (go (passes x y))
    where
      go : (u : Bool) → marked u unseen ≡ cond (false || u) met failing
      go true = refl
      go false = refl

  pub standing_same : (m : Bool) (p : List X) (x : X) (l : List X) → Shuns passes x l → standing m (p ++ x ∷ []) l ≡ standing m p l
  standing_same m p x [] h = refl
  standing_same false p x (y ∷ l) h = ap (λ (k : List Mark). unseen ∷ k) (standing_same false p x l h.1)
  standing_same true p x (y ∷ l) h = rw (meets_push passes p x y, h.0) (ap₂' (or_no (meets_streamed passes p y)) (standing_same true p x l h.1))
    where
      or_no : (t : Bool) → cond (t || false) met failing ≡ cond t met failing
      or_no true = refl
      or_no false = refl

      ap₂' : {a b : Mark} {k l : List Mark} → a ≡ b → k ≡ l → a ∷ k ≡ b ∷ l
      ap₂' e f = cc

  standing_failures : (p : List X) (j : ℕ) (l : List X) → failures j (standing true p l) ≡ lone_buffered passes p j l
  standing_failures p j [] = refl
  standing_failures p j (y ∷ l) = go (meets_streamed passes p y) (standing_failures p (suc j) l)
    where
      go : (t : Bool) → failures (suc j) (standing true p l) ≡ lone_buffered passes p (suc j) l → failures j (cond t met failing ∷ standing true p l) ≡ when (not t) (RightAlone j ∷ []) ++ lone_buffered passes p (suc j) l
      go true e = e
      go false e = ap (λ (m : List Record). RightAlone j ∷ m) e

  unseen_failures : (p : List X) (j : ℕ) (l : List X) → failures j (standing false p l) ≡ []
  unseen_failures p j [] = refl
  unseen_failures p j (y ∷ l) = unseen_failures p (suc j) l

  lone_places : (p : List X) (j : ℕ) (l : List X) → Unmet p l → lone_buffered passes p j l ≡ alones (places j (length l))
  lone_places p j [] h = refl
  lone_places p j (y ∷ l) h = rw h.0 (ap (λ (m : List Record). RightAlone j ∷ m) (lone_places p (suc j) l h.1))

  -- a passed run: what is noted and what has failed are its lone rows
  pub run_worth : (f : Record → ℕ) (keeps m : Bool) (p : List X) (j : ℕ) (l : List X) → (m ≡ false → Unmet p l)
      → total f (alones (when (keeps && not m) (places j (length l)))) + total f (when keeps (failures j (standing m p l))) ≡ total f (when keeps (lone_buffered passes p j l))
  run_worth f true true p j l h = omega (arith, ap (total f) (standing_failures p j l))
  run_worth f true false p j l h = omega (arith, ap (total f) (unseen_failures p j l), ap (total f) (lone_places p j l (h refl)))
  run_worth f false m p j l h = refl

module _ {X : Type 0} (passes : X → X → Bool) where
  unseen_places : (f : ℕ → ℕ) (p : List X) (j : ℕ) (l : List X) → total f (unseens j (standing passes false p l)) ≡ total f (places j (length l))
  unseen_places f p j [] = refl
  unseen_places f p j (y ∷ l) = ap (λ (n : ℕ). f j + n) (unseen_places f p (suc j) l)

  -- the rows noted of a passed run are rows not paired
  pub noted_unseen : (f : ℕ → ℕ) (keeps m : Bool) (p : List X) (j : ℕ) (l : List X) → total f (when (keeps && not m) (places j (length l))) ≤ total f (unseens j (standing passes m p l))
  noted_unseen f true true p j l = omega arith
  noted_unseen f true false p j l = omega (arith, unseen_places f p j l)
  noted_unseen f false m p j l = omega arith

pub mark_middle : (n : ℕ) (v : Bool) (a : List Mark) (m : Mark) (b : List Mark) → length a ≡ n → mark_at n v (a ++ m ∷ b) ≡ a ++ marked v m ∷ b
mark_middle zero v [] m b e = refl
mark_middle (suc n) v [] m b e = absurd (omega arith)
mark_middle zero v (k ∷ a) m b e = absurd (omega arith)
mark_middle (suc n) v (k ∷ a) m b e = ap (λ (l : List Mark). k ∷ l) (mark_middle n v a m b (omega arith))

pub pairs_append : {X : Type 0} (passes : X → X → Bool) (i : ℕ) (x : X) (j : ℕ) (a b : List X) → pairs_of passes i x j (a ++ b) ≡ pairs_of passes i x j a ++ pairs_of passes i x (j + length a) b
pairs_append passes i x j [] b = ap (λ (k : ℕ). pairs_of passes i x k b) (omega arith)
pairs_append passes i x j (y ∷ a) b = ap (λ (l : List Record). when (passes x y) (Pair i j ∷ []) ++ l) (pairs_append passes i x (suc j) a b ∙ ap (λ (k : ℕ). pairs_of passes i x (suc j) a ++ pairs_of passes i x k b) (shift j (length a))) ∙ sym (append_assoc (when (passes x y) (Pair i j ∷ [])) _ _)
