-- What the laws of the comparisons say of sorted logs.
use Rattle.std.proofs.Common.{◌≡◌, ℕ, zero, suc, ◌+◌, ◌≤◌, Bool, true, false, cond, List, [], ◌∷◌, Ordering, Less, Equal, Greater, refl, ap, arith}
use Rattle.std.specs.List.{AllByRecursion}
use Rattle.std.proofs.ByRecursion.{All-weaker}
use Rattle.rows.specs.Order.{Laws, rank, turned, is_same}
use Rattle.merge.specs.Runs.{Sorted, more_of_run, past_run}

turned_rank : (o : Ordering) → rank (turned o) + rank o ≡ 2
turned_rank Less = refl
turned_rank Equal = refl
turned_rank Greater = refl

same_rank : (o : Ordering) → is_same o ≡ true → rank o ≡ 1
same_rank Less e = cc
same_rank Equal e = refl
same_rank Greater e = cc

not_same_rank : (o : Ordering) → is_same o ≡ false → rank o ≤ 1 → rank o ≡ 0
not_same_rank Less e h = refl
not_same_rank Equal e h = cc
not_same_rank Greater e h = omega arith

module _ {X : Type 0} (within across : X → X → Ordering) (laws : Laws within across) where
  pub sums : (a b : X) → rank (within b a) + rank (within a b) ≡ 2
  sums a b = rw (laws.turns_round a b) (turned_rank (within a b))

  -- y, then z strictly after it
  before_left : (a b c : X) → rank (within a b) ≤ 1 → rank (within b c) ≡ 0 → rank (within a c) ≡ 0
  before_left a b c h e = go (rank (within a c)) refl
    where
      go : (n : ℕ) → rank (within a c) ≡ n → rank (within a c) ≡ 0
      go zero q = q
      go (suc n) q = omega (arith, sums a c, sums b c, laws.passes_on c a b (omega (arith, sums a c)) h)

  before_right : (a b c : X) → rank (within a b) ≡ 0 → rank (within b c) ≤ 1 → rank (within a c) ≡ 0
  before_right a b c e h = go (rank (within a c)) refl
    where
      go : (n : ℕ) → rank (within a c) ≡ n → rank (within a c) ≡ 0
      go zero q = q
      go (suc n) q = omega (arith, sums a c, sums a b, laws.passes_on b c a h (omega (arith, sums a c)))

  -- the first row of a sorted log is after none
  pub first_leads : (x : X) (l : List X) → Sorted within (x ∷ l) → AllByRecursion (λ z. rank (within x z) ≤ 1) l
  first_leads x [] h = tt
  first_leads x (y ∷ l) h = (h.0, All-weaker _ _ (λ z k. laws.passes_on x y z h.0 k) l (first_leads y l h.1))

  -- what comes past a run is strictly after its first row
  pub past_is_after : (y : X) (b : List X) → Sorted within (y ∷ b) → AllByRecursion (λ z. rank (within y z) ≡ 0) (past_run within y b)
  past_is_after y [] h = tt
  past_is_after y (z ∷ b) h = go (is_same (within y z)) refl (past_is_after z b h.1)
    where
      go : (t : Bool) → is_same (within y z) ≡ t → AllByRecursion (λ w. rank (within z w) ≡ 0) (past_run within z b) → AllByRecursion (λ w. rank (within y w) ≡ 0) (cond t (past_run within z b) (z ∷ b))
      go true e r = All-weaker _ _ (λ w k. before_left y z w h.0 k) (past_run within z b) r
      go false e r = let q = not_same_rank (within y z) e h.0 in (q, All-weaker _ _ (λ w k. before_right y z w q k) b (first_leads z b h.1))

  -- the rows of a run are not after its first row
  pub run_is_level : (y : X) (b : List X) → AllByRecursion (λ z. rank (within z y) ≤ 1) (more_of_run within y b)
  run_is_level y [] = tt
  run_is_level y (z ∷ b) = go (is_same (within y z)) refl (run_is_level z b)
    where
      go : (t : Bool) → is_same (within y z) ≡ t → AllByRecursion (λ w. rank (within w z) ≤ 1) (more_of_run within z b) → AllByRecursion (λ w. rank (within w y) ≤ 1) (cond t (z ∷ more_of_run within z b) [])
      go true e r =
          let q : rank (within z y) ≤ 1 = omega (arith, sums y z, same_rank (within y z) e) in
          (q, All-weaker _ _ (λ w k. laws.passes_on w z y k q) (more_of_run within z b) r)
      go false e r = tt

  -- nor is its first row after them
  pub run_is_level' : (y : X) (b : List X) → AllByRecursion (λ z. rank (within y z) ≤ 1) (more_of_run within y b)
  run_is_level' y [] = tt
  run_is_level' y (z ∷ b) = go (is_same (within y z)) refl (run_is_level' z b)
    where
      go : (t : Bool) → is_same (within y z) ≡ t → AllByRecursion (λ w. rank (within z w) ≤ 1) (more_of_run within z b) → AllByRecursion (λ w. rank (within y w) ≤ 1) (cond t (z ∷ more_of_run within z b) [])
      go true e r =
          let q : rank (within y z) ≤ 1 = omega (arith, same_rank (within y z) e) in
          (q, All-weaker _ _ (λ w k. laws.passes_on y z w q k) (more_of_run within z b) r)
      go false e r = tt

  -- what is the same across as a run's first row is the same as each of its rows
  pub run_is_same : (x y : X) (b : List X) → across x y ≡ Equal → AllByRecursion (λ z. across x z ≡ Equal) (y ∷ more_of_run within y b)
  run_is_same x y b e = (
    e,
    All-weaker _ _ (λ z h. middle (across x z) (omega (arith, h, ap rank e))) (more_of_run within y b)
        (all_both (λ z. rank (across x y) ≤ rank (across x z)) (λ z. rank (across x z) ≤ rank (across x y)) (more_of_run within y b)
        (All-weaker _ _ (λ z h. laws.falls_buffered x z y h) _ (run_is_level y b)) (All-weaker _ _ (λ z h. laws.falls_buffered x y z h) _ (run_is_level' y b))),
  )
    where
      middle : (o : Ordering) → rank o ≡ 1 → o ≡ Equal
      middle Less h = absurd (omega arith)
      middle Equal h = refl
      middle Greater h = absurd (omega arith)

      all_both : (P Q : X → Type 0) (l : List X) → AllByRecursion P l → AllByRecursion Q l → AllByRecursion (λ z. P z × Q z) l
      all_both P Q [] h k = tt
      all_both P Q (z ∷ l) h k = ((h.0, k.0), all_both P Q l h.1 k.1)

  pub past_sorted : (y : X) (b : List X) → Sorted within b → Sorted within (past_run within y b)
  past_sorted y [] h = tt
  past_sorted y (z ∷ b) h = go (is_same (within y z)) (past_sorted z b h.1)
    where
      go : (t : Bool) → Sorted within (past_run within z b) → Sorted within (cond t (past_run within z b) (z ∷ b))
      go true r = r
      go false r = h
