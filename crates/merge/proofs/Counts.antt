-- How many turns there are, and that the path ends.
use Rattle.std.proofs.Common.{◌≡◌, ℕ, zero, suc, ◌+◌, ◌<◌, ◌≤◌, Bool, true, false, cond, List, [], ◌∷◌, length, Ordering, Equal, refl, append-nil, arith}
use mathlib.Core.List.{Permᴰ}
use Rattle.rows.specs.Order.{Laws, is_same, is_after}
use Rattle.merge.specs.Runs.{past_run, runs_from, runs}
use Rattle.merge.specs.Path.{State, at, to_come, Ordered, Turn, Move, none, row, run, pass_row, pass_run, turn, path, after, tally, one_turn, one_row, one_run, left_streamed, left_buffered}
use Rattle.merge.proofs.Steps.{path_keeps}

runs_past : {X : Type 0} (within : X → X → Ordering) (y : X) (b : List X) → runs_from within y b ≡ suc (runs within (past_run within y b))
runs_past within y [] = refl
runs_past within y (z ∷ b) = go (is_same (within y z)) (runs_past within z b)
  where
    go : (t : Bool) → runs_from within z b ≡ suc (runs within (past_run within z b)) → cond t (runs_from within z b) (suc (runs_from within z b)) ≡ suc (runs within (cond t (past_run within z b) (z ∷ b)))
    go true e = e
    go false e = refl

pub runs_none : {X : Type 0} (within : X → X → Ordering) (b : List X) → runs within b ≡ 0 → b ≡ []
runs_none within [] e = refl
runs_none within (y ∷ b) e = absurd (omega (arith, runs_past within y b))

module _ {X : Type 0} (within across : X → X → Ordering) (passes : X → X → Bool) (keeps_streamed keeps_buffered : Bool) where
  -- the rows and the runs left
  abbrev pub left : State X → ℕ
  left t = length (left_streamed t) + runs within (left_buffered t)

  -- what one turn passes is what is left less
  abbrev Counts : State X → Turn X → Type 0
  Counts t u = (one_row u.passed + length (left_streamed u.next) ≡ length (left_streamed t)) × (one_run u.passed + runs within (left_buffered u.next) ≡ runs within (left_buffered t)) × (0 < left t → one_turn u.passed ≡ 1)

  counts_row : (p : List X) (i : ℕ) (x : X) (s : List X) (j : ℕ) (b : List X) → Counts (at p i (x ∷ s) j b) (pass_row within across passes keeps_streamed keeps_buffered p i x s j b)
  counts_row p i x s j b = (omega arith, omega arith, λ h. refl)

  counts_run : (p : List X) (i : ℕ) (s : List X) (j : ℕ) (y : X) (b : List X) → Counts (at p i s j (y ∷ b)) (pass_run within across passes keeps_streamed keeps_buffered p i s j y b)
  counts_run p i s j y b = (omega arith, omega (arith, runs_past within y b), λ h. refl)

  counts : (t : State X) → Counts t (turn within across passes keeps_streamed keeps_buffered t)
  counts (at p i [] j []) = (omega arith, omega arith, λ h. omega arith)
  counts (at p i [] j (y ∷ b)) = counts_run p i [] j y b
  counts (at p i (x ∷ s) j []) = counts_row p i x s j []
  counts (at p i (x ∷ s) j (y ∷ b)) = go (is_after (across x y))
    where
      go : (t : Bool) → Counts (at p i (x ∷ s) j (y ∷ b)) (cond t (pass_run within across passes keeps_streamed keeps_buffered p i (x ∷ s) j y b) (pass_row within across passes keeps_streamed keeps_buffered p i x s j (y ∷ b)))
      go true = counts_run p i (x ∷ s) j y b
      go false = counts_row p i x s j (y ∷ b)

  both : (m : Move) → one_turn m ≡ one_row m + one_run m
  both none = refl
  both row = refl
  both run = refl

  -- in one equation
  pub turn_counts : (t : State X) → one_turn (turn within across passes keeps_streamed keeps_buffered t).passed + left (turn within across passes keeps_streamed keeps_buffered t).next ≡ left t
  turn_counts t = omega (arith, (counts t).0, (counts t).1, both (turn within across passes keeps_streamed keeps_buffered t).passed)

  abbrev counted : (Move → ℕ) → ℕ → State X → ℕ
  counted = tally within across passes keeps_streamed keeps_buffered

  abbrev then : ℕ → State X → State X
  then = after within across passes keeps_streamed keeps_buffered

  pub turns_are : (n : ℕ) (t : State X) → counted one_turn n t ≡ counted one_row n t + counted one_run n t
  turns_are zero t = refl
  turns_are (suc n) t = omega (arith, both (turn within across passes keeps_streamed keeps_buffered t).passed, turns_are n (turn within across passes keeps_streamed keeps_buffered t).next)

  pub rows_are : (n : ℕ) (t : State X) → counted one_row n t + length (left_streamed (then n t)) ≡ length (left_streamed t)
  rows_are zero t = omega arith
  rows_are (suc n) t = omega (arith, (counts t).0, rows_are n (turn within across passes keeps_streamed keeps_buffered t).next)

  pub runs_are : (n : ℕ) (t : State X) → counted one_run n t + runs within (left_buffered (then n t)) ≡ runs within (left_buffered t)
  runs_are zero t = omega arith
  runs_are (suc n) t = omega (arith, (counts t).1, runs_are n (turn within across passes keeps_streamed keeps_buffered t).next)

  -- as many turns as there are rows and runs left end the path
  pub ends : (n : ℕ) (t : State X) → left t ≤ n → left (then n t) ≡ 0
  ends zero t h = omega arith
  ends (suc n) t h = ends n (turn within across passes keeps_streamed keeps_buffered t).next (less (left t) refl)
    where
      less : (k : ℕ) → left t ≡ k → left (turn within across passes keeps_streamed keeps_buffered t).next ≤ n
      less zero e = omega (arith, (counts t).0, (counts t).1)
      less (suc k) e = omega (arith, (counts t).0, (counts t).1, both (turn within across passes keeps_streamed keeps_buffered t).passed, (counts t).2 (omega arith))

  pub nothing_to_come : (t : State X) → left t ≡ 0 → to_come passes keeps_streamed keeps_buffered t ≡ []
  nothing_to_come (at p i [] j []) e = go keeps_streamed keeps_buffered
    where
      go : (k l : Bool) → to_come passes k l (at p i [] j []) ≡ []
      go true true = refl
      go true false = refl
      go false true = refl
      go false false = refl
  nothing_to_come (at p i [] j (y ∷ b)) e = absurd (omega (arith, runs_past within y b))
  nothing_to_come (at p i (x ∷ s) j b) e = absurd (omega arith)

  -- the whole path
  pub path_finishes : Laws within across → ((x y : X) → passes x y ≡ true → across x y ≡ Equal) → (n : ℕ) (t : State X) → Ordered within t → left t ≤ n
      → Permᴰ (path within across passes keeps_streamed keeps_buffered n t) (to_come passes keeps_streamed keeps_buffered t)
  path_finishes laws only_same n t o h =
      rw append-nil at (rw (nothing_to_come (then n t) (ends n t h)) at (path_keeps within across passes laws only_same keeps_streamed keeps_buffered n t o))
