-- Turns that the rows read decide are the same turns however the logs go on.
use Rattle.std.proofs.Common.{◌≡◌, ℕ, zero, suc, Bool, true, false, cond, ◌||◌, ◌⊎◌, List, [], ◌∷◌, ◌++◌, Ordering, Less, Equal, Greater, refl, ap, inl, inr, append-nil}
use mathlib.Core.Bool.{false≢true}
use Rattle.std.proofs.lemmas.Bool.{and_parts, or_cases}
use Rattle.rows.specs.Order.{is_same}
use Rattle.merge.specs.Runs.{past_run, more_of_run}
use Rattle.merge.specs.Path.{State, at, Turn, pass_run, turn, path}
use Rattle.merge.specs.Decided.{extended, is_some, is_before, Follows, complete, decided, AllDecided}
use Rattle.rows.specs.declared.record.Record.{Record}

-- a run that another one follows stays as it is
abbrev pub Stays : {X : Type 0} (within : X → X → Ordering) → X → List X → List X → Type 0
Stays within y b b' = (more_of_run within y (b ++ b') ≡ more_of_run within y b) × (past_run within y (b ++ b') ≡ past_run within y b ++ b')

pub run_stays : {X : Type 0} (within : X → X → Ordering) (y : X) (b b' : List X) → is_some (past_run within y b) ≡ true → Stays within y b b'
run_stays within y [] b' h = absurd (false≢true h)
run_stays {X} within y (z ∷ b) b' h = go (is_same (within y z)) (run_stays within z b b') h
  where
    go : (t : Bool) → (is_some (past_run within z b) ≡ true → Stays within z b b') → is_some (cond t (past_run within z b) (z ∷ b)) ≡ true
        → (cond t (z ∷ more_of_run within z (b ++ b')) [] ≡ cond t (z ∷ more_of_run within z b) []) × (cond t (past_run within z (b ++ b')) (z ∷ (b ++ b')) ≡ cond t (past_run within z b) (z ∷ b) ++ b')
    go true r k = (ap (λ (l : List X). z ∷ l) (r k).0, (r k).1)
    go false r k = (refl, refl)

module _ {X : Type 0} (within across : X → X → Ordering) (ended_streamed ended_buffered : Bool) (passes : X → X → Bool) (keeps_streamed keeps_buffered : Bool) (s' b' : List X) (follows_streamed : Follows ended_streamed s') (follows_buffered : Follows ended_buffered b') where
  pub complete_stays : (y : X) (b : List X) → complete within across ended_streamed ended_buffered y b ≡ true → Stays within y b b'
  complete_stays y b h = go (or_cases ended_buffered (is_some (past_run within y b)) h)
    where
      go : (ended_buffered ≡ true) ⊎ (is_some (past_run within y b) ≡ true) → Stays within y b b'
      go (inl e) = rw (follows_buffered e, append-nil b, append-nil (past_run within y b)) (refl, refl)
      go (inr e) = run_stays within y b b' e

  -- a turn, with the rows that follow
  abbrev pub with_more : Turn X → Turn X
  with_more u = record { passed = u.passed; gives = u.gives; next = extended u.next s' b' }

  abbrev takes : State X → Turn X
  takes = turn within across passes keeps_streamed keeps_buffered

  run_alike : (p : List X) (i : ℕ) (s : List X) (j : ℕ) (y : X) (b : List X) → complete within across ended_streamed ended_buffered y b ≡ true
      → pass_run within across passes keeps_streamed keeps_buffered p i (s ++ s') j y (b ++ b') ≡ with_more (pass_run within across passes keeps_streamed keeps_buffered p i s j y b)
  run_alike p i s j y b h = let e = complete_stays y b h in rw (e.0, e.1)

  pub turn_alike : (t : State X) → decided within across ended_streamed ended_buffered t ≡ true → takes (extended t s' b') ≡ with_more (takes t)
  turn_alike (at p i [] j []) h = let e = and_parts ended_streamed ended_buffered h in rw (follows_streamed e.0, follows_buffered e.1)
  turn_alike (at p i [] j (y ∷ b)) h = let e = and_parts ended_streamed (complete within across ended_streamed ended_buffered y b) h in rw (follows_streamed e.0, (complete_stays y b e.1).0, (complete_stays y b e.1).1)
  turn_alike (at p i (x ∷ s) j []) h = rw (follows_buffered h)
  turn_alike (at p i (x ∷ s) j (y ∷ b)) h = go (across x y) refl h
    where
      go : (o : Ordering) → across x y ≡ o → (is_before o || complete within across ended_streamed ended_buffered y b) ≡ true → takes (at p i (x ∷ (s ++ s')) j (y ∷ (b ++ b'))) ≡ with_more (takes (at p i (x ∷ s) j (y ∷ b)))
      go Less e k = rw e
      go Equal e k = rw (e, (complete_stays y b k).0)
      go Greater e k = rw e (run_alike p i (x ∷ s) j y b k)

  pub path_alike : (n : ℕ) (t : State X) → AllDecided within across ended_streamed ended_buffered passes keeps_streamed keeps_buffered n t
      → path within across passes keeps_streamed keeps_buffered n (extended t s' b') ≡ path within across passes keeps_streamed keeps_buffered n t
  path_alike zero t h = refl
  path_alike (suc n) t h = rw (turn_alike t h.0) (ap (λ (l : List Record). (takes t).gives ++ l) (path_alike n (takes t).next h.1))
