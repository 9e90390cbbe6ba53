-- Where lone buffered rows are not listed, the path contributes by rising streamed place and, for one streamed row, by rising
-- buffered place.
use Rattle.std.proofs.Common.{◌≡◌, ℕ, zero, suc, ◌≤◌, Bool, true, false, cond, not, List, [], ◌∷◌, ◌++◌, Ordering, refl, inl, inr, arith}
use Rattle.std.specs.List.{AllByRecursion}
use Rattle.std.proofs.ByRecursion.{All-weaker, All-append}
use Rattle.rows.specs.declared.record.Record.{Record}
use Rattle.rows.specs.declared.record.Record.TheVariants.{Pair, LeftAlone, RightAlone}
use Rattle.rows.specs.Order.{is_after}
use Rattle.merge.specs.Table.{when, meets_buffered, pairs_of}
use Rattle.merge.specs.Path.{State, at, Turn, matched, pass_row, pass_run, turn, path}
use Rattle.merge.specs.Sequence.{Before, InSequence}
use Rattle.merge.proofs.Listed.{all_listed, listed_none}

-- the streamed place is i
abbrev AtPlace : ℕ → Record → Type 0
AtPlace i (Pair i' j) = i' ≡ i
AtPlace i (LeftAlone i') = i' ≡ i
AtPlace i (RightAlone j) = ⊥

-- the streamed place is i or a later one
abbrev FromPlace : ℕ → Record → Type 0
FromPlace i (Pair i' j) = i ≤ i'
FromPlace i (LeftAlone i') = i ≤ i'
FromPlace i (RightAlone j) = ⊥

at_is_from : (i : ℕ) (r : Record) → AtPlace i r → FromPlace i r
at_is_from i (Pair i' j) h = omega arith
at_is_from i (LeftAlone i') h = omega arith
at_is_from i (RightAlone j) h = h

from_later : (i : ℕ) (r : Record) → FromPlace (suc i) r → FromPlace i r
from_later i (Pair i' j) h = omega arith
from_later i (LeftAlone i') h = omega arith
from_later i (RightAlone j) h = h

before_later : (i : ℕ) (r q : Record) → AtPlace i r → FromPlace (suc i) q → Before r q
before_later i (Pair i' j) (Pair k l) h f = inl (omega arith)
before_later i (Pair i' j) (LeftAlone k) h f = omega arith
before_later i (Pair i' j) (RightAlone l) h f = f
before_later i (LeftAlone i') (Pair k l) h f = omega arith
before_later i (LeftAlone i') (LeftAlone k) h f = omega arith
before_later i (LeftAlone i') (RightAlone l) h f = f
before_later i (RightAlone j) (Pair k l) h f = h
before_later i (RightAlone j) (LeftAlone k) h f = h
before_later i (RightAlone j) (RightAlone l) h f = h

sequence_append : (a b : List Record) → InSequence a → InSequence b → AllByRecursion (λ r. AllByRecursion (Before r) b) a → InSequence (a ++ b)
sequence_append [] b h k f = k
sequence_append (r ∷ a) b h k f = (All-append _ a b h.0 f.0, sequence_append a b h.1 k f.1)

-- what a part of the path contributes, of which every record has the streamed place i, and what comes after it
sequence_later : (i : ℕ) (a b : List Record) → InSequence a → AllByRecursion (AtPlace i) a → InSequence b → AllByRecursion (FromPlace (suc i)) b → InSequence (a ++ b)
sequence_later i a b h k g f = sequence_append a b h g (All-weaker _ _ (λ r p. All-weaker _ _ (λ q w. before_later i r q p w) b f) a k)

module _ {X : Type 0} (passes : X → X → Bool) where
  pairs_in_sequence : (i : ℕ) (x : X) (j : ℕ) (b : List X) → InSequence (pairs_of passes i x j b)
  pairs_in_sequence i x j [] = tt
  pairs_in_sequence i x j (y ∷ b) = go (passes x y) (pairs_in_sequence i x (suc j) b)
    where
      go : (t : Bool) → InSequence (pairs_of passes i x (suc j) b) → InSequence (when t (Pair i j ∷ []) ++ pairs_of passes i x (suc j) b)
      go true h = (all_listed (Pair i) (passes x) _ (suc j) b (λ k q. inr (refl, omega arith)), h)
      go false h = h

  -- a passed row's pairs, or the row alone
  abbrev OfRow : ℕ → List Record → Type 0
  OfRow i l = InSequence l × AllByRecursion (AtPlace i) l

  row_in_sequence : (keeps_streamed : Bool) (i : ℕ) (x : X) (j : ℕ) (b : List X)
      → OfRow i (pairs_of passes i x j b ++ when keeps_streamed (when (not (meets_buffered passes x b)) (LeftAlone i ∷ [])))
  row_in_sequence keeps_streamed i x j b = go keeps_streamed (meets_buffered passes x b) refl
    where
      pairs : OfRow i (pairs_of passes i x j b ++ [])
      pairs = (sequence_append _ [] (pairs_in_sequence i x j b) tt (all_listed (Pair i) (passes x) _ j b (λ _ _. tt)), All-append _ _ [] (all_listed (Pair i) (passes x) (AtPlace i) j b (λ _ _. refl)) tt)

      go : (k t : Bool) → meets_buffered passes x b ≡ t → OfRow i (pairs_of passes i x j b ++ when k (when (not t) (LeftAlone i ∷ [])))
      go true true e = pairs
      go true false e = rw (listed_none (Pair i) (passes x) j b e) ((tt, tt), (refl, tt))
      go false t e = pairs

module _ {X : Type 0} (within across : X → X → Ordering) (passes : X → X → Bool) (keeps_streamed : Bool) where
  abbrev Later : ℕ → List Record → Type 0
  Later i l = InSequence l × AllByRecursion (FromPlace i) l

  abbrev place_of : State X → ℕ
  place_of (at p i s j b) = i

  -- a turn, and then what comes from where it leads
  abbrev GoesOn : State X → Turn X → Type 0
  GoesOn t u = (l : List Record) → Later (place_of u.next) l → Later (place_of t) (u.gives ++ l)

  row_goes_on : (p : List X) (i : ℕ) (x : X) (s : List X) (j : ℕ) (b : List X) → GoesOn (at p i (x ∷ s) j b) (pass_row within across passes keeps_streamed false p i x s j b)
  row_goes_on p i x s j b l h =
      let r = row_in_sequence passes keeps_streamed i x j (matched within across x b) in
      (sequence_later i _ l r.0 r.1 h.0 h.1, All-append _ _ l (All-weaker _ _ (at_is_from i) _ r.1) (All-weaker _ _ (from_later i) l h.1))

  turn_goes_on : (t : State X) → GoesOn t (turn within across passes keeps_streamed false t)
  turn_goes_on (at p i [] j []) l h = h
  turn_goes_on (at p i [] j (y ∷ b)) l h = h
  turn_goes_on (at p i (x ∷ s) j []) l h = row_goes_on p i x s j [] l h
  turn_goes_on (at p i (x ∷ s) j (y ∷ b)) l h = go (is_after (across x y)) l h
    where
      go : (t : Bool) → GoesOn (at p i (x ∷ s) j (y ∷ b)) (cond t (pass_run within across passes keeps_streamed false p i (x ∷ s) j y b) (pass_row within across passes keeps_streamed false p i x s j (y ∷ b)))
      go true l h = h
      go false l h = row_goes_on p i x s j (y ∷ b) l h

  path_goes_on : (n : ℕ) (t : State X) → Later (place_of t) (path within across passes keeps_streamed false n t)
  path_goes_on zero t = (tt, tt)
  path_goes_on (suc n) t = turn_goes_on t _ (path_goes_on n (turn within across passes keeps_streamed false t).next)

  pub path_in_sequence : (n : ℕ) (t : State X) → InSequence (path within across passes keeps_streamed false n t)
  path_in_sequence n t = (path_goes_on n t).0
