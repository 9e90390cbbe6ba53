-- Logs that are read piece by piece: which turns the rows read decide, whatever rows may still follow.
use Rattle.std.specs.Prelude.{◌≡◌, ℕ, zero, suc, Bool, true, false, ◌&&◌, ◌||◌, List, [], ◌∷◌, ◌++◌}
use Rattle.std.specs.declared.cmp.Ordering.TheVariants.{Less, Equal, Greater}
use Rattle.std.specs.declared.cmp.Ordering.{Ordering}
use Rattle.merge.specs.Runs.{past_run}
use Rattle.merge.specs.Path.{State, at, turn}

-- more rows follow what is left of either log
abbrev pub extended : {X : Type 0} → State X → List X → List X → State X
extended (at p i s j b) s' b' = at p i (s ++ s') j (b ++ b')

-- nothing follows a log that has ended
abbrev pub Follows : {A : Type 0} → Bool → List A → Type 0
Follows ended l = ended ≡ true → l ≡ []

abbrev pub is_some : {A : Type 0} → List A → Bool
is_some [] = false
is_some (a ∷ l) = true

abbrev pub is_before : Ordering → Bool
is_before Less = true
is_before Equal = false
is_before Greater = false

module _ {X : Type 0} (within across : X → X → Ordering) (ended_streamed ended_buffered : Bool) where
  -- the run of y is complete: another run follows it, or its log has ended
  abbrev pub complete : X → List X → Bool
  complete y b = ended_buffered || is_some (past_run within y b)

  -- The next turn is known from the rows read: a log of which no row is left has ended, and the run that the turn passes, or
  -- that the streamed row is matched with, is complete. A row before the run's first row is passed whatever follows.
  abbrev pub decided : State X → Bool
  decided (at p i [] j []) = ended_streamed && ended_buffered
  decided (at p i [] j (y ∷ b)) = ended_streamed && complete y b
  decided (at p i (x ∷ s) j []) = ended_buffered
  decided (at p i (x ∷ s) j (y ∷ b)) = is_before (across x y) || complete y b

  module _ (passes : X → X → Bool) (keeps_streamed keeps_buffered : Bool) where
    -- each of the first n turns is known from the rows read
    abbrev pub AllDecided : ℕ → State X → Type 0
    AllDecided zero t = Unit {0}
    AllDecided (suc n) t = (decided t ≡ true) × AllDecided n (turn within across passes keeps_streamed keeps_buffered t).next
