-- The states of the rows held, which stand in the first cells.
use Rattle.std.proofs.Common.{◌≡◌, ℕ, zero, suc, ◌<◌, ◌≤◌, Bool, List, [], ◌∷◌, get_or, take, set, refl, ap, arith}
use Rattle.std.specs.List.{slice_get}
use Rattle.pipeline.specs.declared.states.FilterState.{FilterState}
use Rattle.pipeline.specs.States.{state_at, marked, mark_at}

pub state_at_get : (l : List FilterState) (i : ℕ) → slice_get l i ≡ state_at i l
state_at_get [] i = refl
state_at_get (x ∷ l) zero = refl
state_at_get (x ∷ l) (suc i) = state_at_get l i

pub mark_at_below : (l : List FilterState) (n i : ℕ) (v : Bool) (d : FilterState) → i < n → take n (set l i (marked v (get_or l i d))) ≡ mark_at i v (take n l)
mark_at_below [] zero i v d h = refl
mark_at_below [] (suc n) i v d h = refl
mark_at_below (x ∷ l) zero i v d h = absurd (omega arith)
mark_at_below (x ∷ l) (suc n) zero v d h = refl
mark_at_below (x ∷ l) (suc n) (suc i) v d h = ap (λ (t : List FilterState). x ∷ t) (mark_at_below l n i v d (omega arith))

pub mark_at_past : (l : List FilterState) (n i : ℕ) (v : Bool) → n ≤ i → take n l ≡ mark_at i v (take n l)
mark_at_past [] zero i v h = refl
mark_at_past [] (suc n) i v h = refl
mark_at_past (x ∷ l) zero i v h = refl
mark_at_past (x ∷ l) (suc n) zero v h = absurd (omega arith)
mark_at_past (x ∷ l) (suc n) (suc i) v h = ap (λ (t : List FilterState). x ∷ t) (mark_at_past l n i v (omega arith))
