-- Which records belong to the joined table of a left and a right log, by places. (Of records that name the streamed row
-- first, the streamed log is the left one here.)
use Rattle.std.specs.Prelude.{◌≡◌, ℕ, zero, suc, Bool, true, false, List, [], ◌∷◌}
use Rattle.rows.specs.declared.record.Record.{Record}
use Rattle.rows.specs.declared.record.Record.TheVariants.{Pair, LeftAlone, RightAlone}

-- the row x stands at a place of a log
abbrev pub StandsAt : {X : Type 0} → List X → ℕ → X → Type 0
StandsAt [] i x = ⊥
StandsAt (y ∷ l) zero x = y ≡ x
StandsAt (y ∷ l) (suc i) x = StandsAt l i x

module _ {X : Type 0} (passes : X → X → Bool) (keeps_left keeps_right : Bool) (lefts rights : List X) where
  -- A pair belongs if its rows pass; a row alone if rows of its side are kept and it passes with none of the other side.
  abbrev pub Belongs : Record → Type 0
  Belongs (Pair i j) = (l r : X) × StandsAt lefts i l × StandsAt rights j r × (passes l r ≡ true)
  Belongs (LeftAlone i) = (l : X) × StandsAt lefts i l × ((j : ℕ) (r : X) → StandsAt rights j r → passes l r ≡ false) × (keeps_left ≡ true)
  Belongs (RightAlone j) = (r : X) × StandsAt rights j r × ((i : ℕ) (l : X) → StandsAt lefts i l → passes l r ≡ false) × (keeps_right ≡ true)
