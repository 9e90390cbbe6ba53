-- Records turned round, and what holds of either side.
use Rattle.std.proofs.Common.{◌≡◌, Bool, true, false, cond, not, List, [], ◌∷◌, ◌++◌, map, sym, refl, ap, ◌∙◌}
use Rattle.std.proofs.ByRecursion.{All-weaker, All-map}
use denote.Enum.Bare.{sameb}
use Rattle.rows.specs.contracts.kind.Side.{the_type}
use Rattle.rows.specs.declared.kind.Kind.{Kind}
use Rattle.rows.specs.declared.kind.Side.{Side}
use Rattle.rows.specs.declared.kind.Side.TheVariants.{Left as on_left, Right as on_right}
use Rattle.rows.specs.declared.record.Record.{Record}
use Rattle.rows.specs.declared.record.Record.TheVariants.{Pair, LeftAlone, RightAlone}
use Rattle.merge.specs.Table.{Distinct, meets_buffered, meets_streamed}
use Rattle.merge.specs.Nested.{side_rows, alone_among}
use Rattle.rows.specs.Sides.{is_right, streamed_of, buffered_of, streamed_side, buffered_side, flipped, oriented}

-- what left and right have, either side has
pub either_append : {A : Type 0} (t : Bool) (a a' b b' : List A) → cond t (a ++ a') (b ++ b') ≡ cond t a b ++ cond t a' b'
either_append true a a' b b' = refl
either_append false a a' b b' = refl

pub either_follows : {A : Type 0} (P : Bool → List A → Type 0) (t e f : Bool) (a b : List A) → P e a → P f b → P (cond t e f) (cond t a b)
either_follows P true e f a b h k = h
either_follows P false e f a b h k = k

-- turned round twice, a record is as it was
pub flipped_twice : (r : Record) → flipped (flipped r) ≡ r
flipped_twice (Pair i j) = refl
flipped_twice (LeftAlone i) = refl
flipped_twice (RightAlone j) = refl

pub oriented_twice : (kind : Kind) (r : Record) → oriented kind (oriented kind r) ≡ r
oriented_twice kind r = go (is_right kind)
  where
    go : (t : Bool) → cond t (flipped (cond t (flipped r) r)) (cond t (flipped r) r) ≡ r
    go true = flipped_twice r
    go false = refl

pub distinct_oriented : (kind : Kind) (l : List Record) → Distinct l → Distinct (map (oriented kind) l)
distinct_oriented kind [] h = tt
distinct_oriented kind (r ∷ l) h = (All-map _ (oriented kind) l (All-weaker _ _ (λ q k e. k (sym (oriented_twice kind r) ∙ ap (oriented kind) e ∙ oriented_twice kind q)) l h.0), distinct_oriented kind l h.1)

-- a row is alone if it passes with no row of the other side; t says whether its own side is streamed
pub alone_by_role : {X : Type 0} (kind : Kind) (passes : X → X → Bool) (lefts rights : List X) (x : X) (side : Side) (t : Bool) → t ≡ sameb the_type side (streamed_side kind)
    → not (cond t (meets_buffered passes x (side_rows lefts rights (buffered_side kind))) (meets_streamed passes (side_rows lefts rights (streamed_side kind)) x))
    ≡ alone_among (λ l r. passes (streamed_of kind l r) (buffered_of kind l r)) lefts rights side x
alone_by_role {X} kind passes ls rs x side t e = rw e (go (is_right kind) side)
  where
    go : (r : Bool) (s : Side) → not (cond (sameb the_type s (cond r on_right on_left)) (meets_buffered passes x (side_rows ls rs (cond r on_left on_right))) (meets_streamed passes (side_rows ls rs (cond r on_right on_left)) x))
        ≡ alone_among (λ a b. passes (cond r b a) (cond r a b)) ls rs s x
    go true on_left = refl
    go true on_right = refl
    go false on_left = refl
    go false on_right = refl
