-- The joined table in the parts that the nested loops add: the passing pairs, then a side's lone rows and the other's.
use Rattle.std.proofs.Common.{◌≡◌, Bool, List, [], ◌++◌, map, refl, append_assoc}
use mathlib.Core.List.{map-append}
use Rattle.rows.specs.declared.kind.Kind.{Kind}
use Rattle.rows.specs.declared.kind.Kind.TheVariants.{Inner, Left, Right, Full}
use Rattle.rows.specs.declared.kind.Side.TheVariants.{Left as on_left, Right as on_right}
use Rattle.rows.specs.declared.record.Record.{Record}
use Rattle.rows.specs.declared.record.Record.TheVariants.{LeftAlone, RightAlone}
use Rattle.rows.specs.Sides.{streamed_of, buffered_of, streamed_side, buffered_side, alone_on, oriented, is_outer, is_full}
use Rattle.merge.specs.Table.{when, all_pairs, lone_streamed, lone_buffered, table}
use Rattle.merge.specs.Nested.{lone_of}
use Rattle.merge.proofs.Listed.{map-listed}

in_parts : (f : Record → Record) (a b c b' c' : List Record) → map f b ≡ b' → map f c ≡ c' → map f (a ++ (b ++ c)) ≡ map f a ++ (b' ++ c')
in_parts f a b c b' c' e e' = rw (map-append f a (b ++ c), map-append f b c, e, e')

pub table_in_parts : {X : Type 0} (kind : Kind) (passes : X → X → Bool) (lefts rights : List X)
    → map (oriented kind) (table passes (is_outer kind) (is_full kind) (streamed_of kind lefts rights) (buffered_of kind lefts rights))
    ≡ map (oriented kind) (all_pairs passes 0 (streamed_of kind lefts rights) 0 (buffered_of kind lefts rights))
    ++ (when (is_outer kind) (lone_of (λ l r. passes (streamed_of kind l r) (buffered_of kind l r)) lefts rights (streamed_side kind))
    ++ when (is_full kind) (lone_of (λ l r. passes (streamed_of kind l r) (buffered_of kind l r)) lefts rights (buffered_side kind)))
table_in_parts Inner passes ls rs = in_parts (oriented Inner) _ [] [] [] [] refl refl
table_in_parts Left passes ls rs = in_parts (oriented Left) _ (lone_streamed passes 0 ls rs) [] _ [] (map-listed LeftAlone _ (oriented Left) (alone_on on_left) (λ _. refl) 0 ls) refl
table_in_parts Right passes ls rs = in_parts (oriented Right) _ (lone_streamed passes 0 rs ls) [] _ [] (map-listed LeftAlone _ (oriented Right) (alone_on on_right) (λ _. refl) 0 rs) refl
table_in_parts Full passes ls rs = in_parts (oriented Full) _ (lone_streamed passes 0 ls rs) (lone_buffered passes ls 0 rs) _ _
    (map-listed LeftAlone _ (oriented Full) (alone_on on_left) (λ _. refl) 0 ls) (map-listed RightAlone _ (oriented Full) (alone_on on_right) (λ _. refl) 0 rs)

-- the parts of a table, added one after another
pub added_parts : (t u : Bool) (a b c first second last : List Record) → first ≡ a → second ≡ first ++ when t b → last ≡ second ++ when u c → last ≡ a ++ (when t b ++ when u c)
added_parts t u a b c first second last e e' e'' = rw (e'', e', e, append_assoc a (when t b) (when u c))
