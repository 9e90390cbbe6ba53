-- The joined table has just the records that belong to it, by left and right.
use Rattle.std.proofs.Common.{◌≡◌, true, List, Option, Ordering, Less, Equal, Greater, refl, subst}
use mathlib.Core.List.Memᴰ
use Rattle.std.specs.List.{ContainsAt as Has, AllByRecursion}
use Rattle.std.proofs.ByRecursion.{All-weaker, All-map}
use Rattle.std.proofs.lemmas.Bool.{and_parts}
use Rattle.rows.specs.declared.kind.Kind.{Kind}
use Rattle.rows.specs.declared.kind.Kind.TheVariants.{Inner, Left, Right, Full}
use Rattle.rows.specs.declared.record.Record.{Record}
use Rattle.rows.specs.declared.record.Record.TheVariants.{Pair, LeftAlone, RightAlone}
use Rattle.rows.specs.declared.row.Row.{Row}
use Rattle.rows.specs.Order.{is_same}
use Rattle.merge.specs.Table.{Distinct}
use Rattle.merge.specs.Members.{Belongs}
use Rattle.rows.specs.Sides.{streamed_of, buffered_of, left_of, right_of, oriented, is_outer, is_full}
use Rattle.merge.specs.Joined.{Asks, lets_through, passes, InTable, joined}
use Rattle.merge.proofs.Members.{table_only, table_has}
use Rattle.merge.proofs.Distincts.{table_distinct}
use Rattle.merge.proofs.Shuffles.{has_from_mem}
use Rattle.merge.proofs.Sides.{oriented_twice, distinct_oriented}

same_only : (o : Ordering) → is_same o ≡ true → o ≡ Equal
same_only Less e = cc
same_only Equal e = refl
same_only Greater e = cc

module _ {K : Type 0} (across : K → K → Ordering) (filter : Option Asks) where
  -- rows pass only if their keys are same across
  pub passes_same : (kind : Kind) (x y : Row K) → passes kind across filter x y ≡ true → across x.key y.key ≡ Equal
  passes_same kind x y e = same_only (across x.key y.key) (and_parts _ (lets_through filter (left_of kind x.reading y.reading) (right_of kind x.reading y.reading)) e).0

  -- a record that belongs to the table of the sides, written left first, is in the joined table
  pub named : (kind : Kind) (lefts rights : List (Row K)) (r : Record) → Belongs (passes kind across filter) (is_outer kind) (is_full kind) (streamed_of kind lefts rights) (buffered_of kind lefts rights) r
      → InTable kind across filter lefts rights (oriented kind r)
  named Inner ls rs r h = h
  named Left ls rs r h = h
  named Right ls rs (Pair i j) h = (h.1, h.0, h.3, h.2, h.4)
  named Right ls rs (LeftAlone i) h = h
  named Right ls rs (RightAlone j) h = h
  named Full ls rs r h = h

  -- and the other way round
  pub sided : (kind : Kind) (lefts rights : List (Row K)) (r : Record) → InTable kind across filter lefts rights r
      → Belongs (passes kind across filter) (is_outer kind) (is_full kind) (streamed_of kind lefts rights) (buffered_of kind lefts rights) (oriented kind r)
  sided Inner ls rs r h = h
  sided Left ls rs r h = h
  sided Right ls rs (Pair i j) h = (h.1, h.0, h.3, h.2, h.4)
  sided Right ls rs (LeftAlone i) h = h
  sided Right ls rs (RightAlone j) h = h
  sided Full ls rs r h = h

  module _ (kind : Kind) (lefts rights : List (Row K)) where
    pub joined_only : AllByRecursion (InTable kind across filter lefts rights) (joined kind across filter lefts rights)
    joined_only = All-map _ (oriented kind) _ (All-weaker _ _ (named kind lefts rights) _ (table_only (passes kind across filter) (is_outer kind) (is_full kind) (streamed_of kind lefts rights) (buffered_of kind lefts rights)))

    pub joined_has : (r : Record) → InTable kind across filter lefts rights r → Has (joined kind across filter lefts rights) r
    joined_has r h = subst (Has (joined kind across filter lefts rights)) (oriented_twice kind r)
        (has_from_mem (Memᴰ.map (oriented kind) (table_has (passes kind across filter) (is_outer kind) (is_full kind) (streamed_of kind lefts rights) (buffered_of kind lefts rights) (oriented kind r) (sided kind lefts rights r h))))

    pub joined_distinct : Distinct (joined kind across filter lefts rights)
    joined_distinct = distinct_oriented kind _ (table_distinct (passes kind across filter) (is_outer kind) (is_full kind) (streamed_of kind lefts rights) (buffered_of kind lefts rights))
