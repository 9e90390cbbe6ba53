-- Proof that a column keeps the laws of an order, for every choice. It stands in specs/ because an order gives the proof of
-- its laws as a member; the statement of `column_laws` says all that it does.
use Rattle.std.specs.Prelude.{◌≡◌, ◌≤◌, Some, None, Option, refl}
use Rattle.std.specs.declared.cmp.Ordering.TheVariants.{Less, Equal, Greater}
use Rattle.std.specs.declared.cmp.Ordering.{Ordering}
use Rattle.std.proofs.Common.{sym, ap, subst, arith}
use Rattle.orders.specs.declared.choices.Choices.{Choices}
use Rattle.orders.specs.declared.choices.Direction.{Direction}
use Rattle.orders.specs.declared.choices.Direction.TheVariants.{Up, Down}
use Rattle.orders.specs.declared.choices.MissingPlace.{MissingPlace}
use Rattle.orders.specs.declared.choices.MissingPlace.TheVariants.{First, Last}
use Rattle.orders.specs.declared.choices.MissingEquals.{MissingEquals}
use Rattle.rows.specs.Order.{rank, turned, Rises, Laws}
use Rattle.orders.specs.Values.{Total}
use Rattle.orders.specs.Choices.{missing_against, two_missing, by_column, column_within, column_across}
use Rattle.orders.specs.TotalLaws.{turned_twice, rank_most, rises_left, falls_right}

one_side : (p : MissingPlace) → rank (missing_against p) ≤ 1 → rank (turned (missing_against p)) ≤ 1 → ⊥
one_side First h k = omega arith
one_side Last h k = omega arith

before_missing : (p : MissingPlace) → rank (turned (missing_against p)) ≤ 1 → turned (missing_against p) ≡ Less
before_missing First h = absurd (omega arith)
before_missing Last h = refl

after_missing : (p : MissingPlace) → rank (missing_against p) ≤ 1 → turned (missing_against p) ≡ Greater
after_missing First h = refl
after_missing Last h = absurd (omega arith)

module _ {V : Type 0} (compare : V → V → Ordering) (t : Total compare) (p : MissingPlace) where
  -- std's `options_total` has missing first alone, and both places for both directions take more cases than these
  turns : (d : Direction) (a b : Option V) → by_column Equal d p compare b a ≡ turned (by_column Equal d p compare a b)
  turns d None None = refl
  turns d None (Some y) = refl
  turns d (Some x) None = turned_twice (missing_against p)
  turns Up (Some x) (Some y) = t.turns_round x y
  turns Down (Some x) (Some y) = ap turned (t.turns_round x y)

  passes : (d : Direction) (a b c : Option V) → rank (by_column Equal d p compare a b) ≤ 1 → rank (by_column Equal d p compare b c) ≤ 1 → rank (by_column Equal d p compare a c) ≤ 1
  passes d None None c h k = k
  passes d None (Some y) None h k = omega arith
  passes d None (Some y) (Some z) h k = h
  passes d (Some x) None None h k = h
  passes d (Some x) None (Some z) h k = absurd (one_side p k h)
  passes d (Some x) (Some y) None h k = k
  passes Up (Some x) (Some y) (Some z) h k = t.passes_on x y z h k
  passes Down (Some x) (Some y) (Some z) h k =
      subst (λ o. rank o ≤ 1) (t.turns_round x z) (t.passes_on z y x (subst (λ o. rank o ≤ 1) (sym (t.turns_round y z)) k) (subst (λ o. rank o ≤ 1) (sym (t.turns_round x y)) h))

  -- within is total whichever way the column runs
  total : (d : Direction) → Total (by_column Equal d p compare)
  total d = record { turns_round = turns d; passes_on = passes d }

  rises : (e : MissingEquals) (d : Direction) (a a' b : Option V) → Rises (by_column Equal d p compare) a a' → rank (by_column (two_missing e) d p compare a b) ≤ rank (by_column (two_missing e) d p compare a' b)
  rises e d None None b h = omega arith
  rises e d None (Some x') None h = subst (λ o. rank (two_missing e) ≤ rank o) (sym (after_missing p h)) (rank_most (two_missing e))
  rises e d None (Some x') (Some y) h = rises_left (by_column Equal d p compare) (total d) None (Some x') (Some y) h
  rises e d (Some x) None None h = subst (λ o. rank o ≤ rank (two_missing e)) (sym (before_missing p h)) (omega arith)
  rises e d (Some x) None (Some y) h = rises_left (by_column Equal d p compare) (total d) (Some x) None (Some y) h
  rises e d (Some x) (Some x') None h = omega arith
  rises e d (Some x) (Some x') (Some y) h = rises_left (by_column Equal d p compare) (total d) (Some x) (Some x') (Some y) h

  falls : (e : MissingEquals) (d : Direction) (a b b' : Option V) → Rises (by_column Equal d p compare) b b' → rank (by_column (two_missing e) d p compare a b') ≤ rank (by_column (two_missing e) d p compare a b)
  falls e d None None None h = omega arith
  falls e d None None (Some y') h = before e p h
    where
      before : (e : MissingEquals) (p : MissingPlace) → rank (missing_against p) ≤ 1 → rank (missing_against p) ≤ rank (two_missing e)
      before e First h = omega arith
      before e Last h = absurd (omega arith)
  falls e d None (Some y) None h = after e p h
    where
      after : (e : MissingEquals) (p : MissingPlace) → rank (turned (missing_against p)) ≤ 1 → rank (two_missing e) ≤ rank (missing_against p)
      after e First h = absurd (omega arith)
      after e Last h = rank_most (two_missing e)
  falls e d None (Some y) (Some y') h = omega arith
  falls e d (Some x) None None h = omega arith
  falls e d (Some x) None (Some y') h = falls_right (by_column Equal d p compare) (total d) (Some x) None (Some y') h
  falls e d (Some x) (Some y) None h = falls_right (by_column Equal d p compare) (total d) (Some x) (Some y) None h
  falls e d (Some x) (Some y) (Some y') h = falls_right (by_column Equal d p compare) (total d) (Some x) (Some y) (Some y') h

  same : (e : MissingEquals) (d : Direction) (a b : Option V) → by_column (two_missing e) d p compare a b ≡ Equal → by_column Equal d p compare a b ≡ Equal
  same e d None None h = refl
  same e d None (Some y) h = h
  same e d (Some x) None h = h
  same e d (Some x) (Some y) h = h

-- a column of keys of any kind is an order, whatever its choices
pub column_laws : {K V : Type 0} (choices : Choices) (compare : V → V → Ordering) (value : K → Option V) → Total compare → Laws (λ a b. column_within choices compare (value a) (value b)) (λ a b. column_across choices compare (value a) (value b))
column_laws choices compare value t = record {
  turns_round = λ a b. turns compare t choices.missing choices.direction (value a) (value b);
  passes_on = λ a b c. passes compare t choices.missing choices.direction (value a) (value b) (value c);
  rises_streamed = λ a a' b. rises compare t choices.missing choices.equals choices.direction (value a) (value a') (value b);
  falls_buffered = λ a b b'. falls compare t choices.missing choices.equals choices.direction (value a) (value b) (value b');
  same_is_same = λ a b. same compare t choices.missing choices.equals choices.direction (value a) (value b);
}
