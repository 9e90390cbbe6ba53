-- Proofs about answers that turn round and pass on. They stand in specs/ because an order gives the proof of its laws as a
-- member; their statements say all that they do.
use Rattle.std.specs.Prelude.{◌≡◌, ◌+◌, ◌≤◌, refl}
use Rattle.std.specs.declared.cmp.Ordering.TheVariants.{Less, Equal, Greater}
use Rattle.std.specs.declared.cmp.Ordering.{Ordering}
use Rattle.std.proofs.Common.{sym, ap, subst, ◌∙◌, arith}
use Rattle.rows.specs.Order.{rank, turned, Rises, Laws}
use Rattle.orders.specs.Values.{Total}

pub turned_twice : (o : Ordering) → o ≡ turned (turned o)
turned_twice Less = refl
turned_twice Equal = refl
turned_twice Greater = refl

rank_turned : (o : Ordering) → rank o + rank (turned o) ≡ 2
rank_turned Less = refl
rank_turned Equal = refl
rank_turned Greater = refl

pub rank_most : (o : Ordering) → rank o ≤ 2
rank_most Less = omega arith
rank_most Equal = omega arith
rank_most Greater = omega arith

same_rises : (o : Ordering) → o ≡ Equal → rank o ≤ 1
same_rises o e = subst (λ k. rank k ≤ 1) (sym e) (omega arith)

-- the part of an order's laws that speaks of within alone
pub total_of : {K : Type 0} (within across : K → K → Ordering) → Laws within across → Total within
total_of within across l = record { turns_round = l.turns_round; passes_on = l.passes_on }

module _ {V : Type 0} (compare : V → V → Ordering) (t : Total compare) where
  pub rises_same : (x y : V) → compare x y ≡ Equal → Rises compare x y
  rises_same x y e = same_rises (compare x y) e

  pub rises_back : (x y : V) → compare x y ≡ Equal → Rises compare y x
  rises_back x y e = same_rises (compare y x) (t.turns_round x y ∙ ap turned e)

  both_rise : (o : Ordering) → rank o ≤ 1 → rank (turned o) ≤ 1 → o ≡ Equal
  both_rise Less h k = absurd (omega arith)
  both_rise Equal h k = refl
  both_rise Greater h k = absurd (omega arith)

  pub rises_both : (x y : V) → Rises compare x y → Rises compare y x → compare x y ≡ Equal
  rises_both x y h k = both_rise (compare x y) h (subst (λ o. rank o ≤ 1) (t.turns_round x y) k)

  pub rises_left : (x x' y : V) → Rises compare x x' → rank (compare x y) ≤ rank (compare x' y)
  rises_left x x' y h = go (compare x y) (compare x' y) refl refl
    where
      go : (o o' : Ordering) → compare x y ≡ o → compare x' y ≡ o' → rank o ≤ rank o'
      go Less o' p q = omega arith
      go Equal Less p q = absurd (omega (arith, subst (λ o. rank o ≤ 1) (t.turns_round x' y ∙ ap turned q) (t.passes_on y x x' (rises_back x y p) h)))
      go Equal Equal p q = omega arith
      go Equal Greater p q = omega arith
      go Greater Less p q = absurd (omega (arith, subst (λ o. rank o ≤ 1) p (t.passes_on x x' y h (subst (λ o. rank o ≤ 1) (sym q) (omega arith)))))
      go Greater Equal p q = absurd (omega (arith, subst (λ o. rank o ≤ 1) p (t.passes_on x x' y h (rises_same x' y q))))
      go Greater Greater p q = omega arith

  pub falls_right : (x y y' : V) → Rises compare y y' → rank (compare x y') ≤ rank (compare x y)
  falls_right x y y' h =
      let k : rank (compare y x) ≤ rank (compare y' x) = rises_left y y' x h in
      let p : rank (compare x y) ≡ rank (turned (compare y x)) = ap rank (t.turns_round y x) in
      let q : rank (compare x y') ≡ rank (turned (compare y' x)) = ap rank (t.turns_round y' x) in
      omega (arith, rank_turned (compare y x), rank_turned (compare y' x))
