-- Proof that a chain of two orders keeps the laws of an order. It stands in specs/ because an order gives the proof of its
-- laws as a member; the statement of `chain_laws` says all that it does.
use Rattle.std.specs.Prelude.{◌≡◌, ◌≤◌, refl}
use Rattle.std.specs.declared.cmp.Ordering.TheVariants.{Less, Equal, Greater}
use Rattle.std.specs.declared.cmp.Ordering.{Ordering}
use Rattle.std.proofs.Common.{sym, ap, subst, ◌∙◌, arith}
use Rattle.std.specs.Cmp.{then_flip}
use Rattle.std.specs.Ordering.{ordering_then}
use Rattle.rows.specs.Order.{rank, turned, Rises, Laws}
use Rattle.orders.specs.Values.{Total}
use Rattle.orders.specs.Chain.{chained}
use Rattle.orders.specs.TotalLaws.{total_of, rank_most, rises_same, rises_back, rises_both}

then_first : (o q : Ordering) → rank (ordering_then o q) ≤ 1 → rank o ≤ 1
then_first Less q h = omega arith
then_first Equal q h = omega arith
then_first Greater q h = h

then_second : (o q : Ordering) → o ≡ Equal → rank (ordering_then o q) ≤ 1 → rank q ≤ 1
then_second o q e h = subst (λ k. rank (ordering_then k q) ≤ 1) e h

then_same_first : (o q : Ordering) → ordering_then o q ≡ Equal → o ≡ Equal
then_same_first Less q e = e
then_same_first Equal q e = refl
then_same_first Greater q e = e

then_same : (o q : Ordering) → o ≡ Equal → q ≡ Equal → ordering_then o q ≡ Equal
then_same o q e f = ap (λ k. ordering_then k q) e ∙ f

then_rises : (o o' q q' : Ordering) → rank o ≤ rank o' → (o ≡ Equal → o' ≡ Equal → rank q ≤ rank q') → rank (ordering_then o q) ≤ rank (ordering_then o' q')
then_rises Less o' q q' h f = omega arith
then_rises Equal Less q q' h f = absurd (omega arith)
then_rises Equal Equal q q' h f = f refl refl
then_rises Equal Greater q q' h f = rank_most q
then_rises Greater Less q q' h f = absurd (omega arith)
then_rises Greater Equal q q' h f = absurd (omega arith)
then_rises Greater Greater q q' h f = h

module _ {K : Type 0} (within₁ across₁ within₂ across₂ : K → K → Ordering) (l₁ : Laws within₁ across₁) (l₂ : Laws within₂ across₂) where
  t₁ : Total within₁
  t₁ = total_of within₁ across₁ l₁

  -- std's `then_total` asks for its own laws of both orders, and making these of `Laws` takes more lines than this
  passes : (a b c : K) → Rises (chained within₁ within₂) a b → Rises (chained within₁ within₂) b c → Rises (chained within₁ within₂) a c
  passes a b c h k =
      let ab : Rises within₁ a b = then_first (within₁ a b) (within₂ a b) h in
      let bc : Rises within₁ b c = then_first (within₁ b c) (within₂ b c) k in
      go ab bc (within₁ a c) refl (l₁.passes_on a b c ab bc)
    where
      -- where a and c are same, so is b
      go : Rises within₁ a b → Rises within₁ b c → (o : Ordering) → within₁ a c ≡ o → Rises within₁ a c → rank (ordering_then (within₁ a c) (within₂ a c)) ≤ 1
      go ab bc Less e r = subst (λ o. rank (ordering_then o (within₂ a c)) ≤ 1) (sym e) (omega arith)
      go ab bc Equal e r =
          let ca : Rises within₁ c a = rises_back within₁ t₁ a c e in
          let same_ab : within₁ a b ≡ Equal = rises_both within₁ t₁ a b ab (l₁.passes_on b c a bc ca) in
          let same_bc : within₁ b c ≡ Equal = rises_both within₁ t₁ b c bc (l₁.passes_on c a b ca ab) in
          subst (λ o. rank (ordering_then o (within₂ a c)) ≤ 1) (sym e) (l₂.passes_on a b c (then_second (within₁ a b) (within₂ a b) same_ab h) (then_second (within₁ b c) (within₂ b c) same_bc k))
      go ab bc Greater e r = absurd (omega (arith, subst (λ o. rank o ≤ 1) e r))

  rises : (a a' b : K) → Rises (chained within₁ within₂) a a' → rank (chained across₁ across₂ a b) ≤ rank (chained across₁ across₂ a' b)
  rises a a' b h =
      let up : Rises within₁ a a' = then_first (within₁ a a') (within₂ a a') h in
      then_rises (across₁ a b) (across₁ a' b) (across₂ a b) (across₂ a' b) (l₁.rises_streamed a a' b up) (λ e e'.
      -- both are same as b across, so within, and so same as each other
      let back : Rises within₁ a' a = l₁.passes_on a' b a (rises_same within₁ t₁ a' b (l₁.same_is_same a' b e')) (rises_back within₁ t₁ a b (l₁.same_is_same a b e)) in
      l₂.rises_streamed a a' b (then_second (within₁ a a') (within₂ a a') (rises_both within₁ t₁ a a' up back) h))

  falls : (a b b' : K) → Rises (chained within₁ within₂) b b' → rank (chained across₁ across₂ a b') ≤ rank (chained across₁ across₂ a b)
  falls a b b' h =
      let up : Rises within₁ b b' = then_first (within₁ b b') (within₂ b b') h in
      then_rises (across₁ a b') (across₁ a b) (across₂ a b') (across₂ a b) (l₁.falls_buffered a b b' up) (λ e' e.
      let back : Rises within₁ b' b = l₁.passes_on b' a b (rises_back within₁ t₁ a b' (l₁.same_is_same a b' e')) (rises_same within₁ t₁ a b (l₁.same_is_same a b e)) in
      l₂.falls_buffered a b b' (then_second (within₁ b b') (within₂ b b') (rises_both within₁ t₁ b b' up back) h))

  same : (a b : K) → chained across₁ across₂ a b ≡ Equal → chained within₁ within₂ a b ≡ Equal
  same a b e =
      let first : across₁ a b ≡ Equal = then_same_first (across₁ a b) (across₂ a b) e in
      let second : across₂ a b ≡ Equal = sym (ap (λ o. ordering_then o (across₂ a b)) first) ∙ e in
      then_same (within₁ a b) (within₂ a b) (l₁.same_is_same a b first) (l₂.same_is_same a b second)

  -- a chain of two orders on one kind of key is an order
  pub chain_laws : Laws (chained within₁ within₂) (chained across₁ across₂)
  chain_laws = record {
    turns_round = λ a b. ap (λ o. ordering_then o (within₂ b a)) (l₁.turns_round a b) ∙ ap (ordering_then (turned (within₁ a b))) (l₂.turns_round a b) ∙ then_flip (within₁ a b) (within₂ a b);
    passes_on = passes;
    rises_streamed = rises;
    falls_buffered = falls;
    same_is_same = same;
  }
