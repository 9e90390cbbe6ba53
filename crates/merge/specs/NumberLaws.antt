-- The order of numbers that may be missing keeps the laws.
use Rattle.std.specs.Prelude.{◌≡◌, ℕ, ◌+◌, ◌<◌, ◌≤◌, Bool, true, false, ◌⊎◌, Some, None, Option, ◌==◌, nat_lt, refl}
use Rattle.std.specs.declared.cmp.Ordering.TheVariants.{Less, Equal, Greater}
use Rattle.std.specs.declared.cmp.Ordering.{Ordering}
use Rattle.std.proofs.Common.{ap, inl, inr, arith}
use Rattle.std.proofs.lemmas.Bool.{ltb-true, ltb-false, eqb-true, eqb-false}
use Rattle.rows.specs.Order.{Laws, Rises, rank, turned}
use Rattle.merge.specs.Numbers.{by_number, numbers_within, numbers_across}

-- what by_number says, in numbers
abbrev Ranked : ℕ → ℕ → Type 0
Ranked a b = ((rank (by_number a b) ≡ 0) × (a < b)) ⊎ (((rank (by_number a b) ≡ 1) × (a ≡ b)) ⊎ ((rank (by_number a b) ≡ 2) × (b < a)))

ranked : (a b : ℕ) → Ranked a b
ranked a b = go (nat_lt a b) refl (a == b) refl
  where
    go : (t : Bool) → nat_lt a b ≡ t → (u : Bool) → (a == b) ≡ u → Ranked a b
    go true e u f = inl (rw e, ltb-true a b e)
    go false e true f = inr (inl (rw (e, f), eqb-true a b f))
    go false e false f = inr (inr (rw (e, f), omega (arith, ltb-false a b e, eqb-false a b f)))

rank_turned : (o : Ordering) → rank (turned o) + rank o ≡ 2
rank_turned Less = refl
rank_turned Equal = refl
rank_turned Greater = refl

same_rank : (o o' : Ordering) → rank o ≡ rank o' → o ≡ o'
same_rank Less Less e = refl
same_rank Less Equal e = absurd (omega arith)
same_rank Less Greater e = absurd (omega arith)
same_rank Equal Less e = absurd (omega arith)
same_rank Equal Equal e = refl
same_rank Equal Greater e = absurd (omega arith)
same_rank Greater Less e = absurd (omega arith)
same_rank Greater Equal e = absurd (omega arith)
same_rank Greater Greater e = refl

turns : (a b : Option ℕ) → numbers_within b a ≡ turned (numbers_within a b)
turns None None = refl
turns None (Some b) = refl
turns (Some a) None = refl
turns (Some a) (Some b) = same_rank (by_number b a) (turned (by_number a b)) (omega (arith, ranked a b, ranked b a, rank_turned (by_number a b)))

goes_on : (a b c : Option ℕ) → Rises numbers_within a b → Rises numbers_within b c → Rises numbers_within a c
goes_on None b None h k = omega arith
goes_on None b (Some c) h k = omega arith
goes_on (Some a) None c h k = absurd (omega arith)
goes_on (Some a) (Some b) None h k = absurd (omega arith)
goes_on (Some a) (Some b) (Some c) h k = omega (arith, ranked a b, ranked b c, ranked a c)

rises : (a a' b : Option ℕ) → Rises numbers_within a a' → rank (numbers_across a b) ≤ rank (numbers_across a' b)
rises None a' b h = omega arith
rises (Some a) None b h = absurd (omega arith)
rises (Some a) (Some a') None h = omega arith
rises (Some a) (Some a') (Some b) h = omega (arith, ranked a a', ranked a b, ranked a' b)

falls : (a b b' : Option ℕ) → Rises numbers_within b b' → rank (numbers_across a b') ≤ rank (numbers_across a b)
falls None b b' h = omega arith
falls (Some a) None None h = omega arith
falls (Some a) None (Some b') h = omega (arith, ranked a b')
falls (Some a) (Some b) None h = absurd (omega arith)
falls (Some a) (Some b) (Some b') h = omega (arith, ranked b b', ranked a b, ranked a b')

sames : (a b : Option ℕ) → numbers_across a b ≡ Equal → numbers_within a b ≡ Equal
sames None b e = absurd (let z : ◌≡◌ {A = ℕ} 0 1 = ap rank e in omega arith)
sames (Some a) None e = absurd (let z : ◌≡◌ {A = ℕ} 2 1 = ap rank e in omega arith)
sames (Some a) (Some b) e = e

pub numbers_lawful : Laws numbers_within numbers_across
numbers_lawful = record { turns_round = turns; passes_on = goes_on; rises_streamed = rises; falls_buffered = falls; same_is_same = sames }
