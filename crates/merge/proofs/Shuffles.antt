-- From derivations of a permutation to std's `IsPermutation` and `ContainsAt`, here `Has`.
use Rattle.std.proofs.Common.{suc, List, [], ◌∷◌, ◌++◌, sym, subst, arith}
use mathlib.Core.List.Permᴰ
use mathlib.Core.List.{Memᴰ, Permᴰ}
use Rattle.std.specs.List.{ContainsAt as Has, AllByRecursion}
use Rattle.std.specs.List.Sorted.{IsPermutation}
use Rattle.std.proofs.ByRecursion.{all_has_itself}
use Rattle.std.proofs.lemmas.List.Sorted.{IsPermutation-refl, IsPermutation-cons, IsPermutation-swap, IsPermutation-trans}
use Rattle.merge.proofs.Distincts.{all_front, all_perm}

pub shuffled_from_perm : {A : Type 0} {a b : List A} → Permᴰ a b → IsPermutation a b
shuffled_from_perm Permᴰ.nil = IsPermutation-refl []
shuffled_from_perm (Permᴰ.cons {a = x} {b = y} {l₁ = l} {l₂ = k} e d) = subst (λ v. IsPermutation (x ∷ l) (v ∷ k)) e (IsPermutation-cons x l k (shuffled_from_perm d))
shuffled_from_perm (Permᴰ.swap {a = x} {b = y} {a' = y'} {b' = x'} {l = l} e f) = IsPermutation-swap (x ∷ y ∷ l) (y' ∷ x' ∷ l) 0 1 (omega arith) (omega arith) (rw (e, f))
shuffled_from_perm (Permᴰ.trans {l₁ = a} {l₂ = b} {l₃ = c} d d') = IsPermutation-trans a b c (shuffled_from_perm d) (shuffled_from_perm d')

-- a member of what is part of a permutation
pub all_have : {A : Type 0} (a b c : List A) → Permᴰ (a ++ b) c → AllByRecursion (Has c) a
all_have a b c d = all_front _ a b (all_perm (Has c) (Permᴰ.symm d) (all_has_itself c))

pub has_from_mem : {A : Type 0} {a : A} {l : List A} → Memᴰ a l → Has l a
has_from_mem (Memᴰ.head e) = (0, omega arith, λ d. sym e)
has_from_mem (Memᴰ.tail m) = let h = has_from_mem m in (suc h.0, omega arith, h.2)
