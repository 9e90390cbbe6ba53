-- Lists that have the same sum under every weight are permutations of each other.
use Rattle.std.proofs.Common.{◌≡◌, ℕ, suc, ◌+◌, ◌<◌, Bool, true, false, cond, ◌&&◌, eqb, List, [], ◌∷◌, ◌++◌, refl, ap, ◌∙◌, arith}
use mathlib.Core.List.Permᴰ
use mathlib.Core.List.{Permᴰ}
use Rattle.std.proofs.lemmas.Bool.{eqb-true, eq-eqb, and_parts, and_from}
use Rattle.rows.specs.declared.record.Record.{Record}
use Rattle.rows.specs.declared.record.Record.TheVariants.{Pair, LeftAlone, RightAlone}
use Rattle.merge.proofs.Perms.{swap_blocks}

-- one more before the count is one more in it
pub shift : (j n : ℕ) → suc j + n ≡ j + suc n
shift j n = omega arith

abbrev pub total : {A : Type 0} → (A → ℕ) → List A → ℕ
total f [] = 0
total f (x ∷ l) = f x + total f l

pub total_append : {A : Type 0} (f : A → ℕ) (a b : List A) → total f (a ++ b) ≡ total f a + total f b
total_append f [] b = omega arith
total_append f (x ∷ a) b = omega (arith, total_append f a b)

abbrev pub Same : {A : Type 0} → List A → List A → Type 0
Same {A} a b = (f : A → ℕ) → total f a ≡ total f b

pub same_from_perm : {A : Type 0} {a b : List A} → Permᴰ a b → Same a b
same_from_perm Permᴰ.nil f = refl
same_from_perm (Permᴰ.cons e d) f = omega (arith, ap f e, same_from_perm d f)
same_from_perm (Permᴰ.swap e e') f = omega (arith, ap f e, ap f e')
same_from_perm (Permᴰ.trans d d') f = same_from_perm d f ∙ same_from_perm d' f

abbrev is_record : Record → Record → Bool
is_record (Pair i j) (Pair k l) = eqb i k && eqb j l
is_record (Pair i j) (LeftAlone k) = false
is_record (Pair i j) (RightAlone k) = false
is_record (LeftAlone i) (Pair k l) = false
is_record (LeftAlone i) (LeftAlone k) = eqb i k
is_record (LeftAlone i) (RightAlone k) = false
is_record (RightAlone i) (Pair k l) = false
is_record (RightAlone i) (LeftAlone k) = false
is_record (RightAlone i) (RightAlone k) = eqb i k

is_itself : (r : Record) → is_record r r ≡ true
is_itself (Pair i j) = and_from _ _ (eq-eqb i i refl) (eq-eqb j j refl)
is_itself (LeftAlone i) = eq-eqb i i refl
is_itself (RightAlone i) = eq-eqb i i refl

is_same : (r q : Record) → is_record r q ≡ true → q ≡ r
is_same (Pair i j) (Pair k l) e = let h = and_parts (eqb i k) (eqb j l) e in let a = eqb-true i k h.0 in let b = eqb-true j l h.1 in cc
is_same (Pair i j) (LeftAlone k) e = cc
is_same (Pair i j) (RightAlone k) e = cc
is_same (LeftAlone i) (Pair k l) e = cc
is_same (LeftAlone i) (LeftAlone k) e = let a = eqb-true i k e in cc
is_same (LeftAlone i) (RightAlone k) e = cc
is_same (RightAlone i) (Pair k l) e = cc
is_same (RightAlone i) (LeftAlone k) e = cc
is_same (RightAlone i) (RightAlone k) e = let a = eqb-true i k e in cc

abbrev one : Record → Record → ℕ
one r q = cond (is_record r q) 1 0

found : (r : Record) (l : List Record) → 0 < total (one r) l → (a b : List Record) × (l ≡ a ++ r ∷ b)
found r [] h = absurd (omega arith)
found r (q ∷ l) h = go (is_record r q) refl (found r l)
  where
    go : (t : Bool) → is_record r q ≡ t → (0 < total (one r) l → (a b : List Record) × (l ≡ a ++ r ∷ b)) → (a b : List Record) × (q ∷ l ≡ a ++ r ∷ b)
    go true e k = ([], l, ap (λ (x : Record). x ∷ l) (is_same r q e))
    go false e k = let m = k (omega (arith, h, none (is_record r q) e)) in (q ∷ m.0, m.1, ap (λ (x : List Record). q ∷ x) m.2)
      where
        none : (t : Bool) → t ≡ false → ◌≡◌ {A = ℕ} (cond t 1 0) 0
        none true e = cc
        none false e = refl

pub perm_from_same : (a b : List Record) → Same a b → Permᴰ a b
perm_from_same [] [] h = Permᴰ.refl []
perm_from_same [] (y ∷ b) h = absurd (omega (arith, h (λ r. 1)))
perm_from_same (x ∷ a) b h =
    let here : 0 < total (one x) b = omega (arith, h (one x), ap {B = ℕ} (λ (t : Bool). cond t 1 0) (is_itself x)) in
    let k = found x b here in
    let rest : Same a (k.0 ++ k.1) = λ f. omega (arith, h f, ap (total f) k.2, total_append f k.0 (x ∷ k.1), total_append f k.0 k.1) in
    rw k.2 (Permᴰ.trans (Permᴰ.cons refl (perm_from_same a (k.0 ++ k.1) rest)) (swap_blocks (x ∷ []) k.0 k.1))
