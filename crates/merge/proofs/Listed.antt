-- Records of the rows that pass a test, as `listed` has them, and lists kept or left out by a test.
use Rattle.std.proofs.Common.{◌≡◌, ℕ, zero, suc, ◌+◌, ◌≤◌, Bool, true, false, List, [], ◌∷◌, ◌++◌, map, length, sym, refl, ◌∙◌, append_assoc, append-nil, add-zero, zero-add, arith}
use mathlib.Core.List.{Memᴰ, map-append}
use mathlib.Core.List.Memᴰ
use mathlib.Core.Bool.{false≢true}
use Rattle.std.specs.List.{AllByRecursion, list_any}
use Rattle.std.proofs.ByRecursion.{All-weaker, All-append}
use Rattle.std.proofs.lemmas.Bool.{or_parts}
use Rattle.std.proofs.lemmas.List.Folds.{list_any-append}
use Rattle.rows.specs.declared.record.Record.{Record}
use Rattle.merge.specs.Table.{when, listed}
use Rattle.merge.specs.Members.{StandsAt}

pub shift : (k j : ℕ) → suc k + j ≡ k + suc j
shift k j = omega arith

-- ---- lists kept by a test

module _ {A : Type 0} where
  pub all_when : (P : A → Type 0) (t : Bool) (l : List A) → (t ≡ true → AllByRecursion P l) → AllByRecursion P (when t l)
  all_when P true l h = h refl
  all_when P false l h = tt

  pub mem_when : (t : Bool) (a : A) (l : List A) → t ≡ true → Memᴰ a l → Memᴰ a (when t l)
  mem_when true a l e m = m
  mem_when false a l e m = absurd (false≢true e)

  pub when_append : (t : Bool) (a b : List A) → when t (a ++ b) ≡ when t a ++ when t b
  when_append true a b = refl
  when_append false a b = refl

map-when : {A B : Type 0} (f : A → B) (t : Bool) (l : List A) → map f (when t l) ≡ when t (map f l)
map-when f true l = refl
map-when f false l = refl

-- ---- whether a row passes

module _ {X : Type 0} (p : X → Bool) where
  pub none_passes : (l : List X) → AllByRecursion (λ x. p x ≡ false) l → list_any p l ≡ false
  none_passes [] h = refl
  none_passes (x ∷ l) h = rw h.0 (none_passes l h.1)

  -- rows none of which passes change nothing
  pub any_front : (l r : List X) → AllByRecursion (λ x. p x ≡ false) r → list_any p (l ++ r) ≡ list_any p l
  any_front [] r h = none_passes r h
  any_front (x ∷ l) r h = rw (any_front l r h)

  pub any_back : (l r : List X) → AllByRecursion (λ x. p x ≡ false) l → list_any p (l ++ r) ≡ list_any p r
  any_back l r h = list_any-append p l r ∙ rw (none_passes l h)

-- ---- the records listed

module _ {X : Type 0} (name : ℕ → Record) (test : X → Bool) where
  pub all_listed : (P : Record → Type 0) (i : ℕ) (l : List X) → ((k : ℕ) → i ≤ k → P (name k)) → AllByRecursion P (listed name test i l)
  all_listed P i [] h = tt
  all_listed P i (x ∷ l) h = All-append P (when (test x) (name i ∷ [])) _ (all_when P (test x) _ (λ _. (h i (omega arith), tt))) (all_listed P (suc i) l (λ k q. h k (omega arith)))

  pub listed_append : (i : ℕ) (l r : List X) → listed name test i (l ++ r) ≡ listed name test i l ++ listed name test (i + length l) r
  listed_append i [] r = rw add-zero
  listed_append i (x ∷ l) r = rw (listed_append (suc i) l r, shift i (length l)) (sym (append_assoc (when (test x) (name i ∷ [])) _ _))

  pub listed_none : (i : ℕ) (l : List X) → list_any test l ≡ false → listed name test i l ≡ []
  listed_none i [] e = refl
  listed_none i (x ∷ l) e = let k = or_parts (test x) (list_any test l) e in rw k.0 (listed_none (suc i) l k.1)

  -- rows none of which passes add nothing, behind l and before r
  pub listed_front : (i : ℕ) (l r : List X) → AllByRecursion (λ x. test x ≡ false) r → listed name test i (l ++ r) ≡ listed name test i l
  listed_front i l r h = listed_append i l r ∙ rw (listed_none (i + length l) r (none_passes test r h)) (append-nil _)

  pub listed_back : (i : ℕ) (l r : List X) → AllByRecursion (λ x. test x ≡ false) l → listed name test i (l ++ r) ≡ listed name test (i + length l) r
  listed_back i l r h = listed_append i l r ∙ rw (listed_none i l (none_passes test l h))

  -- the row at place k of l is named by i + k
  pub listed_has : (i : ℕ) (l : List X) (k : ℕ) (x : X) → StandsAt l k x → test x ≡ true → Memᴰ (name (k + i)) (listed name test i l)
  listed_has i [] k x h e = absurd h
  listed_has i (z ∷ l) zero x h e = rw zero-add (Memᴰ.append_left _ (mem_when (test z) (name i) _ (rw h e) (Memᴰ.head refl)))
  listed_has i (z ∷ l) (suc k) x h e = Memᴰ.append_right (when (test z) (name i ∷ [])) (rw (shift k i) (listed_has (suc i) l k x h e))

  -- and the other way round
  abbrev pub Named : ℕ → List X → Record → Type 0
  Named i l r = (k : ℕ) × (x : X) × (r ≡ name (k + i)) × StandsAt l k x × (test x ≡ true)

  pub listed_named : (i : ℕ) (l : List X) → AllByRecursion (Named i l) (listed name test i l)
  listed_named i [] = tt
  listed_named i (z ∷ l) = All-append (Named i (z ∷ l)) (when (test z) (name i ∷ [])) _
      (all_when _ (test z) _ (λ e. ((0, z, rw zero-add, refl, e), tt)))
      (All-weaker (Named (suc i) l) _ (λ r h. (suc h.0, h.1, rw (shift h.0 i) h.2, h.3, h.4)) _ (listed_named (suc i) l))

  -- the same rows under other names
  pub map-listed : (f : Record → Record) (name' : ℕ → Record) → ((i : ℕ) → f (name i) ≡ name' i) → (i : ℕ) (l : List X) → map f (listed name test i l) ≡ listed name' test i l
  map-listed f name' named i [] = refl
  map-listed f name' named i (x ∷ l) =
      rw (map-append f (when (test x) (name i ∷ [])) (listed name test (suc i) l), map-when f (test x) (name i ∷ []), named i, map-listed f name' named (suc i) l) refl
