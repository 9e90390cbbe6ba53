-- The joined table has no record twice.
use Rattle.std.proofs.Common.{◌≡◌, ℕ, suc, ◌≤◌, Bool, true, false, ◌≢◌, List, [], ◌∷◌, ◌++◌, sym, ◌∙◌, subst, arith}
use mathlib.Core.List.{Permᴰ}
use Rattle.std.specs.List.{AllByRecursion}
use Rattle.std.proofs.ByRecursion.{All-weaker, All-append}
use Rattle.merge.specs.Table.{when, listed, pairs_of, all_pairs, lone_streamed, table, Distinct}
use Rattle.rows.specs.declared.record.Record.{Record}
use Rattle.rows.specs.declared.record.Record.TheVariants.{Pair, LeftAlone, RightAlone}
use Rattle.merge.proofs.Listed.{all_when, all_listed}

module _ {A : Type 0} where
  pub distinct_when : (t : Bool) (l : List A) → Distinct l → Distinct (when t l)
  distinct_when true l h = h
  distinct_when false l h = tt

  pub distinct_append : (a b : List A) → Distinct a → Distinct b → AllByRecursion (λ x. AllByRecursion (λ y. x ≢ y) b) a → Distinct (a ++ b)
  distinct_append [] b h k f = k
  distinct_append (x ∷ a) b h k f = (All-append _ a b h.0 f.0, distinct_append a b h.1 k f.1)

  -- what P holds of and what Q holds of are never the same
  pub apart : (P Q : A → Type 0) (a b : List A) → ((x y : A) → P x → Q y → x ≢ y) → AllByRecursion P a → AllByRecursion Q b → AllByRecursion (λ x. AllByRecursion (λ y. x ≢ y) b) a
  apart P Q a b f h k = All-weaker P _ (λ x p. All-weaker Q _ (λ y q. f x y p q) b k) a h

  pub all_front : (P : A → Type 0) (a b : List A) → AllByRecursion P (a ++ b) → AllByRecursion P a
  all_front P [] b h = tt
  all_front P (x ∷ a) b h = (h.0, all_front P a b h.1)

  pub distinct_front : (a b : List A) → Distinct (a ++ b) → Distinct a
  distinct_front [] b h = tt
  distinct_front (x ∷ a) b h = (all_front _ a b h.0, distinct_front a b h.1)

  pub all_perm : (P : A → Type 0) {a b : List A} → Permᴰ a b → AllByRecursion P a → AllByRecursion P b
  all_perm P Permᴰ.nil h = tt
  all_perm P (Permᴰ.cons e d) h = (subst P e h.0, all_perm P d h.1)
  all_perm P (Permᴰ.swap e f) h = (subst P f h.1.0, (subst P e h.0, h.1.1))
  all_perm P (Permᴰ.trans d d') h = all_perm P d' (all_perm P d h)

  pub distinct_perm : {a b : List A} → Permᴰ a b → Distinct a → Distinct b
  distinct_perm Permᴰ.nil h = tt
  distinct_perm (Permᴰ.cons {a = x} {l₂ = l} e d) h = (All-weaker _ _ (λ y k q. k (e ∙ q)) l (all_perm (λ y. x ≢ y) d h.0), distinct_perm d h.1)
  distinct_perm (Permᴰ.swap {l = l} e f) h = ((λ q. h.0.0 (e ∙ sym q ∙ sym f), All-weaker _ _ (λ y k q. k (f ∙ q)) l h.1.0), (All-weaker _ _ (λ y k q. k (e ∙ q)) l h.0.1, h.1.1))
  distinct_perm (Permᴰ.trans d d') h = distinct_perm d' (distinct_perm d h)

module _ {X : Type 0} (name : ℕ → Record) (test : X → Bool) (apart : (i j : ℕ) → name i ≡ name j → i ≡ j) where
  listed_distinct : (i : ℕ) (l : List X) → Distinct (listed name test i l)
  listed_distinct i [] = tt
  listed_distinct i (x ∷ l) = distinct_append (when (test x) (name i ∷ [])) _ (distinct_when (test x) _ (tt, tt)) (listed_distinct (suc i) l)
      (all_when _ (test x) _ (λ _. (all_listed name test _ (suc i) l (λ k q e. omega (arith, apart i k e)), tt)))

module _ {X : Type 0} (passes : X → X → Bool) where
  all_all_pairs : (P : Record → Type 0) (i : ℕ) (s : List X) (j : ℕ) (b : List X) → ((k l : ℕ) → i ≤ k → P (Pair k l)) → AllByRecursion P (all_pairs passes i s j b)
  all_all_pairs P i [] j b h = tt
  all_all_pairs P i (x ∷ s) j b h = All-append P (pairs_of passes i x j b) _ (all_listed (Pair i) (passes x) P j b (λ l q. h i l (omega arith))) (all_all_pairs P (suc i) s j b (λ k l q. h k l (omega arith)))

  row_apart : (i j k l : ℕ) → Pair i j ≡ Pair k l → i ≡ k
  row_apart i j k l e = cc

  all_pairs_distinct : (i : ℕ) (s : List X) (j : ℕ) (b : List X) → Distinct (all_pairs passes i s j b)
  all_pairs_distinct i [] j b = tt
  all_pairs_distinct i (x ∷ s) j b = distinct_append (pairs_of passes i x j b) _ (listed_distinct (Pair i) (passes x) (λ _ _ e. cc) j b) (all_pairs_distinct (suc i) s j b)
      (all_listed (Pair i) (passes x) _ j b (λ l q. all_all_pairs _ (suc i) s j b (λ k m w e. omega (arith, row_apart i l k m e))))

  -- pairs, lone streamed rows and lone buffered rows are different records
  pub table_distinct : (keeps_streamed keeps_buffered : Bool) (s b : List X) → Distinct (table passes keeps_streamed keeps_buffered s b)
  table_distinct keeps_streamed keeps_buffered s b =
      distinct_append (all_pairs passes 0 s 0 b) _ (all_pairs_distinct 0 s 0 b)
      (distinct_append (when keeps_streamed (lone_streamed passes 0 s b)) _ (distinct_when keeps_streamed _ (listed_distinct LeftAlone _ (λ _ _ e. cc) 0 s)) (distinct_when keeps_buffered _ (listed_distinct RightAlone _ (λ _ _ e. cc) 0 b))
      (all_when _ keeps_streamed _ (λ _. all_listed LeftAlone _ _ 0 s (λ _ _. all_when _ keeps_buffered _ (λ _. all_listed RightAlone _ _ 0 b (λ _ _ e. cc))))))
      (all_all_pairs _ 0 s 0 b (λ _ _ _. All-append _ (when keeps_streamed (lone_streamed passes 0 s b)) _
      (all_when _ keeps_streamed _ (λ _. all_listed LeftAlone _ _ 0 s (λ _ _ e. cc))) (all_when _ keeps_buffered _ (λ _. all_listed RightAlone _ _ 0 b (λ _ _ e. cc)))))
