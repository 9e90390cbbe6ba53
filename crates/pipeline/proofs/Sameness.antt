-- Rows whose keys are same within as a given key.
use Rattle.std.proofs.Common.{◌≡◌, ℕ, suc, ◌+◌, ◌<◌, true, false, cond, List, [], ◌∷◌, ◌++◌, length, take, drop, Ordering, Less, Equal, Greater, Option, sym, refl, ap, ◌∙◌, subst, zero-add, arith}
use Rattle.std.proofs.lemmas.Iterator.{index_from_first}
use Rattle.std.specs.List.{AllWithin, HoldsAt}
use Rattle.std.specs.Option.{MatchOption, unwrap_or}
use Rattle.std.specs.Ordering.{is_ne}
use Rattle.std.proofs.lemmas.Bool.{false≢true}
use Rattle.rows.specs.declared.row.Row.{Row}
use Rattle.rows.specs.Order.{is_same}
use Rattle.pipeline.specs.Held.{same_run, AllSame, Differs, GoesOn}

module _ {K : Type 0} (within : K → K → Ordering) (key : K) where
  abbrev run : List (Row K) → ℕ
  run l = same_run within key l

  run_same : (x : Row K) (l : List (Row K)) → within key x.key ≡ Equal → run (x ∷ l) ≡ suc (run l)
  run_same x l e = ap (λ o. cond (is_same o) (suc (run l)) 0) e

  run_ends : (x : Row K) (l : List (Row K)) → is_same (within key x.key) ≡ false → run (x ∷ l) ≡ 0
  run_ends x l e = ap (λ t. cond t (suc (run l)) 0) e

  -- all of the first are same, and the next is not
  pub run_all_same : (l : List (Row K)) → AllSame within key (take (run l) l)
  run_all_same [] = tt
  run_all_same (x ∷ l) = go (run_all_same l) (within key x.key) refl where
    go : AllSame within key (take (run l) l) → (o : Ordering) → within key x.key ≡ o → AllSame within key (take (run (x ∷ l)) (x ∷ l))
    go rest Less e = subst (λ n. AllSame within key (take n (x ∷ l))) (sym (run_ends x l (ap is_same e))) tt
    go rest Equal e = subst (λ n. AllSame within key (take n (x ∷ l))) (sym (run_same x l e)) (e, rest)
    go rest Greater e = subst (λ n. AllSame within key (take n (x ∷ l))) (sym (run_ends x l (ap is_same e))) tt

  pub run_differs : (l : List (Row K)) → Differs within key (drop (run l) l)
  run_differs [] = tt
  run_differs (x ∷ l) = go (run_differs l) (within key x.key) refl where
    go : Differs within key (drop (run l) l) → (o : Ordering) → within key x.key ≡ o → Differs within key (drop (run (x ∷ l)) (x ∷ l))
    go rest Less e = subst (λ n. Differs within key (drop n (x ∷ l))) (sym (run_ends x l (ap is_same e))) (λ f. let z : Less ≡ Equal = sym e ∙ f in let no : ◌≡◌ {A = ℕ} 0 1 = cc in omega arith)
    go rest Equal e = subst (λ n. Differs within key (drop n (x ∷ l))) (sym (run_same x l e)) rest
    go rest Greater e = subst (λ n. Differs within key (drop n (x ∷ l))) (sym (run_ends x l (ap is_same e))) (λ f. let z : Greater ≡ Equal = sym e ∙ f in let no : ◌≡◌ {A = ℕ} 0 1 = cc in omega arith)

  pub run_goes_on : (l : List (Row K)) → GoesOn within key l (run l)
  run_goes_on [] all next = sym (zero-add (run next))
  run_goes_on (x ∷ l) all next = go (run_goes_on l) (within key x.key) refl where
    ends : is_same (within key x.key) ≡ false → run ((x ∷ l) ++ next) ≡ run (x ∷ l) + run next
    ends e = absurd (let z : run (x ∷ l) ≡ 0 = run_ends x l e in omega arith)

    go : GoesOn within key l (run l) → (o : Ordering) → within key x.key ≡ o → run ((x ∷ l) ++ next) ≡ run (x ∷ l) + run next
    go rest Less e = ends (ap is_same e)
    go rest Equal e =
        let one : run (x ∷ l) ≡ suc (run l) = run_same x l e in
        let every : run l ≡ length l = omega arith in
        let more : run (l ++ next) ≡ run l + run next = rest every next in
        let first : run (x ∷ (l ++ next)) ≡ suc (run (l ++ next)) = run_same x (l ++ next) e in
        omega arith
    go rest Greater e = ends (ap is_same e)

  -- they are those before the first that is not same
  pub run_first : (l : List (Row K)) (r : Option ℕ)
      → MatchOption r (AllWithin (λ x. is_ne (within key x.key) ≡ false) l 0 (length l)) (λ i. (i < length l) × HoldsAt (λ x. is_ne (within key x.key) ≡ true) l i × AllWithin (λ x. is_ne (within key x.key) ≡ false) l 0 i)
      → run l ≡ unwrap_or r (length l)
  run_first = index_from_first run (λ x. is_ne (within key x.key) ≡ true) (λ x. is_ne (within key x.key) ≡ false) refl
      (λ x l e. run_ends x l (differs (within key x.key) e)) (λ x l e. run_same x l (equal (within key x.key) e) ∙ one_more (run l))
    where
      differs : (o : Ordering) → is_ne o ≡ true → is_same o ≡ false
      differs Less e = refl
      differs Equal e = absurd (false≢true e)
      differs Greater e = refl

      equal : (o : Ordering) → is_ne o ≡ false → o ≡ Equal
      equal Less e = absurd (false≢true (sym e))
      equal Equal e = refl
      equal Greater e = absurd (false≢true (sym e))

      one_more : (n : ℕ) → suc n ≡ n + 1
      one_more n = omega arith

-- what is promised of the number
pub record Read {K : Type 0} (within : K → K → Ordering) (key : K) (rows : List (Row K)) (n : ℕ) : Type 0 where
  pub value : n ≡ same_run within key rows
  pub same : AllSame within key (take n rows)
  pub longest : Differs within key (drop n rows)
  pub onward : GoesOn within key rows n

pub read : {K : Type 0} (within : K → K → Ordering) (key : K) (rows : List (Row K)) (n : ℕ) → n ≡ same_run within key rows → Read within key rows n
read within key rows n e = record {
  value = e;
  same = subst (λ m. AllSame within key (take m rows)) (sym e) (run_all_same within key rows);
  longest = subst (λ m. Differs within key (drop m rows)) (sym e) (run_differs within key rows);
  onward = subst (λ m. GoesOn within key rows m) (sym e) (run_goes_on within key rows);
}
