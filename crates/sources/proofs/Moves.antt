-- Rows changed in place, from the first on.
use Rattle.std.proofs.Common.{◌≡◌, ℕ, ◌+◌, ◌<◌, ◌≤◌, List, [], ◌++◌, map, length, get_or, take, drop, set, sym, ap, ◌∙◌, append_assoc, append-nil, arith, take_all, drop-set-lt}
use Rattle.std.proofs.lemmas.List.{take_more_set, at_drop_more, at_drop_all}

-- The first i elements are changed by f and the others not yet, out of those that make up `whole` once all are changed.
module _ {A : Type 0} (f : A → A) (xs whole : List A) (i : ℕ) (inv : take i xs ++ map f (drop i xs) ≡ whole) where
  pub changed_more : (d y : A) → i < length xs → y ≡ f (get_or xs i d)
      → take (i + 1) (set xs i y) ++ map f (drop (i + 1) (set xs i y)) ≡ whole
  changed_more d y h turn =
      let k : i < i + 1 = omega arith in
      rw (take_more_set xs i y h, drop-set-lt (i + 1) xs i y k, append_assoc, turn)
      (sym (at_drop_more (λ l. take i xs ++ map f l) xs i d h) ∙ inv)

  pub changed_all : length xs ≤ i → xs ≡ whole
  changed_all h =
      sym (append-nil xs) ∙ ap (λ l. l ++ []) (sym (take_all i xs h)) ∙ sym (at_drop_all (λ l. take i xs ++ map f l) xs i h) ∙ inv
