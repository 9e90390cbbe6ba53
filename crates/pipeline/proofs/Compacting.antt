-- Loops that go over a list and move what is left of it to its front.
use Rattle.std.proofs.Common.{◌≡◌, ℕ, ◌+◌, ◌-◌, ◌<◌, ◌≤◌, List, [], ◌∷◌, ◌++◌, length, get_or, take, drop, set, sym, ap, ◌∙◌, append_assoc, append-nil, arith}
use Rattle.std.proofs.lemmas.List.{take_more_set, drop-set-lt, drop_more, drop_all, drop-drop, get_or-drop, length-set, length-take-le}

-- F s l is what the loop, in the state s, leaves of l. ys began as xs; of its first i entries k are left, and stand in front;
-- from i on it is as it was.
pub record Compacting {E S : Type 0} (F : S → List E → List E) (whole xs ys : List E) (k i : ℕ) (s : S) : Type 0 where
  pub front : take k ys ++ F s (drop i xs) ≡ whole
  pub rest : drop i ys ≡ drop i xs
  pub behind : k ≤ i
  pub within : i ≤ length xs
  pub long : length ys ≡ length xs

module _ {E S : Type 0} {F : S → List E → List E} {whole xs ys : List E} {k i : ℕ} {s : S} (h : Compacting F whole xs ys k i s) where
  -- what is not read yet is as it was
  pub unread : (n : ℕ) (d : E) → i ≤ n → get_or ys n d ≡ get_or xs n d
  unread n d l =
      let e : i + (n - i) ≡ n = omega arith in
      ap (λ m. get_or ys m d) (sym e) ∙ sym (get_or-drop i ys (n - i) d) ∙ ap (λ r. get_or r (n - i) d) h.rest ∙ get_or-drop i xs (n - i) d ∙ ap (λ m. get_or xs m d) e

  drop_rest : drop (i + 1) ys ≡ drop (i + 1) xs
  drop_rest = sym (drop-drop 1 i ys) ∙ ap (drop 1) h.rest ∙ drop-drop 1 i xs

  read_on : (d : E) → i < length xs → F s (drop i xs) ≡ F s (get_or ys i d ∷ drop (i + 1) xs)
  read_on d l = ap (F s) (drop_more xs i d l ∙ ap (λ x. x ∷ drop (i + 1) xs) (sym (unread i d (omega arith))))

  -- the entry read goes
  pub compacting_drop : (s' : S) (d : E) → i < length xs → F s (get_or ys i d ∷ drop (i + 1) xs) ≡ F s' (drop (i + 1) xs)
      → Compacting F whole xs ys k (i + 1) s'
  compacting_drop s' d l turn = record {
    front = ap (λ r. take k ys ++ r) (sym turn ∙ sym (read_on d l)) ∙ h.front;
    rest = drop_rest;
    behind = omega arith;
    within = omega arith;
    long = h.long;
  }

  -- y is written for the entry read
  pub compacting_write : (s' : S) (d y : E) → i < length xs → F s (get_or ys i d ∷ drop (i + 1) xs) ≡ y ∷ F s' (drop (i + 1) xs)
      → Compacting F whole xs (set ys k y) (k + 1) (i + 1) s'
  compacting_write s' d y l turn = record {
    front =
        ap (λ r. r ++ F s' (drop (i + 1) xs)) (take_more_set ys k y (omega arith)) ∙ append_assoc (take k ys) (y ∷ []) (F s' (drop (i + 1) xs))
        ∙ ap (λ r. take k ys ++ r) (sym turn ∙ sym (read_on d l)) ∙ h.front;
    rest = drop-set-lt (i + 1) ys k y (omega arith) ∙ drop_rest;
    behind = omega arith;
    within = omega arith;
    long = length-set ys k y ∙ h.long;
  }

  pub compacting_front : length xs ≤ i → F s [] ≡ [] → take k ys ≡ whole
  compacting_front l e =
      sym (append-nil (take k ys)) ∙ ap (λ r. take k ys ++ r) (sym e) ∙ ap (λ r. take k ys ++ F s r) (sym (drop_all i xs l)) ∙ h.front

  pub compacting_count : length xs ≤ i → F s [] ≡ [] → k ≡ length whole
  compacting_count l e = sym (length-take-le k ys (omega arith)) ∙ ap length (compacting_front l e)
