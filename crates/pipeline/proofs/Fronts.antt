-- Lists of which only the first elements count, as of an array that is filled from its start.
use Rattle.std.proofs.Common.{◌≡◌, ℕ, ◌+◌, ◌-◌, ◌<◌, ◌≤◌, min, List, ◌++◌, length, get_or, take, drop, set, replicate, sym, ap, ◌∙◌, ⊎_elim, zero-le, zero-add, arith, length-drop, length-take, take_all, take-take}
use lib.ListN.{length-replicate}
use lib.Seq.{paste, set-get_or}
use Rattle.std.proofs.lemmas.List.Edits.{take-paste}
use Rattle.std.proofs.lemmas.List.{drop_all}
use Rattle.std.proofs.lemmas.Slice.{between_is}
use Rattle.std.proofs.lemmas.Bool.{cases_lt}

pub set_same : {X : Type 0} (l : List X) (i : ℕ) (d x : X) → x ≡ get_or l i d → set l i x ≡ l
set_same l i d x e = ap (set l i) e ∙ set-get_or l i d

-- the first elements after i behind them were written
pub filled_behind : {X : Type 0} (l l' : List X) (at at' n i : ℕ) (y : X) → at ≤ length l → at' ≡ at → l' ≡ paste l at (replicate i y) i → i ≡ n → take (at' + n) l' ≡ take at l ++ replicate n y
filled_behind l l' at at' n i y h p q e =
    let long : length (replicate n y) ≡ n = length-replicate n y in
    ap (λ a. take (a + n) l') p ∙ ap (take (at + n)) q ∙ ap (λ j. take (at + n) (paste l at (replicate j y) j)) e
    ∙ take-paste l at (replicate n y) n h (omega arith) ∙ ap (λ t. take at l ++ t) (take_all n (replicate n y) (omega arith))

-- the first elements after those behind the first k of n moved to the front
pub moved_to_front : {X : Type 0} (l l' : List X) (k n : ℕ) → n ≤ length l → l' ≡ paste l 0 (drop k l) (n - k) → take (n - k) l' ≡ drop k (take n l)
moved_to_front l l' k n h e =
    let long : length (drop k l) ≡ length l - k = length-drop k l in
    let m = n - k in
    ap (take m) e ∙ ap (λ a. take a (paste l 0 (drop k l) m)) (sym (zero-add m)) ∙ take-paste l 0 (drop k l) m zero-le (omega arith) ∙ between_is l k n

-- to drop more than there are is to drop all
pub drop_most : {X : Type 0} (l : List X) (k n : ℕ) → drop (min k n) (take n l) ≡ drop k (take n l)
drop_most l k n = ⊎_elim
    (λ (h : k < n). let e : min k n ≡ k = omega arith in ap (λ j. drop j (take n l)) e)
    (λ (h : n ≤ k). let e : min k n ≡ n = omega arith in
    let few : length (take n l) ≤ n = simp length-take (omega arith) in
    ap (λ j. drop j (take n l)) e ∙ drop_all n (take n l) (omega arith) ∙ sym (drop_all k (take n l) (omega arith)))
    (cases_lt k n)

-- the first k of the first n
pub take_least : {X : Type 0} (l : List X) (k n : ℕ) → take (min k n) l ≡ take k (take n l)
take_least l k n = ⊎_elim
    (λ (h : k < n). let e : min k n ≡ k = omega arith in ap (λ j. take j l) e ∙ sym (take-take k n l (omega arith)))
    (λ (h : n ≤ k). let e : min k n ≡ n = omega arith in
    let few : length (take n l) ≤ n = simp length-take (omega arith) in
    ap (λ j. take j l) e ∙ sym (take_all k (take n l) (omega arith)))
    (cases_lt k n)
