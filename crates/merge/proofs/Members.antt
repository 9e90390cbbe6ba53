-- The joined table has just the records that belong to it.
use Rattle.std.proofs.Common.{◌≡◌, ℕ, zero, suc, ◌+◌, Bool, true, false, not, List, [], ◌∷◌, sym, refl, subst, add-zero, zero-add}
use mathlib.Core.List.Memᴰ
use mathlib.Core.List.{Memᴰ}
use Rattle.std.specs.List.{AllByRecursion, list_any}
use Rattle.std.proofs.lemmas.Bool.{or_parts, or_from, not-true, not_from_false}
use Rattle.std.proofs.ByRecursion.{All-weaker, All-append}
use Rattle.merge.specs.Table.{when, meets_buffered, meets_streamed, pairs_of, all_pairs, lone_streamed, table}
use Rattle.rows.specs.declared.record.Record.{Record}
use Rattle.rows.specs.declared.record.Record.TheVariants.{Pair, LeftAlone, RightAlone}
use Rattle.merge.specs.Members.{StandsAt, Belongs}
use Rattle.merge.proofs.Listed.{shift, all_when, mem_when, listed_has, Named, listed_named}

module _ {X : Type 0} (p : X → Bool) where
  any_none : (l : List X) → list_any p l ≡ false → (k : ℕ) (x : X) → StandsAt l k x → p x ≡ false
  any_none [] e k x h = absurd h
  any_none (z ∷ l) e zero x h = rw h at (or_parts (p z) (list_any p l) e).0
  any_none (z ∷ l) e (suc k) x h = any_none l (or_parts (p z) _ e).1 k x h

  none_any : (l : List X) → ((k : ℕ) (x : X) → StandsAt l k x → p x ≡ false) → list_any p l ≡ false
  none_any [] h = refl
  none_any (z ∷ l) h = or_from _ _ (h 0 z refl) (none_any l (λ k x s. h (suc k) x s))

module _ {X : Type 0} (passes : X → X → Bool) where
  -- places k and l of what is left are i + k and j + l of the whole
  mem_all_pairs : (i : ℕ) (s : List X) (j : ℕ) (b : List X) (k : ℕ) (x : X) (l : ℕ) (y : X) → StandsAt s k x → StandsAt b l y → passes x y ≡ true → Memᴰ (Pair (k + i) (l + j)) (all_pairs passes i s j b)
  mem_all_pairs i [] j b k x l y h g e = absurd h
  mem_all_pairs i (z ∷ s) j b zero x l y h g e = rw zero-add (Memᴰ.append_left _ (listed_has (Pair i) (passes z) j b l y g (rw h e)))
  mem_all_pairs i (z ∷ s) j b (suc k) x l y h g e = Memᴰ.append_right (pairs_of passes i z j b) (rw (shift k i) (mem_all_pairs (suc i) s j b k x l y h g e))

  -- and the other way round
  abbrev PairIn : ℕ → List X → ℕ → List X → Record → Type 0
  PairIn i s j b r = (l : ℕ) × (k : ℕ) × (x y : X) × (r ≡ Pair (l + i) (k + j)) × StandsAt s l x × StandsAt b k y × (passes x y ≡ true)

  all_pairs_name : (i : ℕ) (s : List X) (j : ℕ) (b : List X) → AllByRecursion (PairIn i s j b) (all_pairs passes i s j b)
  all_pairs_name i [] j b = tt
  all_pairs_name i (z ∷ s) j b = All-append (PairIn i (z ∷ s) j b) (pairs_of passes i z j b) _
      (All-weaker (Named (Pair i) (passes z) j b) _ (λ r h. (0, h.0, z, h.1, rw zero-add h.2, refl, h.3, h.4)) _ (listed_named (Pair i) (passes z) j b))
      (All-weaker (PairIn (suc i) s j b) _ (λ r h. (suc h.0, h.1, h.2, h.3, rw (shift h.0 i) h.4, h.5, h.6, h.7)) _ (all_pairs_name (suc i) s j b))

  module _ (keeps_streamed keeps_buffered : Bool) (s b : List X) where
    pub table_has : (r : Record) → Belongs passes keeps_streamed keeps_buffered s b r → Memᴰ r (table passes keeps_streamed keeps_buffered s b)
    table_has (Pair i j) h = Memᴰ.append_left _ (rw (add-zero i, add-zero j) at (mem_all_pairs 0 s 0 b i h.0 j h.1 h.2 h.3 h.4))
    table_has (LeftAlone i) h = Memᴰ.append_right (all_pairs passes 0 s 0 b) (Memᴰ.append_left _ (mem_when keeps_streamed _ _ h.3 (rw (add-zero i) at (listed_has LeftAlone (λ x. not (meets_buffered passes x b)) 0 s i h.0 h.1 (not_from_false _ (none_any (passes h.0) b h.2))))))
    table_has (RightAlone j) h = Memᴰ.append_right (all_pairs passes 0 s 0 b) (Memᴰ.append_right (when keeps_streamed (lone_streamed passes 0 s b)) (mem_when keeps_buffered _ _ h.3 (rw (add-zero j) at (listed_has RightAlone (λ y. not (meets_streamed passes s y)) 0 b j h.0 h.1 (not_from_false _ (none_any (λ x. passes x h.0) s h.2))))))

    abbrev FitsIn : Record → Type 0
    FitsIn = Belongs passes keeps_streamed keeps_buffered s b

    pub table_only : AllByRecursion (Belongs passes keeps_streamed keeps_buffered s b) (table passes keeps_streamed keeps_buffered s b)
    table_only = All-append _ (all_pairs passes 0 s 0 b) _
        (All-weaker (PairIn 0 s 0 b) _ (λ r h. subst FitsIn (sym h.4) (rw (add-zero h.0, add-zero h.1) (h.2, h.3, h.5, h.6, h.7))) _ (all_pairs_name 0 s 0 b))
        (All-append _ (when keeps_streamed (lone_streamed passes 0 s b)) _
        (all_when _ keeps_streamed _ (λ e. All-weaker (Named LeftAlone _ 0 s) _ (λ r h. subst FitsIn (sym h.2) (rw (add-zero h.0) (h.1, h.3, any_none (passes h.1) b (not-true _ h.4), e))) _ (listed_named LeftAlone _ 0 s)))
        (all_when _ keeps_buffered _ (λ e. All-weaker (Named RightAlone _ 0 b) _ (λ r h. subst FitsIn (sym h.2) (rw (add-zero h.0) (h.1, h.3, any_none (λ x. passes x h.1) s (not-true _ h.4), e))) _ (listed_named RightAlone _ 0 b))))
