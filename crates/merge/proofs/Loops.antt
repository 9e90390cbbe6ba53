-- A loop over the rows of a log that adds records: what is added, and what the rows left still add.
use Rattle.std.proofs.Common.{◌≡◌, ℕ, suc, ◌+◌, ◌<◌, ◌≤◌, Bool, true, false, List, [], ◌∷◌, ◌++◌, map, length, get_or, drop, refl, ◌∙◌, append_assoc, append-nil, add-one}
use mathlib.Core.List.{map-append}
use Rattle.std.proofs.lemmas.List.{drop_more, drop_all}
use Rattle.rows.specs.declared.record.Record.{Record}
use Rattle.rows.specs.declared.record.Record.TheVariants.{Pair}
use Rattle.merge.specs.Table.{when, listed, pairs_of, all_pairs}
use Rattle.merge.proofs.Listed.{map-listed}

-- `adds i l` is what the rows l, from place i on, add to the table; `piece i x` is what the row x at place i adds
module _ {X : Type 0} (adds : ℕ → List X → List Record) (piece : ℕ → X → List Record)
    (none : (i : ℕ) → adds i [] ≡ []) (some : (i : ℕ) (x : X) (l : List X) → adds i (x ∷ l) ≡ piece i x ++ adds (suc i) l) (l : List X) (i : ℕ) (items total : List Record) (inv : items ++ adds i (drop i l) ≡ total) where
  -- the items after the row x have its piece at their end
  pub added_more : (x : X) → i < length l → x ≡ get_or l i x → (items' : List Record) → items' ≡ items ++ piece i x → items' ++ adds (i + 1) (drop (i + 1) l) ≡ total
  added_more x h e items' u =
      let left = drop_more l i x h in
      let first = some i x (drop (i + 1) l) in
      rw (u, append_assoc items (piece i x) (adds (i + 1) (drop (i + 1) l))) (rw (left, ← e, first, ← add-one i) at inv)

  pub added_all : length l ≤ i → items ≡ total
  added_all h = rw (drop_all i l h, none i, append-nil items) at inv

-- the items after records are added if a test passes
module _ (t : Bool) (l items items' : List Record) where
  pub added_if : true ≡ t → items' ≡ items ++ l → items' ≡ items ++ when t l
  added_if e k = rw (← e) k

  pub added_unless : false ≡ t → items' ≡ items → items' ≡ items ++ when t l
  added_unless e k = rw (← e, append-nil items) k

-- the first streamed row's pairs, and those of the others
pub pairs_more : {X : Type 0} (passes : X → X → Bool) (f : Record → Record) (j : ℕ) (b : List X) (i : ℕ) (x : X) (s : List X)
    → map f (all_pairs passes i (x ∷ s) j b) ≡ listed (λ k. f (Pair i k)) (passes x) j b ++ map f (all_pairs passes (suc i) s j b)
pairs_more passes f j b i x s = map-append f (pairs_of passes i x j b) _ ∙ rw (map-listed (Pair i) (passes x) f (λ k. f (Pair i k)) (λ _. refl) j b) refl
