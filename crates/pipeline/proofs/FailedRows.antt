-- The rows of a batch whose pairs all failed, one by one.
use Rattle.std.proofs.Common.{◌≡◌, ℕ, zero, suc, ◌+◌, ◌<◌, ◌≤◌, true, false, cond, List, [], ◌∷◌, ◌++◌, length, take, drop, set, Some, sym, refl, ap, ◌∙◌, append_assoc, append-nil, suc-add, zero-add, arith}
use Rattle.std.proofs.lemmas.List.{take_more_set, take_at, take_all, drop_all, length-take-le}
use Rattle.rows.specs.declared.kind.Kind.{Kind}
use Rattle.pipeline.specs.declared.entry.Entry.{Entry}
use Rattle.pipeline.specs.declared.states.FilterState.{FilterState}
use Rattle.pipeline.specs.declared.states.FilterState.TheVariants.{Unvisited, AllFailed, SomePassed}
use Rattle.pipeline.specs.Entries.{lone}
use Rattle.pipeline.specs.Orient.{buffered_alone}
use Rattle.pipeline.specs.States.{state_at, if_failed, failed}
use Rattle.pipeline.specs.Block.{all_failed}

state_at_take : (l : List FilterState) (n i : ℕ) → i < n → state_at i (take n l) ≡ state_at i l
state_at_take [] zero i h = absurd (omega arith)
state_at_take [] (suc n) i h = refl
state_at_take (x ∷ l) zero i h = absurd (omega arith)
state_at_take (x ∷ l) (suc n) zero h = refl
state_at_take (x ∷ l) (suc n) (suc i) h = state_at_take l n i (omega arith)

state_at_drop : (from i : ℕ) (l : List FilterState) → state_at i (drop from l) ≡ state_at (from + i) l
state_at_drop zero i l = ap (λ n. state_at n l) (sym (zero-add i))
state_at_drop (suc from) i [] = refl
state_at_drop (suc from) i (x ∷ l) = state_at_drop from i l ∙ ap (λ n. state_at n (x ∷ l)) (sym (suc-add from i))

-- the state of row i of the batch
pub state_in_batch : (l : List FilterState) (from n i : ℕ) → i < n → state_at (from + i) l ≡ state_at i (take n (drop from l))
state_in_batch l from n i h = sym (state_at_drop from i l) ∙ sym (state_at_take (drop from l) n i h)

if_all_failed : (s : FilterState) (j : ℕ) (kind : Kind) → if_failed s j kind ≡ cond (all_failed (Some s)) (lone (buffered_alone kind j) ∷ []) []
if_all_failed Unvisited j kind = refl
if_all_failed AllFailed j kind = refl
if_all_failed SomePassed j kind = refl

nil_dropped : (n : ℕ) → drop {A = FilterState} n [] ≡ []
nil_dropped zero = refl
nil_dropped (suc n) = refl

-- row i, and those after it
failed_more : (kind : Kind) (j i : ℕ) (l : List FilterState)
    → failed kind (j + i) (drop i l) ≡ cond (all_failed (state_at i l)) (lone (buffered_alone kind (j + i)) ∷ []) [] ++ failed kind (j + (i + 1)) (drop (i + 1) l)
failed_more kind j zero [] = refl
failed_more kind j (suc i) [] = ap (λ (l : List FilterState). failed kind (j + (suc i + 1)) l) (sym (nil_dropped (suc i + 1)))
failed_more kind j zero (s ∷ l) =
    let next : suc (j + 0) ≡ j + 1 = omega arith in
    ap (λ r. r ++ failed kind (suc (j + 0)) l) (if_all_failed s (j + 0) kind)
    ∙ ap (λ n. cond (all_failed (Some s)) (lone (buffered_alone kind (j + 0)) ∷ []) [] ++ failed kind n l) next
failed_more kind j (suc i) (s ∷ l) =
    let here : j + suc i ≡ suc j + i = omega arith in
    let next : suc j + (i + 1) ≡ j + (suc i + 1) = omega arith in
    let one : suc (i + 1) ≡ suc i + 1 = omega arith in
    ap (λ n. failed kind n (drop i l)) here ∙ failed_more kind (suc j) i l
    ∙ ap (λ n. cond (all_failed (state_at i l)) (lone (buffered_alone kind n) ∷ []) [] ++ failed kind (suc j + (i + 1)) (drop (i + 1) l)) (sym here)
    ∙ ap (λ n. cond (all_failed (state_at i l)) (lone (buffered_alone kind (j + suc i)) ∷ []) [] ++ failed kind n (drop (i + 1) l)) next
    ∙ ap (λ n. cond (all_failed (state_at i l)) (lone (buffered_alone kind (j + suc i)) ∷ []) [] ++ failed kind (j + (suc i + 1)) (drop n (s ∷ l))) one

module _ (kind : Kind) (j i : ℕ) (l : List FilterState) (out : List Entry) (count : ℕ) (inv : take count out ++ failed kind (j + i) (drop i l) ≡ failed kind j l) where
  pub failed_write : (e : Entry) → e ≡ lone (buffered_alone kind (j + i)) → all_failed (state_at i l) ≡ true → count < length out
      → take (count + 1) (set out count e) ++ failed kind (j + (i + 1)) (drop (i + 1) l) ≡ failed kind j l
  failed_write e is all inside =
      let rest = failed kind (j + (i + 1)) (drop (i + 1) l) in
      ap (λ r. r ++ rest) (take_more_set out count e inside) ∙ append_assoc (take count out) (e ∷ []) rest
      ∙ ap (λ x. take count out ++ x ∷ rest) is
      ∙ ap (λ r. take count out ++ r) (sym (failed_more kind j i l ∙ ap (λ t. cond t (lone (buffered_alone kind (j + i)) ∷ []) [] ++ rest) all)) ∙ inv

  pub failed_skip : all_failed (state_at i l) ≡ false → take count out ++ failed kind (j + (i + 1)) (drop (i + 1) l) ≡ failed kind j l
  failed_skip none =
      ap (λ r. take count out ++ r) (sym (failed_more kind j i l ∙ ap (λ t. cond t (lone (buffered_alone kind (j + i)) ∷ []) [] ++ failed kind (j + (i + 1)) (drop (i + 1) l)) none)) ∙ inv

  -- the space is full
  pub failed_full : count ≡ length out → take count out ≡ take (length out) (failed kind j l)
  failed_full full =
      let long : length (take count out) ≡ length out = length-take-le count out (omega arith) ∙ full in
      sym (ap (take (length out)) (sym inv) ∙ take_at (take count out) (failed kind (j + i) (drop i l)) (length out) long)

  -- every row was seen
  pub failed_all : length l ≤ i → count ≤ length out → take count out ≡ take (length out) (failed kind j l)
  failed_all past fits =
      let whole : take count out ≡ failed kind j l = sym (append-nil (take count out)) ∙ ap (λ r. take count out ++ failed kind (j + i) r) (sym (drop_all i l past)) ∙ inv in
      let long : length (failed kind j l) ≤ length out = omega (arith, ap length whole, length-take-le count out fits) in
      whole ∙ sym (take_all (length out) (failed kind j l) long)
