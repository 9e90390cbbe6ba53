-- The batches held, which are the first of an array: changes of the last one, sums of their rows, which of them leave.
use Rattle.std.proofs.Common.{◌≡◌, ℕ, zero, suc, ◌+◌, ◌-◌, ◌<◌, ◌≤◌, min, Bool, true, false, cond, ◌&&◌, ltb, leb, List, [], ◌∷◌, ◌++◌, length, get_or, take, drop, set, Option, sym, refl, ap, ◌∙◌, arith}
use Rattle.std.proofs.lemmas.Iterator.{index_from_first}
use Rattle.std.proofs.lemmas.List.Sums.{sum_by-cons}
use Rattle.std.specs.List.{AllWithin, HoldsAt, sum_by}
use Rattle.std.specs.Option.{MatchOption, unwrap_or}
use Rattle.std.proofs.lemmas.Bool.{lt-ltb, le-leb, and_from, and_right}
use Rattle.pipeline.specs.declared.batch.BufferedBatch.{BufferedBatch}
use Rattle.pipeline.specs.declared.held.BufferedData.{BufferedData}
use Rattle.pipeline.specs.Batches.{rows_of}
use Rattle.pipeline.specs.Held.{Holding, on_last, tail_end, most_end, can_push, can_extend, can_seed, can_dequeue, is_consumed, leaving}
use Rattle.pipeline.proofs.Fronts.{take_least}

abbrev pub with_batches : Holding → List BufferedBatch → Holding
with_batches h l = record { batches = l; base = h.base; held = h.held; start = h.start; end = h.end; matched = h.matched }

-- the batches l are left, and r rows are gone
abbrev pub with_rows_gone : Holding → ℕ → List BufferedBatch → Holding
with_rows_gone h r l = record { batches = l; base = h.base + r; held = h.held - r; start = h.start - r; end = h.end - r; matched = h.matched }

-- the answers
module _ (h : Holding) where
  pub can_push_yes : (n : ℕ) → length h.batches < 64 → h.base + h.held + n ≤ 16777215 → true ≡ can_push n h
  can_push_yes n few fits = sym (and_from (ltb (length h.batches) 64) (leb (h.base + h.held + n) 16777215) (lt-ltb _ _ few) (le-leb _ _ fits))

  -- t is how far the last batch's range goes
  module _ (k t : ℕ) (is : tail_end h.batches ≡ t) where
    reaches : leb (tail_end h.batches + k) most_end ≡ leb (t + k) most_end
    reaches = ap (λ n. leb (n + k) most_end) is

    yes_if : (within : Bool) → within ≡ true → 0 < length h.batches → true ≡ leb (t + k) most_end → true ≡ (ltb 0 (length h.batches) && (within && leb (tail_end h.batches + k) most_end))
    yes_if within w some fits = sym (and_from (ltb 0 (length h.batches)) (within && leb (tail_end h.batches + k) most_end) (lt-ltb _ _ some) (and_from within (leb (tail_end h.batches + k) most_end) w (reaches ∙ sym fits)))

    no_if : (within : Bool) → false ≡ leb (t + k) most_end → false ≡ (ltb 0 (length h.batches) && (within && leb (tail_end h.batches + k) most_end))
    no_if within past = sym (and_right (ltb 0 (length h.batches)) (within && leb (tail_end h.batches + k) most_end) (and_right within (leb (tail_end h.batches + k) most_end) (reaches ∙ sym past)))

  pub can_extend_yes : (k t : ℕ) → tail_end h.batches ≡ t → 0 < length h.batches → h.end + k ≤ h.held → true ≡ leb (t + k) most_end → true ≡ can_extend k h
  can_extend_yes k t is some within fits = yes_if k t is (leb (h.end + k) h.held) (le-leb _ _ within) some fits

  pub can_extend_no : (k t : ℕ) → tail_end h.batches ≡ t → false ≡ leb (t + k) most_end → false ≡ can_extend k h
  can_extend_no k t is past = no_if k t is (leb (h.end + k) h.held) past

  pub can_seed_yes : (t : ℕ) → tail_end h.batches ≡ t → 0 < length h.batches → h.end < h.held → true ≡ leb (t + 1) most_end → true ≡ can_seed h
  can_seed_yes t is some within fits = yes_if 1 t is (ltb h.end h.held) (lt-ltb _ _ within) some fits

  pub can_seed_no : (t : ℕ) → tail_end h.batches ≡ t → false ≡ leb (t + 1) most_end → false ≡ can_seed h
  can_seed_no t is past = no_if 1 t is (ltb h.end h.held) past

  pub can_dequeue_yes : (k : ℕ) → k ≤ length h.batches → rows_of (take k h.batches) ≤ h.start → true ≡ can_dequeue k h
  can_dequeue_yes k some free = sym (and_from (leb k (length h.batches)) (leb (rows_of (take k h.batches)) h.start) (le-leb _ _ some) (le-leb _ _ free))

-- the last of the first m
on_last_suc : (f : BufferedBatch → BufferedBatch) (l : List BufferedBatch) (n : ℕ) (d : BufferedBatch) → n < length l → take (suc n) (set l n (f (get_or l n d))) ≡ on_last f (take (suc n) l)
on_last_suc f [] n d h = absurd (omega arith)
on_last_suc f (x ∷ l) zero d h = refl
on_last_suc f (x ∷ []) (suc n) d h = absurd (omega arith)
on_last_suc f (x ∷ y ∷ l) (suc n) d h = ap (λ (t : List BufferedBatch). x ∷ t) (on_last_suc f (y ∷ l) n d (omega arith))

pub last_changed : (f : BufferedBatch → BufferedBatch) (l : List BufferedBatch) (m : ℕ) (d x : BufferedBatch) → 0 < m → m ≤ length l → x ≡ f (get_or l (m - 1) d) → take m (set l (m - 1) x) ≡ on_last f (take m l)
last_changed f l zero d x h k e = absurd (omega arith)
last_changed f l (suc n) d x h k e =
    let p : suc n - 1 ≡ n = omega arith in
    ap (λ y. take (suc n) (set l (suc n - 1) y)) e ∙ ap (λ j. take (suc n) (set l j (f (get_or l j d)))) p ∙ on_last_suc f l n d (omega arith)

tail_end_suc : (l : List BufferedBatch) (n : ℕ) (d : BufferedBatch) → n < length l → tail_end (take (suc n) l) ≡ (get_or l n d).end
tail_end_suc [] n d h = absurd (omega arith)
tail_end_suc (x ∷ l) zero d h = refl
tail_end_suc (x ∷ []) (suc n) d h = absurd (omega arith)
tail_end_suc (x ∷ y ∷ l) (suc n) d h = tail_end_suc (y ∷ l) n d (omega arith)

pub tail_end_is : (l : List BufferedBatch) (m : ℕ) (d : BufferedBatch) → 0 < m → m ≤ length l → tail_end (take m l) ≡ (get_or l (m - 1) d).end
tail_end_is l zero d h k = absurd (omega arith)
tail_end_is l (suc n) d h k =
    let p : suc n - 1 ≡ n = omega arith in
    tail_end_suc l n d (omega arith) ∙ ap (λ j. (get_or l j d).end) (sym p)

-- sums of rows
pub rows_of_last : (f : BufferedBatch → BufferedBatch) → ((b : BufferedBatch) → (f b).rows ≡ b.rows) → (l : List BufferedBatch) → rows_of (on_last f l) ≡ rows_of l
rows_of_last f same [] = refl
rows_of_last f same (b ∷ []) = ap (λ n. n + 0) (same b)
rows_of_last f same (b ∷ c ∷ l) = ap (λ n. b.rows + n) (rows_of_last f same (c ∷ l))

pub rows_of_push : (l : List BufferedBatch) (b : BufferedBatch) → rows_of (l ++ b ∷ []) ≡ rows_of l + b.rows
rows_of_push [] b = omega arith
rows_of_push (x ∷ l) b = let e = rows_of_push l b in omega arith

pub rows_of_split : (k : ℕ) (l : List BufferedBatch) → rows_of (take k l) + rows_of (drop k l) ≡ rows_of l
rows_of_split zero l = omega arith
rows_of_split (suc k) [] = refl
rows_of_split (suc k) (x ∷ l) = let e = rows_of_split k l in omega arith

pub rows_behind : (k r n : ℕ) (l : List BufferedBatch) → r ≡ rows_of (take k l) → rows_of l ≡ n → rows_of (drop k l) ≡ n - r
rows_behind k r n l e f = let split = rows_of_split k l in omega arith

pub counted : (i a b n : ℕ) → a ≡ suc b → i + a ≡ n → (i + 1) + b ≡ n
counted i a b n e f = omega arith

rows_of_from : (l : List BufferedBatch) → rows_of l ≡ sum_by (λ b. b.rows) l
rows_of_from [] = refl
rows_of_from (x ∷ l) = ap (λ n. x.rows + n) (rows_of_from l) ∙ sym (sum_by-cons (λ (b : BufferedBatch). b.rows) x l)

-- the sum over the first k, or over all where they are fewer
pub rows_of_least : (s : BufferedData) (k m : ℕ) → m ≡ min k s.count → sum_by (λ (b : BufferedBatch). b.rows) (take m s.batches) ≡ rows_of (take k (take s.count s.batches))
rows_of_least s k m e =
    sym (rows_of_from (take m s.batches)) ∙ ap (λ j. rows_of (take j s.batches)) e ∙ ap rows_of (take_least s.batches k s.count)

-- how many batches leave: those before the first that is not consumed
pub leaving_first : (l : List BufferedBatch) (r : Option ℕ)
    → MatchOption r (AllWithin (λ b. is_consumed b ≡ true) l 0 (length l)) (λ i. (i < length l) × HoldsAt (λ b. is_consumed b ≡ false) l i × AllWithin (λ b. is_consumed b ≡ true) l 0 i)
    → length (leaving l) ≡ unwrap_or r (length l)
leaving_first = index_from_first (λ l. length (leaving l)) (λ b. is_consumed b ≡ false) (λ b. is_consumed b ≡ true) refl
    (λ b l e. ap (λ t. length (cond t (b ∷ leaving l) [])) e)
    (λ b l e. ap (λ t. length (cond t (b ∷ leaving l) [])) e ∙ one_more (length (leaving l)))
  where
    one_more : (n : ℕ) → suc n ≡ n + 1
    one_more n = omega arith
