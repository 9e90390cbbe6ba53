-- The pairs of a streamed row with the run: how many are written at a time, and what is left.
use Rattle.std.proofs.Common.{◌≡◌, ℕ, suc, ◌+◌, ◌-◌, ◌<◌, ◌≤◌, min, ◌⊎◌, List, [], ◌∷◌, ◌++◌, length, take, drop, Some, sym, refl, ap, ◌∙◌, inl, inr, arith}
use borrow.Rule.Slice.PartMut.{put_mid}
use Rattle.std.proofs.lemmas.List.{length-take, length-take-le, length-drop, length-append, take_all, take-take, take_at, take-append-le, drop_all, drop-take, drop_at, nil_from_length}
use Rattle.std.proofs.lemmas.Bool.{cases_lt}
use Rattle.rows.specs.declared.kind.Kind.{Kind}
use Rattle.rows.specs.declared.reading.Reading.{Reading}
use Rattle.rows.specs.declared.row.Row.{Row}
use Rattle.pipeline.specs.declared.entry.StreamedRow.{StreamedRow}
use Rattle.pipeline.specs.declared.held.BufferedData.{BufferedData}
use Rattle.pipeline.specs.Batches.{rows_of}
use Rattle.pipeline.specs.Block.{Queued, pushed}
use Rattle.pipeline.specs.Held.{holding, matching, run_at, run_from, pairs_with}
use Rattle.machine.specs.Machine.{Setting, Streamed, Buffered, Counts, Outcome, going, core, pairing, passing, with_holding, freeze_full, place, pair_row}

-- ---- what is left to pair, of which n rows are paired now: no more than there are, than are left, and than have room

module _ {A : Type 0} (R : List A) (left room n : ℕ) (now : n ≡ min (length R) (min left room)) where
  -- all that there are, or all that are left, or as many as have room
  abbrev Which : Type 0
  Which = (length R ≤ n) ⊎ (((n ≡ left) × (left ≤ room)) ⊎ ((n ≡ room) × (room ≤ left)))

  which : Which
  which = by_length (cases_lt n (length R))
    where
      by_room : n < length R → (left < room) ⊎ (room ≤ left) → Which
      by_room h (inl k) = inr (inl (omega arith, omega arith))
      by_room h (inr k) = inr (inr (omega arith, omega arith))

      by_length : (n < length R) ⊎ (length R ≤ n) → Which
      by_length (inl h) = by_room h (cases_lt left room)
      by_length (inr h) = inl h

  pub taken_now : take room (take left R) ≡ take n R
  taken_now = go which
    where
      go : Which → take room (take left R) ≡ take n R
      go (inl h) = ap (take room) (take_all left R (omega arith)) ∙ take_all room R (omega arith) ∙ sym (take_all n R h)
      go (inr (inl h)) = take_all room (take left R) (omega (arith, length-take left R, h.1)) ∙ ap (λ k. take k R) (sym h.0)
      go (inr (inr h)) = take-take room left R h.1 ∙ ap (λ k. take k R) (sym h.0)

  pub left_over : drop room (take left R) ≡ take (left - n) (drop n R)
  left_over = go which
    where
      go : Which → drop room (take left R) ≡ take (left - n) (drop n R)
      go (inl h) = drop_all room (take left R) (omega (arith, length-take left R)) ∙ sym (ap (take (left - n)) (drop_all n R h) ∙ take_all (left - n) [] (omega arith))
      go (inr (inl h)) = drop_all room (take left R) (omega (arith, length-take left R, h.1)) ∙ sym (ap (λ k. take k (drop n R)) (let z : left - n ≡ 0 = omega (arith, h.0) in z))
      go (inr (inr h)) =
          let z : left ≡ room + (left - room) = omega (arith, h.1) in
          ap (λ k. drop room (take k R)) z ∙ drop-take room (left - room) R ∙ ap (λ k. take (left - k) (drop k R)) (sym h.0)

  pub none_left : n ≡ 0 → 1 ≤ room → take left R ≡ []
  none_left none some = nil_from_length (take left R) (omega (arith, length-take left R))

  pub some_left : 1 ≤ n → 1 ≤ length (take left R)
  some_left some = omega (arith, length-take left R)

-- the held rows alone count
pub run_held : {A : Type 0} (d : BufferedData) (b r : ℕ) (rows : List A) → run_at (holding d) b r (take d.held rows) ≡ run_at (holding d) b r rows
run_held d b r rows =
    let h = holding d in
    ap (λ l. run_from (h.base + rows_of (take b h.batches)) r (drop b h.batches) (drop (rows_of (take b h.batches)) l)) (take-take d.held d.held rows (omega arith))

-- ---- the entries written

module _ {K : Type 0} (kind : Kind) (at : StreamedRow) (place : ℕ) (reading : Reading) where
  pub pairs_length : (l : List (ℕ × Row K)) → length (pairs_with kind at place reading l) ≡ length l
  pairs_length [] = refl
  pairs_length (p ∷ l) = ap suc (pairs_length l)

-- entries at the start of a part of the block: the block is as long as before, and they stand there
pub written_there : {A : Type 0} (block es old : List A) (from most n : ℕ) → length es ≡ n → length old ≡ most → n ≤ most → from + most ≤ length block
    → take n (drop from (put_mid from most block (es ++ drop n old))) ≡ es
written_there block es old from most n long olds within room =
    let ys = es ++ drop n old in
    let all : length ys ≡ most = length-append es (drop n old) ∙ omega (arith, length-drop n old) in
    let d : drop from (put_mid from most block ys) ≡ ys ++ drop most (drop from block) = drop_at (take from block) (ys ++ drop most (drop from block)) from (length-take-le from block (omega arith)) in
    ap (take n) d ∙ take-append-le n ys (drop most (drop from block)) (omega arith) ∙ take_at es (drop n old) n long

-- ---- the machine's step, by whether rows are left to pair

module _ {K : Type 0} (c : Setting K) (x : Row K) (todo : List (ℕ × Row K)) (st : Streamed K) (bf : Buffered K) (q : Queued) (n : Counts) where
  pub pairs_end : todo ≡ [] → pair_row c (Some x) todo st bf q n ≡ going (core st (with_holding c (matching bf.holding) bf) q n passing)
  pairs_end is = ap (λ (l : List (ℕ × Row K)). pair_row c (Some x) l st bf q n) is

  abbrev some_paired : List (ℕ × Row K) → Outcome K
  some_paired l =
      let room = c.size - length q.unfrozen in
      freeze_full c (pairing (drop room l)) st bf (pushed (pairs_with c.kind (record { batch = st.first; row = st.at }) (place c st) x.reading (take room l)) q) n

  pub pairs_go_on : 1 ≤ length todo → pair_row c (Some x) todo st bf q n ≡ some_paired todo
  pairs_go_on some = go todo some
    where
      go : (l : List (ℕ × Row K)) → 1 ≤ length l → pair_row c (Some x) l st bf q n ≡ some_paired l
      go [] some = absurd (omega arith)
      go (p ∷ l) some = refl
