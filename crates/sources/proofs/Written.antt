-- What is written is read again.
use Rattle.std.proofs.Common.{◌≡◌, ℕ, zero, suc, ◌+◌, ◌*◌, ◌/◌, ◌%◌, ◌^◌, ◌<◌, ◌≤◌, true, eqb, List, [], ◌∷◌, ◌++◌, length, take, drop, Ok, sym, refl, ap, ◌∙◌, div-lt_iff_lt-mul, pow-suc, div-add-mod', arith, w8, SFits, eq-eqb}
use Rattle.std.specs.Int.Digits.{number_from_digits}
use Rattle.std.specs.List.{flat_map, AllByRecursion}
use Rattle.std.proofs.lemmas.Int.Digits.{number_push}
use Rattle.std.proofs.lemmas.List.{append-nil, append_assoc, length-append, take_at, drop_at, drop-drop}
use Rattle.std.proofs.lemmas.Int.{to_z-of_z}
use Rattle.rows.specs.declared.reading.Reading.{Reading}
use Rattle.rows.specs.declared.row.Row.{Row}
use Rattle.sources.specs.Layout.{in_bytes, Layout, ReadsBack}
use Rattle.sources.specs.Log.{row, reading_of, row_of, commands, batches_from, closing_of, log_batches, log_closing}
use Rattle.sources.specs.Written.{reading_bytes, row_bytes, batch_bytes, log_bytes, Fits}
use Rattle.sources.proofs.Rows.{same_reading, row_with}
use Rattle.sources.proofs.Scan.{row_whole}

pub number_in_bytes : (width n : ℕ) → n < 256 ^ width → number_from_digits 256 (in_bytes width n) ≡ n
number_in_bytes zero n h = let small : n < 1 = h in omega arith
number_in_bytes (suc width) n h =
    let split : n < 256 ^ width * 256 = rw (pow-suc 256 width) at h in
    let less : n / 256 < 256 ^ width = (div-lt_iff_lt-mul {k = 256} (omega arith)).1 split in
    number_push 256 (in_bytes width (n / 256)) (n % 256)
    ∙ ap (λ m. m * 256 + n % 256) (number_in_bytes width (n / 256) less)
    ∙ div-add-mod' n 256

reading_back : (r : Reading) (tail : List ℕ) → r.moment < 2 ^ 32 → SFits w8 r.level → r.receiver < 2 ^ 16 → reading_of (reading_bytes r ++ tail) ≡ r
reading_back r tail m l v =
    same_reading _ _ _ _ _ _ (number_in_bytes 4 r.moment m) (to_z-of_z w8 r.level l) (number_in_bytes 2 r.receiver v)

module _ {K : Type 0} (L : Layout K) (back : (key : K) → L.fits key ≡ true → ReadsBack L key) (total : ℕ) where
  row_reads : (r : Row K) (tail : List ℕ) → Fits L r → commands L total 0 (row_bytes L r ++ tail) ≡ row r (commands L total 0 tail)
  row_reads r tail f =
      let w = L.width in
      let key = L.encoded r.key in
      let reading = reading_bytes r.reading in
      let after = (key ++ reading) ++ tail in
      let b = back r.key f.key in
      let parts : after ≡ key ++ (reading ++ tail) = append_assoc key reading tail in
      let front : take w after ≡ key = ap (take w) parts ∙ take_at key (reading ++ tail) w b.sized in
      let others : drop w after ≡ reading ++ tail = ap (drop w) parts ∙ drop_at key (reading ++ tail) w b.sized in
      let long : w + 7 ≤ length after = omega (arith, ap length parts, length-append key (reading ++ tail), length-append reading tail, b.sized) in
      let rest : drop (w + 7) after ≡ tail = sym (drop-drop 7 w after) ∙ ap (drop 7) others in
      let same : row_of L after ≡ r =
      ap (λ k. row_with k (reading_of (drop w after))) (ap L.decoded front ∙ b.same)
      ∙ ap (row_with r.key) (ap reading_of others ∙ reading_back r.reading tail f.moment f.level f.receiver) in
      row_whole L total after long (ap L.valid front ∙ b.sound)
      ∙ ap (λ x. row x (commands L total 0 (drop (w + 7) after))) same
      ∙ ap (λ bs. row r (commands L total 0 bs)) rest

  rows_read : (rows before : List (Row K)) (tail : List ℕ) → AllByRecursion (Fits L) rows
      → (batches_from before (commands L total 0 (flat_map (row_bytes L) rows ++ (2 ∷ tail))) ≡ (before ++ rows) ∷ batches_from [] (commands L total 0 tail))
      × (closing_of (commands L total 0 (flat_map (row_bytes L) rows ++ (2 ∷ tail))) ≡ closing_of (commands L total 0 tail))
  rows_read [] before tail f = (ap (λ rows. rows ∷ batches_from [] (commands L total 0 tail)) (sym (append-nil before)), refl)
  rows_read (r ∷ rows) before tail f =
      let more = flat_map (row_bytes L) rows ++ (2 ∷ tail) in
      let step : commands L total 0 (flat_map (row_bytes L) (r ∷ rows) ++ (2 ∷ tail)) ≡ row r (commands L total 0 more) =
      ap (commands L total 0) (append_assoc (row_bytes L r) (flat_map (row_bytes L) rows) (2 ∷ tail)) ∙ row_reads r more f.0 in
      let next = rows_read rows (before ++ (r ∷ [])) tail f.1 in (
        ap (batches_from before) step ∙ next.0 ∙ ap (λ rs. rs ∷ batches_from [] (commands L total 0 tail)) (append_assoc before (r ∷ []) rows),
        ap closing_of step ∙ next.1,
      )

  batches_read : (batches : List (List (Row K))) → AllByRecursion (AllByRecursion (Fits L)) batches
      → (batches_from [] (commands L total 0 (flat_map (batch_bytes L) batches ++ (3 ∷ []))) ≡ batches)
      × (closing_of (commands L total 0 (flat_map (batch_bytes L) batches ++ (3 ∷ []))) ≡ Ok tt)
  batches_read [] f = (refl, refl)
  batches_read (rows ∷ batches) f =
      let tail = flat_map (batch_bytes L) batches ++ (3 ∷ []) in
      let split : flat_map (batch_bytes L) (rows ∷ batches) ++ (3 ∷ []) ≡ flat_map (row_bytes L) rows ++ (2 ∷ tail) =
      append_assoc (batch_bytes L rows) (flat_map (batch_bytes L) batches) (3 ∷ []) ∙ append_assoc (flat_map (row_bytes L) rows) (2 ∷ []) tail in
      let first = rows_read rows [] tail f.0 in
      let others = batches_read batches f.1 in (
        ap (λ bs. batches_from [] (commands L total 0 bs)) split ∙ first.0 ∙ ap (λ bs. rows ∷ bs) others.0,
        ap (λ bs. closing_of (commands L total 0 bs)) split ∙ first.1 ∙ others.1,
      )

pub written_means : {K : Type 0} (L : Layout K) → ((key : K) → L.fits key ≡ true → ReadsBack L key) → (batches : List (List (Row K))) → AllByRecursion (AllByRecursion (Fits L)) batches
    → (log_batches L (log_bytes L batches) ≡ batches) × (log_closing L (log_bytes L batches) ≡ Ok tt)
written_means L back batches f =
    let code : eqb L.code L.code ≡ true = eq-eqb L.code L.code refl in
    let read = batches_read L back (length (log_bytes L batches)) batches f in
    (rw code read.0, rw code read.1)
