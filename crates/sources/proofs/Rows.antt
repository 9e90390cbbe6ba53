-- The rows of a batch's commands, one by one.
use Rattle.std.proofs.Common.{◌≡◌, ℕ, zero, suc, ◌+◌, ◌-◌, ◌*◌, ◌/◌, ◌<◌, ◌≤◌, List, [], ◌∷◌, ◌++◌, length, get_or, take, drop, set, ℤ, sym, refl, ap, ◌∙◌, suc-mul, zero-mul, div-mul-le_self, mul-div_cancel, arith, w8, to_z}
use Rattle.std.proofs.Math.Nat.{mul-le-mul_right}
use Rattle.std.proofs.Math.Numerals.{add-one}
use Rattle.std.proofs.lemmas.List.{take_rest, take-take, drop-drop, drop-take, get_or-take, length-take-le, length-take, take_all, take_more_set, length-drop}
use Rattle.std.specs.Int.Digits.{number_from_digits}
use Rattle.rows.specs.declared.reading.Reading.{Reading}
use Rattle.rows.specs.declared.row.Row.{Row}
use Rattle.sources.specs.declared.batch.Operands.{Operands}
use Rattle.sources.specs.Layout.{Layout, field}
use Rattle.sources.specs.Log.{reading_of, row_of}
use Rattle.sources.specs.Coming.{Apart, row_width, rows_of, rows_in}

-- a part of the front of a list is that part of the list
pub inner_part : {X : Type 0} (i k n : ℕ) (xs : List X) → i + k ≤ n → take k (drop i (take n xs)) ≡ take k (drop i xs)
inner_part i k n xs h =
    let parts : n ≡ i + (n - i) = omega arith in
    let inside : k ≤ n - i = omega arith in
    ap (λ m. take k (drop i (take m xs))) parts ∙ ap (take k) (drop-take i (n - i) xs) ∙ take-take k (n - i) (drop i xs) inside

abbrev pub reading_with : ℕ → ℤ → ℕ → Reading
reading_with m l r = record { moment = m; level = l; receiver = r }

pub same_reading : (m n : ℕ) (l k : ℤ) (r s : ℕ) → m ≡ n → l ≡ k → r ≡ s → reading_with m l r ≡ reading_with n k s
same_reading m n l k r s a b c = ap (λ x. reading_with x l r) a ∙ ap (λ x. reading_with n x r) b ∙ ap (λ x. reading_with n k x) c

abbrev pub row_with : {K : Type 0} → K → Reading → Row K
row_with k r = record { key = k; reading = r }

module _ {K : Type 0} (L : Layout K) where
  pub length_rows_of : (n : ℕ) (bytes : List ℕ) → length (rows_of L n bytes) ≡ n
  length_rows_of zero bytes = refl
  length_rows_of (suc n) bytes = ap suc (length_rows_of n (drop (row_width L) bytes))

  -- one row more at the end
  pub rows_of_more : (n : ℕ) (bytes : List ℕ) → rows_of L (suc n) bytes ≡ rows_of L n bytes ++ (row_of L (drop 1 (drop (n * row_width L) bytes)) ∷ [])
  rows_of_more zero bytes = ap (λ m. row_of L (drop 1 (drop m bytes)) ∷ []) (sym (zero-mul (row_width L)))
  rows_of_more (suc n) bytes =
      let w = row_width L in
      let there : drop (n * w) (drop w bytes) ≡ drop (suc n * w) bytes = drop-drop (n * w) w bytes ∙ ap (λ m. drop m bytes) (omega (arith, suc-mul n w)) in
      ap (λ rows. row_of L (drop 1 bytes) ∷ rows) (rows_of_more n (drop w bytes) ∙ ap (λ bs. rows_of L n (drop w bytes) ++ (row_of L (drop 1 bs) ∷ [])) there)

  reading_front : (n : ℕ) (bytes : List ℕ) → L.width + 7 ≤ n → reading_of (drop L.width (take n bytes)) ≡ reading_of (drop L.width bytes)
  reading_front n bytes h =
      let w = L.width in
      let ends : n ≡ w + (n - w) = omega arith in
      let front : drop w (take n bytes) ≡ take (n - w) (drop w bytes) = ap (λ m. drop w (take m bytes)) ends ∙ drop-take w (n - w) bytes in
      let moment : field 0 4 (take (n - w) (drop w bytes)) ≡ field 0 4 (drop w bytes) = ap (number_from_digits 256) (inner_part 0 4 (n - w) (drop w bytes) (omega arith)) in
      let level : get_or (take (n - w) (drop w bytes)) 4 0 ≡ get_or (drop w bytes) 4 0 = get_or-take (n - w) (drop w bytes) 4 0 (omega arith) in
      let receiver : field 5 2 (take (n - w) (drop w bytes)) ≡ field 5 2 (drop w bytes) = ap (number_from_digits 256) (inner_part 5 2 (n - w) (drop w bytes) (omega arith)) in
      ap reading_of front ∙ same_reading _ _ _ _ _ _ moment (ap (to_z w8) level) receiver

  -- a row's operands are the first bytes
  row_front : (n : ℕ) (bytes : List ℕ) → L.width + 7 ≤ n → row_of L (take n bytes) ≡ row_of L bytes
  row_front n bytes h =
      let inside : L.width ≤ n = omega arith in
      let key : L.decoded (take L.width (take n bytes)) ≡ L.decoded (take L.width bytes) = ap L.decoded (take-take L.width n bytes inside) in
      let reading : reading_of (drop L.width (take n bytes)) ≡ reading_of (drop L.width bytes) = reading_front n bytes h in
      ap (λ k. row_with k (reading_of (drop L.width (take n bytes)))) key ∙ ap (row_with (L.decoded (take L.width bytes))) reading

  -- rows of which no more is held
  rows_front : (n m : ℕ) (bytes : List ℕ) → n * row_width L ≤ m → rows_of L n (take m bytes) ≡ rows_of L n bytes
  rows_front zero m bytes h = refl
  rows_front (suc n) m bytes h =
      let w = row_width L in
      let size : w + n * w ≤ m = omega (arith, suc-mul n w) in
      let first : row_of L (drop 1 (take m bytes)) ≡ row_of L (drop 1 bytes) =
      ap (λ k. row_of L (drop 1 (take k bytes))) (omega arith) ∙ ap (row_of L) (drop-take 1 (m - 1) bytes) ∙ row_front (m - 1) (drop 1 bytes) (omega arith) in
      let others : rows_of L n (drop w (take m bytes)) ≡ rows_of L n (drop w bytes) =
      ap (λ k. rows_of L n (drop w (take k bytes))) (omega arith) ∙ ap (rows_of L n) (drop-take w (m - w) bytes) ∙ rows_front n (m - w) (drop w bytes) (omega arith) in
      ap (λ r. r ∷ rows_of L n (drop w (take m bytes))) first ∙ ap (λ rs. row_of L (drop 1 bytes) ∷ rs) others

  pub rows_in_front : (n : ℕ) (bytes : List ℕ) → n * row_width L ≤ length bytes → rows_in L (take (n * row_width L) bytes) ≡ rows_of L n bytes
  rows_in_front n bytes h =
      let w = row_width L in
      let some : 0 < w = omega arith in
      ap (λ m. rows_of L (m / w) (take (n * w) bytes)) (length-take-le (n * w) bytes h)
      ∙ ap (λ m. rows_of L m (take (n * w) bytes)) (mul-div_cancel n some)
      ∙ rows_front n (n * w) bytes (omega arith)

-- the row in operands that were taken apart, from a command on
pub row_apart : {K : Type 0} (L : Layout K) (rest : List ℕ) (row : Operands) (key : K) → Apart L (take (length rest - 1) (drop 1 rest)) row → key ≡ L.decoded row.key.now
    → row_with key row.reading ≡ row_of L (drop 1 rest)
row_apart L rest row key a e =
    let after = take (length rest - 1) (drop 1 rest) in
    ap (λ k. row_with k row.reading) (e ∙ ap L.decoded a.key) ∙ ap (row_with (L.decoded (take L.width after))) a.reading ∙ ap (row_of L) (take_rest rest 1)

pub rest_apart : {K : Type 0} (L : Layout K) (rest : List ℕ) (row : Operands) → Apart L (take (length rest - 1) (drop 1 rest)) row → row.rest.now ≡ drop (row_width L) rest
rest_apart L rest row a =
    a.rest ∙ ap (drop (L.width + 7)) (take_rest rest 1) ∙ drop-drop (L.width + 7) 1 rest ∙ ap (λ m. drop m rest) (omega arith)

module _ {K : Type 0} (L : Layout K) (rows : List ℕ) where
  -- so many rows of the bytes are within them
  rows_within : (n : ℕ) → n ≤ length rows / row_width L → n * row_width L ≤ length rows
  rows_within n h =
      let few : n * row_width L ≤ length rows / row_width L * row_width L = mul-le-mul_right (row_width L) h in
      omega (arith, few, div-mul-le_self (length rows) (row_width L))

  -- A loop that writes rows into a memory, of which it has written i.
  pub record Writing (i : ℕ) (memory : List (Row K)) (rest : List ℕ) : Type 0 where
    pub behind : rest ≡ drop (i * row_width L) rows
    pub written : take i memory ≡ rows_of L i rows

  module _ (i : ℕ) (memory : List (Row K)) (rest : List ℕ) (w : Writing i memory rest) (count : ℕ) (before : List (Row K)) (e : count ≡ length (rows_in L rows)) (t : i < length (take count before)) where
    more : i < length rows / row_width L
    more = omega (arith, t, e, length-take count before, length_rows_of L (length rows / row_width L) rows)

    -- the next row is whole
    pub row_room : row_width L ≤ length rest
    row_room =
        omega (arith, ap length w.behind, length-drop (i * row_width L) rows, rows_within (suc i) more, suc-mul i (row_width L))

    pub writing_more : (next : List ℕ) (r : Row K) → i < length memory → r ≡ row_of L (drop 1 rest) → next ≡ drop (row_width L) rest → Writing (i + 1) (set memory i r) next
    writing_more next r l er en =
        let w' = row_width L in
        record {
          behind = en ∙ ap (drop w') w.behind ∙ drop-drop w' (i * w') rows ∙ ap (λ m. drop m rows) (omega (arith, suc-mul i w'));
          written =
              take_more_set memory i r l
              ∙ ap (λ xs. xs ++ (r ∷ [])) w.written
              ∙ ap (λ x. rows_of L i rows ++ (x ∷ [])) (er ∙ ap (λ bs. row_of L (drop 1 bs)) w.behind)
              ∙ sym (rows_of_more L i rows)
              ∙ ap (λ m. rows_of L m rows) (sym (add-one i));
        }

  pub writing_all : (i : ℕ) (memory : List (Row K)) (rest : List ℕ) → Writing i memory rest → i ≡ length (rows_in L rows) → length memory ≤ i → memory ≡ rows_in L rows
  writing_all i memory rest w e all =
      sym (take_all i memory all) ∙ w.written ∙ ap (λ m. rows_of L m rows) (e ∙ length_rows_of L (length rows / row_width L) rows)
