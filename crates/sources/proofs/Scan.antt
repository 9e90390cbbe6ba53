-- A scan over a log's commands, row by row, up to the command that closes the batch or the log.
use Rattle.std.proofs.Common.{◌≡◌, ℕ, zero, suc, ◌+◌, ◌-◌, ◌*◌, ◌<◌, ◌≤◌, true, leb, List, [], ◌∷◌, ◌++◌, length, get_or, take, drop, Some, Ok, Err, sym, refl, ap, ◌∙◌, suc-mul, zero-mul, arith, le-leb}
use Rattle.std.proofs.lemmas.List.{drop-drop, length-drop, length-take, take_rest}
use Rattle.sources.specs.declared.batch.Batch.{Batch}
use Rattle.sources.specs.declared.batch.Operands.{Operands}
use Rattle.sources.specs.declared.fault.SourceFault.TheVariants.{BadCommand}
use Rattle.sources.specs.Meaning.{Closing}
use Rattle.sources.specs.Layout.{Layout}
use Rattle.sources.specs.Log.{row, last, row_of, ended, commands, batches_from, closing_of}
use Rattle.sources.specs.Coming.{Apart, row_width, rows_of, rows_in, Found}
use Rattle.sources.proofs.Rows.{rows_of_more, rows_in_front}

-- what follows the first byte, as the checker reads a pattern's rest
abbrev pub after : List ℕ → List ℕ
after bytes = take (length bytes - 1) (drop 1 bytes)

first_is : (bytes : List ℕ) (command : ℕ) → 0 < length bytes → get_or bytes 0 0 ≡ command → bytes ≡ command ∷ after bytes
first_is [] command l z = absurd (omega arith)
first_is (b ∷ bytes) command l z = ap (λ x. x ∷ bytes) z ∙ ap (λ bs. command ∷ bs) (sym (take_rest (b ∷ bytes) 1))

-- the scan has passed so many whole rows; they stand before the commands of the rest
pub record Passed {K : Type 0} (L : Layout K) (total : ℕ) (bytes rest : List ℕ) : Type 0 where
  pub count : ℕ
  pub inside : count * row_width L ≤ length bytes
  pub behind : rest ≡ drop (count * row_width L) bytes
  pub batches : batches_from (rows_of L count bytes) (commands L total 0 rest) ≡ batches_from [] (commands L total 0 bytes)
  pub closing : closing_of (commands L total 0 rest) ≡ closing_of (commands L total 0 bytes)

module _ {K : Type 0} (L : Layout K) (total : ℕ) where
  commands_past : (n : ℕ) (bytes : List ℕ) → n ≤ length bytes → commands L total n bytes ≡ commands L total 0 (drop n bytes)
  commands_past zero bytes h = refl
  commands_past (suc n) [] h = absurd (omega arith)
  commands_past (suc n) (byte ∷ bytes) h = commands_past n bytes (omega arith)

  -- what command 01 comes to
  pub row_whole : (bytes : List ℕ) → L.width + 7 ≤ length bytes → L.valid (take L.width bytes) ≡ true
      → commands L total 0 (1 ∷ bytes) ≡ row (row_of L bytes) (commands L total 0 (drop (L.width + 7) bytes))
  row_whole bytes h v =
      let is : leb (L.width + 7) (length bytes) ≡ true = le-leb (L.width + 7) (length bytes) h in
      rw (is, v) (ap (row (row_of L bytes)) (commands_past (L.width + 7) bytes h))

  -- whether 03 closes a batch
  last_rows : (n : ℕ) (bytes : List ℕ) (closing : Closing) → 0 < n * row_width L → batches_from (rows_of L n bytes) (last closing) ≡ rows_of L n bytes ∷ []
  last_rows zero bytes closing h = absurd (omega (arith, zero-mul (row_width L)))
  last_rows (suc n) bytes closing h = refl

  last_none : (n : ℕ) (bytes : List ℕ) (closing : Closing) → n * row_width L ≡ 0 → batches_from (rows_of L n bytes) (last closing) ≡ []
  last_none zero bytes closing h = refl
  last_none (suc n) bytes closing h = absurd (omega (arith, suc-mul n (row_width L)))

  too_long : (bytes : List ℕ) → 0 < length bytes → ended total bytes ≡ Err (BadCommand (total - length bytes))
  too_long [] h = absurd (omega arith)
  too_long (byte ∷ bytes) h = refl

  module _ (bytes rest : List ℕ) (p : Passed L total bytes rest) where
    pub passed_length : length rest + p.count * row_width L ≡ length bytes
    passed_length = omega (arith, p.inside, ap length p.behind, length-drop (p.count * row_width L) bytes)

    -- one row more
    pub passed_more : 0 < length rest → get_or rest 0 0 ≡ 1 → (r : Operands) → Apart L (after rest) r → L.valid r.key.now ≡ true → Passed L total bytes r.rest.now
    passed_more l z r a v =
        let w = row_width L in
        let n = p.count in
        let e : rest ≡ 1 ∷ after rest = first_is rest 1 l z in
        let sizes : length rest ≡ suc (length (after rest)) = ap length e in
        let here : drop (n * w) bytes ≡ 1 ∷ after rest = sym p.behind ∙ e in
        let eight : w ≡ suc (L.width + 7) = omega arith in
        let whole : L.width + 7 ≤ length (after rest) = a.whole in
        let good : L.valid (take L.width (after rest)) ≡ true = ap L.valid (sym a.key) ∙ v in
        let step : commands L total 0 rest ≡ row (row_of L (after rest)) (commands L total 0 r.rest.now) =
        ap (commands L total 0) e ∙ row_whole (after rest) a.whole good
        ∙ ap (λ bs. row (row_of L (after rest)) (commands L total 0 bs)) (sym a.rest) in
        let more : rows_of L (suc n) bytes ≡ rows_of L n bytes ++ (row_of L (after rest) ∷ []) =
        rows_of_more L n bytes ∙ ap (λ bs. rows_of L n bytes ++ (row_of L (drop 1 bs) ∷ [])) here in
        record {
          count = suc n;
          inside = omega (arith, passed_length, suc-mul n w);
          behind =
              a.rest ∙ ap (λ m. drop m (1 ∷ after rest)) (sym eight) ∙ ap (drop w) (sym here) ∙ drop-drop w (n * w) bytes ∙ ap (λ m. drop m bytes) (sym (suc-mul n w));
          batches = ap (λ rows. batches_from rows (commands L total 0 r.rest.now)) more ∙ sym (ap (batches_from (rows_of L n bytes)) step) ∙ p.batches;
          closing = sym (ap closing_of step) ∙ p.closing;
        }

    -- the rows passed, from the bytes that hold them
    passed_rows : (held : List ℕ) → held ≡ take (length bytes - length rest) bytes → rows_in L held ≡ rows_of L p.count bytes
    passed_rows held e =
        let size : length bytes - length rest ≡ p.count * row_width L = omega (arith, passed_length) in
        ap (rows_in L) (e ∙ ap (λ m. take m bytes) size) ∙ rows_in_front L p.count bytes p.inside

    module _ (fits : length bytes ≤ total) where
      -- 02
      pub found_closed : (batch : Batch) → 0 < length rest → get_or rest 0 0 ≡ 2 → batch.rows.now ≡ take (length bytes - length rest) bytes → batch.rest.now ≡ after rest
          → Found L total (commands L total 0 bytes) (Ok (Some batch))
      found_closed batch l z held left =
          let e : rest ≡ 2 ∷ after rest = first_is rest 2 l z in
          record {
            batches =
                ap (λ rs. rs ∷ batches_from [] (commands L total 0 batch.rest.now)) (passed_rows batch.rows.now held)
                ∙ ap (λ bs. rows_of L p.count bytes ∷ batches_from [] (commands L total 0 bs)) left
                ∙ sym (ap (λ bs. batches_from (rows_of L p.count bytes) (commands L total 0 bs)) e) ∙ p.batches;
            closing = ap (λ bs. closing_of (commands L total 0 bs)) left ∙ sym (ap (λ bs. closing_of (commands L total 0 bs)) e) ∙ p.closing;
            within = omega (arith, passed_length, ap length e, ap length left);
          }

      -- 03 after rows closes their batch
      pub found_last : (batch : Batch) → 0 < length rest → get_or rest 0 0 ≡ 3 → 0 < length batch.rows.now → batch.rows.now ≡ take (length bytes - length rest) bytes → batch.rest.now ≡ rest
          → Found L total (commands L total 0 bytes) (Ok (Some batch))
      found_last batch l z some held left =
          let e : rest ≡ 3 ∷ after rest = first_is rest 3 l z in
          let shorter : length rest < length bytes = omega (arith, ap length held, length-take (length bytes - length rest) bytes, some) in
          record {
            batches =
                ap (λ rs. rs ∷ batches_from [] (commands L total 0 batch.rest.now)) (passed_rows batch.rows.now held)
                ∙ ap (λ bs. rows_of L p.count bytes ∷ batches_from [] (commands L total 0 bs)) (left ∙ e)
                ∙ sym (last_rows p.count bytes (ended total (after rest)) (omega (arith, passed_length, shorter)))
                ∙ sym (ap (λ bs. batches_from (rows_of L p.count bytes) (commands L total 0 bs)) e)
                ∙ p.batches;
            closing = ap (λ bs. closing_of (commands L total 0 bs)) left ∙ p.closing;
            within = omega (arith, passed_length, ap length left);
          }

      -- 03 with no row before it ends the log
      module _ (l : 0 < length rest) (z : get_or rest 0 0 ≡ 3) (rows : List ℕ) (none : length rows ≡ 0) (held : rows ≡ take (length bytes - length rest) bytes) where
        no_rows : p.count * row_width L ≡ 0
        no_rows = omega (arith, passed_length, ap length held, none, length-take (length bytes - length rest) bytes)

        batches_end : batches_from [] (commands L total 0 bytes) ≡ []
        batches_end =
            sym p.batches
            ∙ ap (λ bs. batches_from (rows_of L p.count bytes) (commands L total 0 bs)) (first_is rest 3 l z)
            ∙ last_none p.count bytes (ended total (after rest)) no_rows

        closing_end : closing_of (commands L total 0 bytes) ≡ ended total (after rest)
        closing_end = sym p.closing ∙ ap (λ bs. closing_of (commands L total 0 bs)) (first_is rest 3 l z)

        pub found_more : 0 < length (after rest) → Found L total (commands L total 0 bytes) (Err (BadCommand (total - length rest + 1)))
        found_more some =
            let next : total - length rest + 1 ≡ total - length (after rest) = omega (arith, ap length (first_is rest 3 l z), passed_length) in
            record {
              batches = sym batches_end;
              closing = ap (λ n. let c : Closing = Err (BadCommand n) in c) next ∙ sym (closing_end ∙ too_long (after rest) some);
              within = omega arith;
            }
