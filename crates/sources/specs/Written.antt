-- The bytes of a list of batches: 00 with the kind of key, each row as 01, each batch closed by 02, then 03.
use Rattle.std.specs.Prelude.{◌≡◌, ℕ, ◌^◌, ◌<◌, true, List, [], ◌∷◌, ◌++◌, Ok, FitsSigned}
use Rattle.std.specs.Int.{w8, cast_unsigned}
use Rattle.std.specs.List.{flat_map, AllByRecursion}
use Rattle.rows.specs.declared.reading.Reading.{Reading}
use Rattle.rows.specs.declared.row.Row.{Row}
use Rattle.sources.specs.Meaning.{Closing}
use Rattle.sources.specs.Layout.{in_bytes, Layout}

abbrev pub reading_bytes : Reading → List ℕ
reading_bytes r = in_bytes 4 r.moment ++ (cast_unsigned w8 r.level ∷ in_bytes 2 r.receiver)

abbrev pub row_bytes : {K : Type 0} → Layout K → Row K → List ℕ
row_bytes L r = 1 ∷ (L.encoded r.key ++ reading_bytes r.reading)

abbrev pub batch_bytes : {K : Type 0} → Layout K → List (Row K) → List ℕ
batch_bytes L rows = flat_map (row_bytes L) rows ++ (2 ∷ [])

abbrev pub log_bytes : {K : Type 0} → Layout K → List (List (Row K)) → List ℕ
log_bytes L batches = 0 ∷ L.code ∷ (flat_map (batch_bytes L) batches ++ (3 ∷ []))

-- each part of a row fits its bytes, as it always does in code
pub record Fits {K : Type 0} (L : Layout K) (r : Row K) : Type 0 where
  pub key : L.fits r.key ≡ true
  pub moment : r.reading.moment < 2 ^ 32
  pub level : FitsSigned w8 r.reading.level
  pub receiver : r.reading.receiver < 2 ^ 16

-- Where bytes are those of some batches, a log of these bytes has these batches, and then ends.
abbrev pub AsWritten : {K : Type 0} → Layout K → List ℕ → List (List (Row K)) → Closing → Type 0
AsWritten {K} L bytes batches closing =
    (written : List (List (Row K))) → AllByRecursion (AllByRecursion (Fits L)) written → bytes ≡ log_bytes L written → (batches ≡ written) × (closing ≡ Ok tt)
