-- What is left of a log that is read, from what comes next.
use Rattle.std.specs.Prelude.{◌≡◌, ℕ, zero, suc, ◌+◌, ◌/◌, ◌≤◌, List, [], ◌∷◌, length, take, drop, Some, None, Option, Ok, Err, Result}
use Rattle.rows.specs.declared.row.Row.{Row}
use Rattle.sources.specs.declared.batch.Batch.{Batch}
use Rattle.sources.specs.declared.batch.Operands.{Operands}
use Rattle.sources.specs.declared.fault.SourceFault.{SourceFault}
use Rattle.sources.specs.Meaning.{Closing}
use Rattle.sources.specs.Layout.{Layout}
use Rattle.sources.specs.Log.{Commands, reading_of, row_of, commands, batches_from, closing_of}

-- a row's operands at the front of bytes, taken apart
pub record Apart {K : Type 0} (L : Layout K) (bytes : List ℕ) (row : Operands) : Type 0 where
  pub whole : L.width + 7 ≤ length bytes
  pub key : row.key.now ≡ take L.width bytes
  pub reading : row.reading ≡ reading_of (drop L.width bytes)
  pub rest : row.rest.now ≡ drop (L.width + 7) bytes

-- a row's command and its operands
abbrev pub row_width : {K : Type 0} → Layout K → ℕ
row_width L = L.width + 8

-- the rows of so many commands 01, one after the other
abbrev pub rows_of : {K : Type 0} → Layout K → ℕ → List ℕ → List (Row K)
rows_of L zero bytes = []
rows_of L (suc n) bytes = row_of L (drop 1 bytes) ∷ rows_of L n (drop (row_width L) bytes)

-- all rows of such bytes
abbrev pub rows_in : {K : Type 0} → Layout K → List ℕ → List (Row K)
rows_in L bytes = rows_of L (length bytes / row_width L) bytes

-- a batch, or none at the end; or a fault
abbrev pub Coming : Type 0
Coming = Result (Option Batch) SourceFault

abbrev pub batches_left : {K : Type 0} → Layout K → ℕ → Coming → List (List (Row K))
batches_left L total (Ok (Some batch)) = rows_in L batch.rows.now ∷ batches_from [] (commands L total 0 batch.rest.now)
batches_left L total (Ok None) = []
batches_left L total (Err fault) = []

abbrev pub closing_left : {K : Type 0} → Layout K → ℕ → Coming → Closing
closing_left L total (Ok (Some batch)) = closing_of (commands L total 0 batch.rest.now)
closing_left L total (Ok None) = Ok tt
closing_left L total (Err fault) = Err fault

-- the bytes after the next batch
abbrev pub rest_of : Coming → List ℕ
rest_of (Ok (Some batch)) = batch.rest.now
rest_of (Ok None) = []
rest_of (Err fault) = []

-- what comes next means what commands do
pub record Found {K : Type 0} (L : Layout K) (total : ℕ) (all : Commands K) (coming : Coming) : Type 0 where
  pub batches : batches_left L total coming ≡ batches_from [] all
  pub closing : closing_left L total coming ≡ closing_of all
  pub within : length (rest_of coming) ≤ total
