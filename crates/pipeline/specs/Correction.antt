-- Correction: what becomes of each entry of the block.
use Rattle.std.specs.Prelude.{◌≡◌, ℕ, Bool, true, false, cond, not, ◌&&◌, List, [], ◌∷◌, ◌++◌, is_some, Some, None, Option, ◌==◌}
use Rattle.rows.specs.declared.kind.Kind.{Kind}
use Rattle.pipeline.specs.declared.entry.Entry.{Entry}
use Rattle.pipeline.specs.declared.entry.StreamedRow.{StreamedRow}
use Rattle.pipeline.specs.declared.correction.Fate.{Fate}
use Rattle.pipeline.specs.declared.correction.Fate.TheVariants.{Kept, Alone, Dropped}
use Rattle.rows.specs.declared.record.Record.TheVariants.{Pair, RightAlone}
use Rattle.pipeline.specs.Entries.{lone, no_reading}
use Rattle.pipeline.specs.Orient.{without_partner}
use Rattle.pipeline.specs.Freezing.{passing}

-- the same batch and the same row in it; an entry that has no streamed row is of no row
abbrev pub same_row : Option StreamedRow → Option StreamedRow → Bool
same_row None b = false
same_row (Some a) None = false
same_row (Some a) (Some b) = a.batch == b.batch && a.row == b.row

-- An entry is last of its row when it ends the block, when it or the next has no streamed row, or when the next differs in
-- streamed batch or row.
abbrev pub last_of_row : Entry → List Entry → Bool
last_of_row e [] = true
last_of_row e (next ∷ es) = not (same_row e.row next.row)

-- An entry without verdict or with yes is kept. A no that is last of its row, with no yes before it there, becomes the
-- streamed row alone. Every other no is dropped.
abbrev pub fate : Option Bool → (seen last : Bool) → Fate
fate None seen last = Kept
fate (Some true) seen last = Kept
fate (Some false) seen last = cond (last && not seen) Alone Dropped

-- was a yes seen in the row of the next entry?
abbrev pub seen_after : Option Bool → (seen last : Bool) → Bool
seen_after v seen true = false
seen_after None seen false = seen
seen_after (Some true) seen false = true
seen_after (Some false) seen false = seen

abbrev pub fates : Bool → List Entry → List Fate
fates seen [] = []
fates seen (e ∷ es) = fate e.verdict seen (last_of_row e es) ∷ fates (seen_after e.verdict seen (last_of_row e es)) es

-- the entry of a pair with its streamed row alone for its record
abbrev pub alone : Kind → Entry → Entry
alone kind e = record { row = e.row; verdict = e.verdict; «record» = without_partner kind e.«record»; left = e.left; right = e.right }

abbrev pub fated : Kind → Fate → Entry → List Entry
fated kind Kept e = e ∷ []
fated kind Alone e = alone kind e ∷ []
fated kind Dropped e = []

-- the entries that are left, in sequence; `seen` says whether a yes was seen before in the row of the first
abbrev pub corrected : Kind → Bool → List Entry → List Entry
corrected kind seen [] = []
corrected kind seen (e ∷ es) = fated kind (fate e.verdict seen (last_of_row e es)) e ++ corrected kind (seen_after e.verdict seen (last_of_row e es)) es

-- What correction does, row by row.

-- some entries, all of one streamed row, each with a verdict
abbrev pub OneRow : StreamedRow → List Entry → Type 0
OneRow at [] = ⊥
OneRow at (e ∷ []) = (e.row ≡ Some at) × (is_some e.verdict ≡ true)
OneRow at (e ∷ f ∷ es) = (e.row ≡ Some at) × (is_some e.verdict ≡ true) × OneRow at (f ∷ es)

-- no streamed row has entries at the end of the one list and at the start of the other
abbrev pub Apart : List Entry → List Entry → Type 0
Apart [] after = Unit {0}
Apart (e ∷ []) after = last_of_row e after ≡ true
Apart (e ∷ f ∷ es) after = Apart (f ∷ es) after

abbrev pub or_else : List Entry → List Entry → List Entry
or_else [] other = other
or_else (e ∷ es) other = e ∷ es

-- the streamed row of the last entry, alone, once
abbrev pub row_alone : Kind → List Entry → List Entry
row_alone kind [] = []
row_alone kind (e ∷ []) = alone kind e ∷ []
row_alone kind (e ∷ f ∷ es) = row_alone kind (f ∷ es)

-- the entries without verdict
abbrev pub unless_judged : Option Bool → Entry → List Entry
unless_judged None e = e ∷ []
unless_judged (Some v) e = []

abbrev pub unjudged : List Entry → List Entry
unjudged [] = []
unjudged (e ∷ es) = unless_judged e.verdict e ++ unjudged es

-- Of the entries of one streamed row exactly the passing pairs are left, or the row alone, once, if none passes. A row that
-- was noted alone stays. What stands before and after is corrected as if it stood by itself, and the sequence is kept. All
-- entries without verdict stay.
pub record RowByRow (kind : Kind) : Type 0 where
  pub one_row : (before row after : List Entry) (at : StreamedRow) → OneRow at row → Apart before row → Apart row after
      → corrected kind false (before ++ (row ++ after)) ≡ corrected kind false before ++ (or_else (passing row) (row_alone kind row) ++ corrected kind false after)
  pub lone_row : (before after : List Entry) (e : Entry) → e.row ≡ None → e.verdict ≡ None
      → corrected kind false (before ++ e ∷ after) ≡ corrected kind false before ++ e ∷ corrected kind false after
  pub without_verdict : (es : List Entry) → unjudged (corrected kind false es) ≡ unjudged es

-- An example: row 0 no, row 0 no, no verdict, row 1 yes, row 1 no.
abbrev pub example_pair : (row buffered : ℕ) → Bool → Entry
example_pair row buffered v = record { row = Some (record { batch = 0; row = row }); verdict = Some v; «record» = Pair row buffered; left = no_reading; right = no_reading }

abbrev pub example : List Entry
example = example_pair 0 0 false ∷ example_pair 0 1 false ∷ lone (RightAlone 2) ∷ example_pair 1 3 true ∷ example_pair 1 4 false ∷ []
