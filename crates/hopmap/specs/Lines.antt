-- The lines that the program prints, as the bytes of their texts.
use Rattle.std.specs.Prelude.{ℕ, List, [], ◌∷◌, Some, None, Ok, Err, codes, Option}
use Rattle.rows.specs.Texts as text
use Rattle.rows.specs.Texts.{line, words, count, side_text}
use Rattle.sources.specs.declared.fault.SourceFault.{SourceFault}
use Rattle.sources.specs.declared.fault.SourceFault.TheVariants.{NoHeader, BadCommand, RunsOut, BadPresence}
use Rattle.sources.specs.Meaning.{Closing}
use Rattle.sources.specs.Faults.{number_of, layer_of, place_of}
use Rattle.hopmap.specs.declared.lines.BatchLine.{BatchLine}
use Rattle.hopmap.specs.declared.lines.GradeLine.{GradeLine}
use Rattle.hopmap.specs.declared.lines.RowLine.{RowLine}
use Rattle.hopmap.specs.declared.lines.Summary.{Summary}
use Rattle.hopmap.specs.declared.table.TableRefusal.{TableRefusal}
use Rattle.hopmap.specs.declared.table.TableRefusal.TheVariants.{Fault, TooLong, Memory}

-- batch 0, 2 rows
abbrev pub batch_text : BatchLine → Option (List ℕ)
batch_text b = line (words "batch " ∷ count b.number ∷ words ", " ∷ count b.rows ∷ words " rows" ∷ [])

-- row 0 and then the row's own text
abbrev pub row_text : {K : Type 0} → (K → Option (List ℕ)) → RowLine K → Option (List ℕ)
row_text key_text r = line (words "row " ∷ count r.place ∷ words " " ∷ text.row_text key_text r.row ∷ [])

abbrev pub fault_words : SourceFault → List ℕ
fault_words (NoHeader place) = codes "the first byte is absent or not 00, or the key kind is another"
fault_words (BadCommand place) = codes "unknown command, a later 00, or a byte after 03"
fault_words (RunsOut place) = codes "the bytes run out"
fault_words (BadPresence place) = codes "bad presence"

-- fault 22 layer 0 place 17: the bytes run out
abbrev pub fault_text : SourceFault → Option (List ℕ)
fault_text f = line (words "fault " ∷ count (number_of f) ∷ words " layer " ∷ count (layer_of f) ∷ words " place " ∷ count (place_of f) ∷ words ": " ∷ Some (fault_words f) ∷ [])

abbrev pub closing_text : Closing → Option (List ℕ)
closing_text (Ok end) = words "the end"
closing_text (Err f) = fault_text f

-- 2 batches, 2 rows, then the end
abbrev pub summary_text : Summary → Option (List ℕ)
summary_text s = line (count s.totals.batches ∷ words " batches, " ∷ count s.totals.rows ∷ words " rows, then " ∷ closing_text s.closing ∷ [])

abbrev pub sequence_text : Option ℕ → Option (List ℕ)
sequence_text None = words "rows in key order"
sequence_text (Some place) = line (words "row " ∷ count place ∷ words " is before its predecessor" ∷ [])

-- grade 1, 2 rows
abbrev pub graded_text : Option ℕ → ℕ → Option (List ℕ)
graded_text None rows = line (words "not measured, " ∷ count rows ∷ words " rows" ∷ [])
graded_text (Some grade) rows = line (words "grade " ∷ count grade ∷ words ", " ∷ count rows ∷ words " rows" ∷ [])

abbrev pub grade_text : GradeLine → Option (List ℕ)
grade_text g = graded_text g.grade g.rows

-- refused 9 sent 22 0 17: the bytes run out
abbrev pub refusal_text : TableRefusal → Option (List ℕ)
refusal_text (Fault side f) = line (words "refused 9 " ∷ side_text side ∷ words " " ∷ count (number_of f) ∷ words " " ∷ count (layer_of f) ∷ words " " ∷ count (place_of f) ∷ words ": " ∷ Some (fault_words f) ∷ [])
refusal_text TooLong = words "hopmap: a log has more rows than places of 32 bits can name"
refusal_text Memory = words "hopmap: there is no memory left"
