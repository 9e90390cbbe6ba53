-- Entries of the block.
use Rattle.std.specs.Prelude.{negsuc, Some, None}
use Rattle.rows.specs.declared.reading.Reading.{Reading}
use Rattle.rows.specs.declared.record.Record.{Record}
use Rattle.pipeline.specs.declared.entry.Entry.{Entry}
use Rattle.pipeline.specs.declared.entry.StreamedRow.{StreamedRow}

-- what stands for the readings of a lone row
abbrev pub no_reading : Reading
no_reading = record { moment = 0; level = negsuc 127; receiver = 0 }

-- a lone row has no streamed row to be judged with, and no verdict
abbrev pub lone : Record → Entry
lone x = record { row = None; verdict = None; «record» = x; left = no_reading; right = no_reading }

-- a pair that is not frozen yet
abbrev pub pair_of : StreamedRow → Record → Reading → Reading → Entry
pair_of at x l r = record { row = Some at; verdict = None; «record» = x; left = l; right = r }
