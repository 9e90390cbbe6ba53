-- The entry that a list of entries has where it has none.
use Rattle.std.proofs.Common.{pos, None}
use Rattle.rows.specs.declared.reading.Reading.{Reading}
use Rattle.rows.specs.declared.record.Record.TheVariants.{Pair}
use Rattle.pipeline.specs.declared.entry.Entry.{Entry}

abbrev no_values : Reading
no_values = record { moment = 0; level = pos 0; receiver = 0 }

abbrev pub blank : Entry
blank = record { row = None; verdict = None; «record» = Pair 0 0; left = no_values; right = no_values }
