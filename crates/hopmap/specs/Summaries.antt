-- How much comes of a source, and how it closes.
use Rattle.std.specs.Prelude.{List}
use Rattle.sources.specs.Meaning.{Closing}
use Rattle.hopmap.specs.declared.lines.Summary.{Summary}
use Rattle.hopmap.specs.Totals.{totals_of}

abbrev pub summary_of : {A : Type 0} → List (List A) → Closing → Summary
summary_of batches close = record { totals = totals_of batches; closing = close }
