-- What is found of a source that is shown.
use Rattle.std.specs.Prelude.{ℕ, List}
use Rattle.std.specs.declared.cmp.Ordering.{Ordering}
use Rattle.std.specs.Option.{unwrap_or}
use Rattle.rows.specs.declared.row.Row.{Row}
use Rattle.sources.specs.Meaning.{Closing}
use Rattle.sources.specs.Keys.{frames, labels}
use Rattle.sources.specs.Log.{log_closing}
use Rattle.hopmap.specs.declared.key_kinds.LogKind.{LogKind}
use Rattle.hopmap.specs.declared.key_kinds.LogKind.TheVariants.{Frame, Label}
use Rattle.hopmap.specs.declared.show.Shown.{Shown}
use Rattle.hopmap.specs.Fetching.{all_rows}
use Rattle.hopmap.specs.KeyKinds.{told}
use Rattle.hopmap.specs.Sequences.{no_keys, checked_rows}
use Rattle.hopmap.specs.Summaries.{summary_of}

abbrev pub shown_of : {K : Type 0} → (K → K → Ordering) → List (List (Row K)) → Closing → Shown
shown_of within batches close = record { summary = summary_of batches close; broken = (checked_rows within no_keys (all_rows batches)).broken }

abbrev pub closing_as : LogKind → List ℕ → Closing
closing_as Frame = log_closing frames
closing_as Label = log_closing labels

-- how a log closes, read for the kind of key that it tells; one that tells none has the same fault for either
abbrev pub closing_of : List ℕ → Closing
closing_of bytes = closing_as (unwrap_or (told bytes) Frame) bytes
