-- Rows counted by grade.
use Rattle.std.specs.Prelude.{ℕ, ◌+◌, ◌-◌, List, replicate, ℤ, Some, None, fold, Option, slice_index, slice_set}
use Rattle.filters.specs.Grades.{graded}
use Rattle.std.specs.Option.{unwrap_or}
use Rattle.rows.specs.declared.row.Row.{Row}
use Rattle.sources.specs.Keys.{frames, labels}
use Rattle.sources.specs.Layout.{Layout}
use Rattle.sources.specs.Log.{log_batches, log_closing}
use Rattle.hopmap.specs.declared.key_kinds.LogKind.{LogKind}
use Rattle.hopmap.specs.declared.key_kinds.LogKind.TheVariants.{Frame, Label}
use Rattle.hopmap.specs.declared.lines.Summary.{Summary}
use Rattle.hopmap.specs.Fetching.{all_rows}
use Rattle.hopmap.specs.KeyKinds.{told}
use Rattle.hopmap.specs.Summaries.{summary_of}
use Rattle.hopmap.specs.declared.grades.GradeCounts.{GradeCounts}
use Rattle.hopmap.specs.Totals.{held}

-- one more at an index
abbrev pub raised : List ℕ → ℕ → List ℕ
raised counts i = slice_set counts i (held (slice_index counts i + 1))

abbrev pub counted_as : GradeCounts → Option ℕ → GradeCounts
counted_as c None = record { graded = c.graded; not_measured = held (c.not_measured + 1) }
counted_as c (Some grade) = record { graded = raised c.graded (grade - 1); not_measured = c.not_measured }

-- with one row more, of this level
abbrev pub counted : GradeCounts → ℤ → GradeCounts
counted c level = counted_as c (graded level)

abbrev pub no_rows : GradeCounts
no_rows = record { graded = replicate 5 0; not_measured = 0 }

-- with rows, one by one
abbrev pub counted_rows : {K : Type 0} → GradeCounts → List (Row K) → GradeCounts
counted_rows = fold (λ c row. counted c row.reading.level)

-- the counts of a log of some kind of key, how much came of it, and how it closes
abbrev pub grades_by : {K : Type 0} → Layout K → List ℕ → GradeCounts × Summary
grades_by layout bytes = (counted_rows no_rows (all_rows (log_batches layout bytes)), summary_of (log_batches layout bytes) (log_closing layout bytes))

abbrev pub grades_as : LogKind → List ℕ → GradeCounts × Summary
grades_as Frame = grades_by frames
grades_as Label = grades_by labels

-- of the kind of key that the log tells; one that tells none has the same fault for either
abbrev pub grades_of : List ℕ → GradeCounts × Summary
grades_of bytes = grades_as (unwrap_or (told bytes) Frame) bytes
