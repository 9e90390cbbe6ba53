-- The filter that a grade and a window on the command line ask for.
use Rattle.std.specs.Prelude.{ℕ, Some, None, Option}
use Rattle.rows.specs.declared.reading.Reading.{Reading}
use Rattle.filters.specs.declared.filter.Verdict.{Verdict}
use Rattle.filters.specs.declared.grade.GradeFilter.{GradeFilter}
use Rattle.filters.specs.declared.window.WindowFilter.{WindowFilter}
use Rattle.filters.specs.Grades.{at_most, graded, held}
use Rattle.filters.specs.Verdicts.{and, decided}
use Rattle.filters.specs.Window.{in_window}
use Rattle.hopmap.specs.declared.wanted.Wanted.{Wanted}
use Rattle.hopmap.specs.declared.wanted.Wanted.TheVariants.{Grade, Window, Both}

abbrev pub grade_says : GradeFilter → Reading → Reading → Verdict
grade_says f left right = at_most f.worst (graded right.level)

abbrev pub window_says : WindowFilter → Reading → Reading → Verdict
window_says f left right = decided (in_window f.width left.moment right.moment)

-- what a wanted filter says of a left and a right reading
abbrev pub asked : Wanted → Reading → Reading → Verdict
asked (Grade f) left right = grade_says f left right
asked (Window f) left right = window_says f left right
asked (Both f) left right = and (grade_says f.first left right) (window_says f.second left right)

-- none where neither is given, and both where both are
abbrev pub wanted_of : Option ℕ → Option ℕ → Option Wanted
wanted_of None None = None
wanted_of (Some g) None = Some (Grade (record { worst = held g }))
wanted_of None (Some w) = Some (Window (record { width = w }))
wanted_of (Some g) (Some w) = Some (Both (record { first = record { worst = held g }; second = record { width = w } }))
