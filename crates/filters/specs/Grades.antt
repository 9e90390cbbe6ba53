-- The grade of a level, and what the grade filter says of it.
use Rattle.std.specs.Prelude.{ℕ, suc, min, max, Bool, true, false, cond, List, [], ◌∷◌, ℤ, pos, negsuc, Some, None, Option, ◌==◌, int_le, nat_le}
use Rattle.filters.specs.declared.filter.Verdict.{Verdict}
use Rattle.filters.specs.declared.filter.Verdict.TheVariants.{Unknown}
use Rattle.filters.specs.Verdicts.{decided}

-- Grades 1 to 4 start at −60, −72, −84 and −96 dBm; grade 5 is lower. (negsuc n is −(n + 1).)
abbrev pub starts : List ℤ
starts = negsuc 59 ∷ negsuc 71 ∷ negsuc 83 ∷ negsuc 95 ∷ []

-- the first grade, counted from 1, whose start a level reaches, and the grade past them all if it reaches none
abbrev pub reached : List ℤ → ℤ → ℕ
reached [] level = 1
reached (start ∷ lower) level = cond (int_le start level) 1 (suc (reached lower level))

-- a level of −128 is not measured
abbrev pub measured : ℤ → Bool
measured (pos n) = true
measured (negsuc n) = cond (n == 127) false true

-- the grade of a level, none where it is not measured
abbrev pub graded : ℤ → Option ℕ
graded level = cond (measured level) (Some (reached starts level)) None

-- whether a grade is at most g, unknown where there is none
abbrev pub at_most : ℕ → Option ℕ → Verdict
at_most g None = Unknown
at_most g (Some grade) = decided (nat_le grade g)

-- a number held within 1 to 5
abbrev pub held : ℕ → ℕ
held g = max 1 (min 5 g)
