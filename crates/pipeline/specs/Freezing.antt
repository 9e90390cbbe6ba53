-- Freezing asks the filter of each pair.
use Rattle.std.specs.Prelude.{Bool, true, cond, List, [], ◌∷◌, ◌++◌, Some, None, Option}
use Rattle.rows.specs.declared.reading.Reading.{Reading}
use Rattle.filters.specs.declared.filter.Verdict.{Verdict}
use Rattle.filters.specs.Verdicts.{lets_through}
use Rattle.pipeline.specs.declared.entry.Entry.{Entry}
use Rattle.pipeline.specs.declared.entry.StreamedRow.{StreamedRow}

-- Whether a left and a right reading pass. `says` is what a filter says of them; without a filter every pair passes.
abbrev pub asking : {F : Type 0} → (F → Reading → Reading → Verdict) → Option F → Reading → Reading → Bool
asking says filter l r = lets_through says filter l r

-- the verdict of an entry with a streamed row; a lone row has none
abbrev pub verdict_of : Option StreamedRow → Option Bool → Bool → Option Bool
verdict_of None v said = v
verdict_of (Some at) v said = Some said

-- `asks` is whether a left and a right reading pass
abbrev pub judged : (Reading → Reading → Bool) → Entry → Entry
judged asks e = record { row = e.row; verdict = verdict_of e.row e.verdict (asks e.left e.right); «record» = e.«record»; left = e.left; right = e.right }

abbrev pub judged_all : (Reading → Reading → Bool) → List Entry → List Entry
judged_all asks [] = []
judged_all asks (e ∷ es) = judged asks e ∷ judged_all asks es

-- no verdict, or yes
abbrev pub stays : Option Bool → Bool
stays None = true
stays (Some v) = v

abbrev pub unless_no : Option Bool → Entry → List Entry
unless_no v e = cond (stays v) (e ∷ []) []

-- what is handed over as it freezes, where nothing is deferred: lone rows and passing pairs
abbrev pub passing : List Entry → List Entry
passing [] = []
passing (e ∷ es) = unless_no e.verdict e ++ passing es
