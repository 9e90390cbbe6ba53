-- What a verdict counts as, and how two verdicts join.
use Rattle.std.specs.Prelude.{Bool, true, false, Option, Some, None}
use Rattle.rows.specs.declared.reading.Reading.{Reading}
use Rattle.filters.specs.declared.filter.Verdict.{Verdict}
use Rattle.filters.specs.declared.filter.Verdict.TheVariants.{Yes, No, Unknown}

-- unknown counts as no
abbrev pub is_yes : Verdict → Bool
is_yes Yes = true
is_yes No = false
is_yes Unknown = false

-- without a filter every pair is let through, with one those of which it says yes
abbrev pub lets_through : {F : Type 0} → (F → Reading → Reading → Verdict) → Option F → Reading → Reading → Bool
lets_through says None l r = true
lets_through says (Some f) l r = is_yes (says f l r)

-- the verdict of a test whose answer is known
abbrev pub decided : Bool → Verdict
decided true = Yes
decided false = No

-- AND as SQL has it: no if either is no, else unknown if either is unknown, else yes
abbrev pub and : Verdict → Verdict → Verdict
and Yes Yes = Yes
and Yes No = No
and Yes Unknown = Unknown
and No Yes = No
and No No = No
and No Unknown = No
and Unknown Yes = Unknown
and Unknown No = No
and Unknown Unknown = Unknown
