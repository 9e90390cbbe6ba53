-- What the filter has said of each held buffered row.
use Rattle.std.specs.Prelude.{ℕ, zero, suc, ◌-◌, Bool, true, false, List, [], ◌∷◌, ◌++◌, take, Some, None, Option}
use Rattle.rows.specs.declared.kind.Kind.{Kind}
use Rattle.pipeline.specs.declared.entry.Entry.{Entry}
use Rattle.pipeline.specs.declared.entry.StreamedRow.{StreamedRow}
use Rattle.pipeline.specs.declared.states.FilterState.{FilterState}
use Rattle.pipeline.specs.declared.states.States.{States}
use Rattle.pipeline.specs.declared.states.FilterState.TheVariants.{Unvisited, AllFailed, SomePassed}
use Rattle.pipeline.specs.Entries.{lone}
use Rattle.pipeline.specs.Orient.{buffered_alone, buffered_place}

-- the states of the rows held
abbrev pub states_of : States → List FilterState
states_of s = take s.len s.cells

-- the state of a row, none where it is not held
abbrev pub state_at : ℕ → List FilterState → Option FilterState
state_at n [] = None
state_at zero (s ∷ l) = Some s
state_at (suc n) (s ∷ l) = state_at n l

-- the state of a row after one verdict more
abbrev pub marked : Bool → FilterState → FilterState
marked true s = SomePassed
marked false Unvisited = AllFailed
marked false AllFailed = AllFailed
marked false SomePassed = SomePassed

-- the states after a verdict on row n; a row that is not held changes nothing
abbrev pub mark_at : ℕ → Bool → List FilterState → List FilterState
mark_at n v [] = []
mark_at zero v (s ∷ l) = marked v s ∷ l
mark_at (suc n) v (s ∷ l) = s ∷ mark_at n v l

-- the states of the rows from place `base` on after an entry, and after entries in sequence: a pair's verdict counts
abbrev pub mark_verdict : Option StreamedRow → Option Bool → ℕ → List FilterState → List FilterState
mark_verdict None v n l = l
mark_verdict (Some at) None n l = l
mark_verdict (Some at) (Some v) n l = mark_at n v l

abbrev pub marking : Kind → ℕ → List Entry → List FilterState → List FilterState
marking kind base [] l = l
marking kind base (e ∷ es) l = marking kind base es (mark_verdict e.row e.verdict (buffered_place kind e.«record» - base) l)

abbrev pub if_failed : FilterState → ℕ → Kind → List Entry
if_failed Unvisited j kind = []
if_failed AllFailed j kind = lone (buffered_alone kind j) ∷ []
if_failed SomePassed j kind = []

-- the rows, from place j on, whose pairs all failed, alone
abbrev pub failed : Kind → ℕ → List FilterState → List Entry
failed kind j [] = []
failed kind j (s ∷ l) = if_failed s j kind ++ failed kind (suc j) l
