-- What stands between a turn and the sink: unfrozen pairs and lone rows, the block, and the records that are due.
use Rattle.std.specs.Prelude.{ℕ, zero, suc, ◌+◌, ◌-◌, Bool, true, false, cond, not, List, [], ◌∷◌, ◌++◌, map, length, take, drop, filter, ◌==◌, nat_le, nat_lt}
use Rattle.merge.specs.Table.{when}
use Rattle.rows.specs.declared.record.Record.{Record}
use Rattle.rows.specs.declared.record.Record.TheVariants.{Pair, LeftAlone, RightAlone}

-- An entry: a record that stays as it is, or the pair of a streamed and a buffered place with what the filter says of it.
pub data Entry : Type 0 where
  fixed : Record → Entry
  judged : ℕ → ℕ → Bool → Entry

-- what is known of a held buffered row: not paired yet, all its pairs failed, a pair passed
pub data Mark : Type 0 where
  unseen failing met : Mark

abbrev pub marked : Bool → Mark → Mark
marked true m = met
marked false unseen = failing
marked false failing = failing
marked false met = met

abbrev pub mark_at : ℕ → Bool → List Mark → List Mark
mark_at n v [] = []
mark_at zero v (m ∷ l) = marked v m ∷ l
mark_at (suc n) v (m ∷ l) = m ∷ mark_at n v l

-- the marks of the rows from place `base` on, after the verdicts of some entries
abbrev pub marking : ℕ → List Entry → List Mark → List Mark
marking base [] l = l
marking base (fixed r ∷ u) l = marking base u l
marking base (judged i j v ∷ u) l = marking base u (mark_at (j - base) v l)

-- is the next entry a pair of the same streamed row?
abbrev pub goes_on : ℕ → List Entry → Bool
goes_on i [] = false
goes_on i (fixed r ∷ l) = false
goes_on i (judged k j v ∷ l) = i == k

-- Correction. `seen` says whether a pair of this streamed row has passed before.
abbrev pub corrected : Bool → List Entry → List Record
corrected seen [] = []
corrected seen (fixed r ∷ l) = r ∷ corrected false l
corrected seen (judged i j true ∷ l) = Pair i j ∷ corrected (goes_on i l) l
corrected seen (judged i j false ∷ l) = cond (goes_on i l) (corrected seen l) (when (not seen) (LeftAlone i ∷ []) ++ corrected false l)

-- without correction: lone rows and passing pairs
abbrev pub plain : List Entry → List Record
plain [] = []
plain (fixed r ∷ l) = r ∷ plain l
plain (judged i j v ∷ l) = when v (Pair i j ∷ []) ++ plain l

abbrev pub settled : Bool → List Entry → List Record
settled true l = corrected false l
settled false l = plain l

abbrev pub alones : List ℕ → List Record
alones = map RightAlone

abbrev pub fixeds : List Record → List Entry
fixeds = map fixed

-- the places of n rows from j on
abbrev pub places : ℕ → ℕ → List ℕ
places j zero = []
places j (suc n) = j ∷ places (suc j) n

abbrev pub is_failing : Mark → Bool
is_failing unseen = false
is_failing failing = true
is_failing met = false

-- the rows, from place j on, whose pairs all failed
abbrev pub failures : ℕ → List Mark → List Record
failures j [] = []
failures j (m ∷ l) = when (is_failing m) (RightAlone j ∷ []) ++ failures (suc j) l

-- The held rows' first place and marks; the noted buffered rows; what is unfrozen; the block; what is due.
pub data Pipe : Type 0 where
  pipe : (base : ℕ) (marks : List Mark) (noted : List ℕ) (unfrozen entries : List Entry) (due : List Record) → Pipe

-- Frozen entries go to the block of a deferred join, and otherwise are due at once.
abbrev pub put : Bool → List Entry → Pipe → Pipe
put true l (pipe base marks noted unfrozen entries due) = pipe base marks noted unfrozen (entries ++ l) due
put false l (pipe base marks noted unfrozen entries due) = pipe base marks noted unfrozen entries (due ++ plain l)

abbrev pub freeze : Bool → Pipe → Pipe
freeze d (pipe base marks noted unfrozen entries due) = put d unfrozen (pipe base (marking base unfrozen marks) noted [] entries due)

abbrev pub freeze_all : Bool → Pipe → Pipe
freeze_all d (pipe base marks noted unfrozen entries due) = put d (fixeds (alones noted) ++ unfrozen) (pipe base (marking base unfrozen marks) [] [] entries due)

-- correct, and hand over
abbrev pub correct : Pipe → Pipe
correct (pipe base marks noted unfrozen entries due) = pipe base marks noted unfrozen [] (due ++ corrected false entries)

abbrev pub flush : Bool → Pipe → Pipe
flush d p = correct (freeze_all d p)

-- An entry joins the unfrozen; all is frozen when they reach the batch size.
abbrev pub freeze_full : Bool → ℕ → Pipe → Pipe
freeze_full d size (pipe base marks noted unfrozen entries due) = cond (nat_le size (length unfrozen)) (freeze_all d (pipe base marks noted unfrozen entries due)) (pipe base marks noted unfrozen entries due)

abbrev pub push : Bool → ℕ → Entry → Pipe → Pipe
push d size e (pipe base marks noted unfrozen entries due) = freeze_full d size (pipe base marks noted (unfrozen ++ e ∷ []) entries due)

abbrev pub note : List ℕ → Pipe → Pipe
note l (pipe base marks noted unfrozen entries due) = pipe base marks (noted ++ l) unfrozen entries due

-- Batches leave of which no more than m rows in all were passed: each gives its noted rows, then those whose pairs all failed.
pub data Left : Type 0 where
  left : (base : ℕ) (sizes : List ℕ) (marks : List Mark) (noted : List ℕ) (given : List Record) → Left

abbrev pub giving : List Record → Left → Left
giving l (left base sizes marks noted given) = left base sizes marks noted (l ++ given)

abbrev pub leave : Bool → ℕ → ℕ → List ℕ → List Mark → List ℕ → Left
leave keeps m base [] marks noted = left base [] marks noted []
leave keeps m base (n ∷ sizes) marks noted = cond (nat_le n m)
    (giving (alones (filter (λ j. nat_lt j (base + n)) noted) ++ when keeps (failures base (take n marks)))
    (leave keeps (m - n) (base + n) sizes (drop n marks) (filter (λ j. not (nat_lt j (base + n))) noted)))
    (left base (n ∷ sizes) marks noted [])

abbrev pub first_leaves : ℕ → List ℕ → Bool
first_leaves m [] = false
first_leaves m (n ∷ sizes) = nat_le n m

-- the pipe and the sizes of the batches held, after a run of which m held rows are passed
abbrev pub given_by : Bool → List Entry → List Entry → List Record → Left → Pipe × List ℕ
given_by d unfrozen entries due (left base sizes marks noted given) = (put d (unfrozen ++ fixeds given) (pipe base marks noted [] entries due), sizes)

abbrev pub part : Bool → Bool → ℕ → List ℕ → Pipe → Pipe × List ℕ
part d keeps m sizes (pipe base marks noted unfrozen entries due) = cond (first_leaves m sizes)
    (given_by d unfrozen entries due (leave keeps m base sizes (marking base unfrozen marks) noted))
    (pipe base marks noted unfrozen entries due, sizes)
