-- What a tally of records means.
use Rattle.std.specs.Prelude.{◌≡◌, ℕ, ◌+◌, ◌^◌, Bool, List, [], ◌∷◌, nat_lt}
use Rattle.rows.specs.declared.record.Record.{Record}
use Rattle.rows.specs.declared.record.Record.TheVariants.{Pair, LeftAlone, RightAlone}
use Rattle.sinks.specs.declared.tally.Counts.{Counts}
use Rattle.sinks.specs.Meaning.{Led}

abbrev pub total : Counts → ℕ
total v = v.pairs + v.left_alone + v.right_alone

abbrev pub counted : Counts → Record → Counts
counted v (Pair left right) = record { pairs = v.pairs + 1; left_alone = v.left_alone; right_alone = v.right_alone }
counted v (LeftAlone left) = record { pairs = v.pairs; left_alone = v.left_alone + 1; right_alone = v.right_alone }
counted v (RightAlone right) = record { pairs = v.pairs; left_alone = v.left_alone; right_alone = v.right_alone + 1 }

-- a record fits where the total stays below 2^64
abbrev pub tally_fits : Counts → Record → Bool
tally_fits v x = nat_lt (total v + 1) (2 ^ 64)

-- 1 for a record of the kind that is counted, else 0
abbrev pub pair : Record → ℕ
pair (Pair left right) = 1
pair (LeftAlone left) = 0
pair (RightAlone right) = 0

abbrev pub left_row : Record → ℕ
left_row (Pair left right) = 0
left_row (LeftAlone left) = 1
left_row (RightAlone right) = 0

abbrev pub right_row : Record → ℕ
right_row (Pair left right) = 0
right_row (LeftAlone left) = 0
right_row (RightAlone right) = 1

-- how many records are of a kind
abbrev pub number_of : (Record → ℕ) → List Record → ℕ
number_of kind [] = 0
number_of kind (x ∷ records) = kind x + number_of kind records

-- what is counted is how many of the records that lead there are pairs, left rows alone and right rows alone
abbrev pub TallyCounts : Type 0
TallyCounts = (v v' : Counts) (records : List Record) → Led tally_fits counted v records v'
    → (v'.pairs ≡ v.pairs + number_of pair records)
    × (v'.left_alone ≡ v.left_alone + number_of left_row records)
    × (v'.right_alone ≡ v.right_alone + number_of right_row records)
