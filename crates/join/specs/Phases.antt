-- What a phase still adds to the block, and what comes after a fetch.
use Rattle.std.specs.Prelude.{ℕ, Bool, true, false}
use Rattle.join.specs.declared.phase.Phase.{Phase}
use Rattle.join.specs.declared.phase.Phase.TheVariants.{Fetching, Seeding, Extending, Closing, Turning, Pairing, Passing, Done, Stopped}

-- how many pairs of the streamed row may still enter the block
abbrev pub pending : Phase → ℕ
pending (Fetching f) = 0
pending (Seeding f) = 0
pending (Extending f) = 0
pending (Closing f) = 0
pending Turning = 0
pending (Pairing p) = p.left
pending Passing = 0
pending Done = 0
pending (Stopped f) = 0

-- the first call goes on to the first run; a later load ends a turn
abbrev pub fetched : Bool → Phase
fetched true = Seeding true
fetched false = Closing false
