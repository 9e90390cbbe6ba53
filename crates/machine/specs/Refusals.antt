-- The number of every refusal and fault of a join, and the values that it names.
use Rattle.std.specs.Prelude.{ℕ, Some, None, Option}
use Rattle.rows.specs.declared.kind.Side.{Side}
use Rattle.sources.specs.declared.fault.SourceFault.{SourceFault}
use Rattle.machine.specs.declared.fault.OpenRefusal.{OpenRefusal}
use Rattle.machine.specs.declared.fault.OpenRefusal.TheVariants.{Kind, BatchSize, Memory}
use Rattle.machine.specs.declared.fault.JoinFault.{JoinFault}
use Rattle.machine.specs.declared.fault.JoinFault.TheVariants.{Unsorted, TableFull, TooManyBatches, TooManyRows, Source}
use Rattle.machine.specs.declared.fault.TurnRefusal.{TurnRefusal}
use Rattle.machine.specs.declared.fault.TurnRefusal.TheVariants.{Lengths, Stopped}

-- a number, the side, the place of a row there, and the source's fault, which has a number, a layer and a place of its own
pub record Numbered : Type 0 where
  pub number : ℕ
  pub side : Option Side
  pub place : Option ℕ
  pub fault : Option SourceFault

abbrev pub told : ℕ → Option Side → Option ℕ → Option SourceFault → Numbered
told number side place fault = record { number = number; side = side; place = place; fault = fault }

abbrev pub open_refusal : OpenRefusal → Numbered
open_refusal Kind = told 1 None None None
open_refusal BatchSize = told 2 None None None
open_refusal Memory = told 3 None None None

-- the place is that of the row at fault; at 6 to 8 that of the first row of the batch that is not taken
abbrev pub join_fault : JoinFault → Numbered
join_fault (Unsorted side place) = told 5 (Some side) (Some place) None
join_fault (TableFull side first) = told 6 (Some side) (Some first) None
join_fault (TooManyBatches first) = told 7 None (Some first) None
join_fault (TooManyRows side first) = told 8 (Some side) (Some first) None
join_fault (Source side fault) = told 9 (Some side) None (Some fault)

abbrev pub turn_refusal : TurnRefusal → Numbered
turn_refusal Lengths = told 4 None None None
turn_refusal (Stopped fault) = join_fault fault
