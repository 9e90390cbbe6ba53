-- What the checks of a load come to.
use Rattle.std.specs.Prelude.{ℕ, zero, suc, ◌+◌, Bool, false, cond, Some, None, Ok, Err, Option, Result, nat_le}
use Rattle.std.specs.declared.cmp.Ordering.{Ordering}
use Rattle.rows.specs.declared.kind.Side.{Side}
use Rattle.sources.specs.declared.fault.SourceFault.{SourceFault}
use Rattle.join.specs.declared.load.LoadFault.{LoadFault}
use Rattle.join.specs.declared.load.LoadFault.TheVariants.{TableFull, TooManyBatches, TooManyRows, Source}
use Rattle.machine.specs.declared.fault.JoinFault.{JoinFault}
use Rattle.machine.specs.declared.fault.JoinFault.TheVariants.{TableFull as table_full, TooManyBatches as too_many_batches, TooManyRows as too_many_rows, Source as source_fault}
use Rattle.rows.specs.declared.row.Row.{Row}
use Rattle.rows.specs.Order.{is_after}
use Rattle.machine.specs.Machine.{most_rows}

abbrev pub on_side : LoadFault → Side → ℕ → JoinFault
on_side TableFull side first = table_full side first
on_side TooManyBatches side first = too_many_batches first
on_side TooManyRows side first = too_many_rows side first
on_side (Source f) side first = source_fault side f

-- the size of the next batch, checked: of a batch that has rows, first for places, then for batches, then for the table
abbrev pub checked : Result (Option ℕ) SourceFault → ℕ → Bool → ℕ → Result (Option ℕ) LoadFault
checked (Err f) read full space = Err (Source f)
checked (Ok None) read full space = Ok None
checked (Ok (Some zero)) read full space = Ok (Some zero)
checked (Ok (Some (suc n))) read full space =
    cond (nat_le (read + suc n) most_rows)
    (cond full (Err TooManyBatches)
    (cond (nat_le (suc n) space) (Ok (Some (suc n))) (Err TableFull)))
    (Err TooManyRows)

-- a row is before the one before it, if any
abbrev pub breaks : {K : Type 0} → (K → K → Ordering) → Option (Row K) → Row K → Bool
breaks within None x = false
breaks within (Some w) x = is_after (within w.key x.key)
