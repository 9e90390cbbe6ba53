use Rattle.std.proofs.Common.{◌≤◌, length, refl, arith}
use Rattle.pipeline.proofs.Compacting.{compacting_front, compacting_count}
use Rattle.pipeline.proofs.RowByRow.{row_by_row}
use Rattle.pipeline.proofs.correction.correct_entries.Goals as goal

pub returns : goal.returns
returns c =
    let past : length c.args.entries.now ≤ c.loop-i.i = omega arith in
    record { front = compacting_front c.loop-i.invariant past refl; count = compacting_count c.loop-i.invariant past refl; rows = row_by_row c.args.kind }
