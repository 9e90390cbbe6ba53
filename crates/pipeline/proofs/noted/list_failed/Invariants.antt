use Rattle.std.proofs.Common.{◌≡◌, ◌+◌, ◌≤◌, ◌++◌, length, take, drop}
use Rattle.pipeline.specs.States.{states_of, failed}
use Rattle.pipeline.proofs.noted.list_failed.Given as goal

-- the failed rows before i are written, and those from i on make up the rest
abbrev pub invariant-loop-i : goal.invariant-loop-i
invariant-loop-i l = (take l.count l.out ++ failed l.kind (l.batch.first + l.i) (drop l.i (take l.batch.rows (drop l.batch.from (states_of l.states))))
    ≡ failed l.kind l.batch.first (take l.batch.rows (drop l.batch.from (states_of l.states)))) × (l.count ≤ length l.out)
