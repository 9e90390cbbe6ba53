use Rattle.std.proofs.Common.{◌≡◌, take}
use Rattle.pipeline.specs.Batches.{rows_of}
use Rattle.pipeline.specs.Held.{holding, run_at}
use Rattle.pipeline.proofs.Scanning.{Goes, pairs}
use Rattle.pipeline.proofs.held.BufferedData.pair_rows.Given as goal

abbrev pub invariant-loop-at : goal.invariant-loop-at
invariant-loop-at g l =
    Goes (pairs l.kind l.row l.place l.reading) l.initial.out l.initial.count (run_at (holding l.self) l.batch l.start l.rows) l.out l.count (run_at (holding l.self) l.batch l.at l.rows)
    × (l.position ≡ l.initial.position)

abbrev pub invariant-scan : goal.invariant-scan
invariant-scan g l =
    (l.first ≡ rows_of (take l.batch (take l.self.count l.self.batches)))
    × Goes (pairs l.kind l.row l.place l.reading) l.initial.out l.initial.count (run_at (holding l.self) l.fn.from.batch l.fn.from.row l.rows) l.out l.count (run_at (holding l.self) l.batch l.start l.rows)
    × (l.position ≡ l.initial.position)
