use Rattle.std.proofs.Common.{◌≡◌, ◌++◌, length, vec_items}
use Rattle.hopmap.specs.Fetching.{all_rows}
use Rattle.hopmap.proofs.load.load.Given as goal

abbrev pub invariant-loop-rows : goal.invariant-loop-rows
invariant-loop-rows g l = record {
  closes : g.S.Source.closing l.source ≡ g.S.Source.closing l.initial.source;
  rows : vec_items l.rows ++ all_rows (g.S.Source.batches l.source) ≡ all_rows (g.S.Source.batches l.initial.source);
}

abbrev pub decreases-loop-rows : goal.decreases-loop-rows
decreases-loop-rows g l = length (g.S.Source.batches l.source)
