use Rattle.std.proofs.Common.{◌≡◌, List, length, fold}
use Rattle.hopmap.specs.Fetching.{all_rows}
use Rattle.hopmap.specs.GradeCounts.{no_rows, counted_rows}
use Rattle.hopmap.specs.Totals.{with_batch, totals_of}
use Rattle.hopmap.proofs.grades.count_source.Given as goal

-- what is left adds up to what there was
abbrev pub invariant-loop-batch : goal.invariant-loop-batch
invariant-loop-batch g l = record {
  closes : g.S.Source.closing l.source ≡ g.S.Source.closing l.initial.source;
  totals : fold (λ t (batch : List _). with_batch t (length batch)) l.totals (g.S.Source.batches l.source) ≡ totals_of (g.S.Source.batches l.initial.source);
  counts : counted_rows l.counts (all_rows (g.S.Source.batches l.source)) ≡ counted_rows no_rows (all_rows (g.S.Source.batches l.initial.source));
}

abbrev pub decreases-loop-batch : goal.decreases-loop-batch
decreases-loop-batch g l = length (g.S.Source.batches l.source)
