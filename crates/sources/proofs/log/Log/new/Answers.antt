use Rattle.std.proofs.Common.{ap, ◌∙◌}
use Rattle.sources.specs.Log.{log_batches, log_closing}
use Rattle.sources.proofs.Written.{written_means}
use Rattle.sources.proofs.log.Log.new.Goals as goal

pub returns-clause-written : goal.returns-clause-written
returns-clause-written g c =
    let L = g.F.KeyKind.layout in
    let found = c.opened.ensures in
    λ given fits e.
    let means = written_means L g.met.F.KeyKind.back given fits in
    (found.batches ∙ ap (log_batches L) e ∙ means.0, found.closing ∙ ap (log_closing L) e ∙ means.1)
