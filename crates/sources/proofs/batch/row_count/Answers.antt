use Rattle.std.proofs.Common.{◌+◌, ◌/◌, length, sym, ap, ◌∙◌}
use Rattle.sources.proofs.Rows.{length_rows_of}
use Rattle.sources.proofs.batch.row_count.Goals as goal

pub returns : goal.returns
returns g c =
    let bytes = c.args.rows.now in
    ap (λ w. length bytes / (w + 8)) (c.WIDTH.ensures ∙ g.met.F.KeyKind.width_is) ∙ sym (length_rows_of g.F.KeyKind.layout _ bytes)
