use Rattle.std.proofs.Common.{sym, refl, ap, ◌∙◌}
use Rattle.join.specs.declared.limits.Limits.{Limits}
use Rattle.join.specs.Pairing.{adding}
use Rattle.join.specs.Shows.{with_tables, setting_by}
use Rattle.join.proofs.state.Join.pair.Goals as goal

pub returns-then-count-gt0 : goal.returns-then-count-gt0
returns-then-count-gt0 g c = record {
  does = λ within across m.
      let opened = λ (l : Limits). setting_by l g.F.Filter.says c.args.filter.now within across in
      let m' = with_tables c.args.streamed.now c.args.buffered.now c.write_pairs-count.new.block m in
      c.write_pairs-count.ensures.some c.if-count-gt0.true (opened c.args.self.now.limits) refl refl m
      ∙ ap (λ (l : Limits). adding (opened l) c.write_pairs-count.result c.write_pairs-count.new.self m') (sym c.write_pairs-count.ensures.limits)
      ∙ c.add_written.ensures.does within across m';
  limits = c.add_written.ensures.limits ∙ c.write_pairs-count.ensures.limits;
}
