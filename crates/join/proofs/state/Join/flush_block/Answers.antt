use Rattle.std.proofs.Common.{refl, sym, ap, ◌∙◌}
use Rattle.machine.specs.Machine.{going}
use Rattle.join.specs.Shows.{with_block, setting_by}
use Rattle.join.proofs.Comparing.{compares_nothing, turn_flushes}
use Rattle.join.proofs.state.Join.flush_block.Goals as goal

pub returns : goal.returns
returns g c = record {
  does = λ within across m.
      let j = c.args.self.now in
      let s = setting_by j.limits g.F.Filter.says c.args.filter.now within across in
      let m' = with_block c.args.block.now m in
      turn_flushes s j m' c.requires.phase (compares_nothing s j m' refl c.requires.ready.block_length c.requires.full) ∙ ap going (sym (c.flush.ensures.does within across m));
  limits = c.flush.ensures.limits;
}
