use Rattle.std.proofs.Common.{ap, ◌∙◌}
use Rattle.std.specs.Option.{option_or}
use Rattle.join.proofs.Lists.{last_is}
use Rattle.join.proofs.load.last_row.Goals as goal

pub returns : goal.returns
returns g c = c.or.ensures ∙ ap (λ o. option_or o c.args.last) (c.copied.ensures ∙ c.last.ensures.value) ∙ last_is c.args.last c.args.rows.now
