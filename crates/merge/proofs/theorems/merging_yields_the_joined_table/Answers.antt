use Rattle.merge.specs.Joined.{filter_of}
use Rattle.merge.proofs.Merging.{merging_yields}
use Rattle.merge.proofs.theorems.merging_yields_the_joined_table.Goals as goal

pub returns : goal.returns
returns g c = merging_yields _ _ (g.O.KeyOrder.lawful c.args.order.now) (filter_of g.F.Filter.says c.args.filter.now) c.args.kind
