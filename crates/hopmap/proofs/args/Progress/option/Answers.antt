use Rattle.std.proofs.Common.{Ok, Err, rules}
use Rattle.hopmap.proofs.args.Progress.option.Goals as goal

-- a setting's name is no switch's
pub returns : goal.returns
returns c = (Ok c.in-Ok.setting, Err (record {}), search rules, search rules, search rules)
