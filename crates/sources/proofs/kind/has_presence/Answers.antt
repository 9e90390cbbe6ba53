use Rattle.std.proofs.Common.{◌∙◌, rules}
use Rattle.std.proofs.lemmas.List.{take_rest}
use Rattle.sources.proofs.Presence.{missing_presence}
use Rattle.sources.proofs.kind.has_presence.Goals as goal

pub returns-in-0 : goal.returns-in-0
returns-in-0 c =
    let bytes = c.args.bytes.now in
    c.is_zero.ensures ∙ missing_presence bytes _ (search rules) (search rules) (take_rest bytes 1)
