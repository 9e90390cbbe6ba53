use Rattle.std.proofs.Common.{sym, ◌∙◌, rules}
use Rattle.std.proofs.lemmas.List.{at_drop_all}
use Rattle.sources.specs.Keys.{all_zero}
use Rattle.sources.proofs.Presence.{zero_more, not_zero}
use Rattle.sources.proofs.kind.is_zero.Goals as goal

pub returns-then-byte-ne0 : goal.returns-then-byte-ne0
returns-then-byte-ne0 c = sym (not_zero c.args.bytes.now c.loop-byte.byte-index (search rules) c.if-byte-ne0.true) ∙ c.loop-byte.invariant

pub loop-byte-preserved : goal.loop-byte-preserved
loop-byte-preserved c = sym (zero_more c.args.bytes.now c.loop-byte.byte-index (search rules) c.if-byte-ne0.false) ∙ c.loop-byte.invariant

pub returns : goal.returns
returns c = sym (at_drop_all all_zero c.args.bytes.now c.loop-byte.byte-index (search rules)) ∙ c.loop-byte.invariant
