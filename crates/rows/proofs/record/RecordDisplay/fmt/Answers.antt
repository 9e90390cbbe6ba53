use Rattle.std.proofs.Common.{sym, subst}
use Rattle.std.specs.Fmt.{DisplaysOnOk}
use Rattle.rows.specs.Texts.{record_text}
use Rattle.rows.proofs.record.RecordDisplay.fmt.Goals as goal

pub returns-in-RightAlone-clause-writes : goal.returns-in-RightAlone-clause-writes
returns-in-RightAlone-clause-writes g c =
    subst (λ s. DisplaysOnOk g.W.Write.write_str_gives c.args.f.now c.write-in-RightAlone.result (record_text s) c.write-in-RightAlone.new.self) (sym c.in-RightAlone.is) c.write-in-RightAlone.ensures.writes
