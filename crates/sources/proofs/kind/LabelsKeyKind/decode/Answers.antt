use Rattle.std.proofs.Common.{◌≡◌, ℕ, ◌<◌, List, [], ◌∷◌, length, get_or, drop, Some, sym, ap, ◌∙◌, arith, rules}
use Rattle.std.proofs.lemmas.List.{take_rest}
use Rattle.rows.specs.declared.key.LabelKey.{LabelKey}
use Rattle.sources.specs.Keys.{labels}
use Rattle.sources.proofs.kind.LabelsKeyKind.decode.Goals as goal

present_label : (bytes label : List ℕ) → 0 < length bytes → get_or bytes 0 0 ≡ 1 → label ≡ drop 1 bytes → length label ≡ 12
    → ◌≡◌ {A = LabelKey} (record { label = Some label }) (labels.decoded bytes)
present_label [] label h z e n = absurd (omega arith)
present_label (presence ∷ bytes) label h z e n =
    let twelve : length bytes ≡ 12 = sym (ap length e) ∙ n in
    rw (z, twelve, e)

pub returns-in-Ok : goal.returns-in-Ok
returns-in-Ok c =
    let bytes = c.args.bytes.now in
    let whole = c.in-Ok.ensures.1 in
    present_label bytes _ (search rules) (search rules) (whole.same ∙ take_rest bytes 1) (ap length whole.same ∙ whole.long)
