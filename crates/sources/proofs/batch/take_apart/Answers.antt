use Rattle.std.proofs.Common.{◌≡◌, ◌≤◌, length, drop, ap, ◌∙◌, arith, rules}
use Rattle.std.proofs.lemmas.List.{take_rest, drop-drop}
use Rattle.sources.specs.Log.{reading_of}
use Rattle.sources.proofs.batch.take_apart.Goals as goal

pub returns : goal.returns
returns g c =
    let bytes = c.args.bytes.now in
    let after = c.split_at.result.1.now in
    let width = c.WIDTH-2.ensures ∙ g.met.F.KeyKind.width_is in
    let back : after ≡ drop g.F.KeyKind.layout.width bytes = rw width at c.split_at.ensures.back in
    let long : 7 ≤ length after = search rules in
    record {
      whole = omega (arith, width, c.split_at.ensures.back_len, long);
      key = rw width at c.split_at.ensures.front;
      reading = rw back at (let r : c.new.result ≡ reading_of after = search rules in r);
      rest = take_rest after 7 ∙ ap (drop 7) back ∙ drop-drop 7 g.F.KeyKind.layout.width bytes;
    }
