use Rattle.std.proofs.Common.{refl, rules}
use Rattle.sources.proofs.Scan.{passed_more, found_closed, found_last, found_more}
use Rattle.sources.proofs.batch.next_batch.Goals as goal

pub returns-in-2 : goal.returns-in-2
returns-in-2 g c =
    found_closed g.F.KeyKind.layout c.args.total c.args.bytes.now c.loop-rest.rest.now c.loop-rest.invariant c.requires _ (search rules) c.in-2.is refl refl

pub returns-in-3 : goal.returns-in-3
returns-in-3 g c =
    found_last g.F.KeyKind.layout c.args.total c.args.bytes.now c.loop-rest.rest.now c.loop-rest.invariant c.requires _ (search rules) c.in-3.is (search rules) refl refl

pub returns-in-3-3 : goal.returns-in-3-3
returns-in-3-3 g c =
    found_more g.F.KeyKind.layout c.args.total c.args.bytes.now c.loop-rest.rest.now c.loop-rest.invariant c.requires (search rules) c.in-3.is _ (search rules) refl (search rules)

pub loop-rest-preserved : goal.loop-rest-preserved
loop-rest-preserved g c =
    let L = g.F.KeyKind.layout in
    let row = c.in_ok-row-in-1.row in
    passed_more L c.args.total c.args.bytes.now c.loop-rest.rest.now c.loop-rest.invariant (search rules) c.in-1.is row
    (rw c.in_ok-row-in-1.ensures.ok_part at c.take_apart.ensures) (search rules)
