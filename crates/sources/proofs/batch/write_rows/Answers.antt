use Rattle.std.proofs.Common.{◌≡◌, ◌≤◌, ◌++◌, length, drop, ap, ◌∙◌, arith, rules}
use Rattle.std.proofs.lemmas.List.{take_rest, length-drop, length-take-le}
use Rattle.sources.specs.Coming.{rows_in}
use Rattle.sources.proofs.Rows.{row_apart, rest_apart, row_room, writing_more, writing_all}
use Rattle.sources.proofs.batch.write_rows.Goals as goal

pub unreachable-requires : goal.unreachable-requires
unreachable-requires g c =
    let L = g.F.KeyKind.layout in
    let room = row_room L c.args.rows.now c.loop-slot.slot-index c.loop-slot.slot-items c.loop-slot.rest.now c.loop-slot.invariant c.row_count.result c.args.memory.now c.row_count.ensures c.loop-slot-test.true in
    omega (arith, room, c.in_default.len_below)

pub unreachable-requires-in_default-take_apart : goal.unreachable-requires-in_default-take_apart
unreachable-requires-in_default-take_apart g c =
    let L = g.F.KeyKind.layout in
    let rest = c.loop-slot.rest.now in
    let room = row_room L c.args.rows.now c.loop-slot.slot-index c.loop-slot.slot-items rest c.loop-slot.invariant c.row_count.result c.args.memory.now c.row_count.ensures c.loop-slot-test.true in
    omega (arith, room, c.in_default-take_apart.ensures, ap length (take_rest rest 1), length-drop 1 rest)

pub loop-slot-preserved : goal.loop-slot-preserved
loop-slot-preserved g c =
    let L = g.F.KeyKind.layout in
    let rest = c.loop-slot.rest.now in
    let row = c.in-Some.row in
    let apart = c.in-Some.ensures in
    writing_more L c.args.rows.now c.loop-slot.slot-index c.loop-slot.slot-items rest c.loop-slot.invariant c.row_count.result c.args.memory.now c.row_count.ensures c.loop-slot-test.true _ _ (search rules)
    (row_apart L rest row c.decode.result apart c.decode.ensures) (rest_apart L rest row apart)

pub returns : goal.returns
returns g c =
    let L = g.F.KeyKind.layout in
    let rows = c.args.rows.now in
    let before = c.args.memory.now in
    let count = c.row_count.result in
    let all : length c.loop-slot.slot-items ≤ c.loop-slot.slot-index = omega (arith, c.loop-slot-test.false, c.loop-slot.auto.slot-items) in
    let room : count ≤ length before = omega (arith, c.row_count.ensures, c.requires) in
    let end : c.loop-slot.slot-index ≡ count = omega (arith, c.loop-slot-test.false, c.loop-slot.auto.slot-index-end, length-take-le count before room) in
    ap (λ part. part ++ drop count before) (writing_all L rows c.loop-slot.slot-index c.loop-slot.slot-items c.loop-slot.rest.now c.loop-slot.invariant (end ∙ c.row_count.ensures) all)
    ∙ ap (λ m. rows_in L rows ++ drop m before) c.row_count.ensures
