use Rattle.std.proofs.Common.{◌≡◌, ◌+◌, ◌-◌, ◌≤◌, leb, length, set, sym, ap, ◌∙◌, arith}
use Rattle.std.proofs.lemmas.Bool.{and_parts}
use Rattle.pipeline.specs.Entries.{lone}
use Rattle.pipeline.specs.Block.{queued, has_room, places}
use Rattle.pipeline.proofs.Queues.{room_parts, note_queued, noting_more}
use Rattle.pipeline.proofs.queue.Queue.note_rows.Goals as goal

pub loop-i-preserved : goal.loop-i-preserved
loop-i-preserved c =
    let q = c.args.self.now in
    let block = c.args.block.now in
    let i = c.loop-i.i in
    let now = c.loop-i.self in
    let can = and_parts (leb (c.args.first + c.args.n) places) (has_room c.args.n q block) (sym c.can_note.ensures ∙ c.if-not-can_note.false) in
    let parts = room_parts c.args.n q block can.1 in
    let inv = c.loop-i.invariant in
    let numbers = c.note.ensures.numbers in
    let fits : now.frozen + now.unfrozen + now.noted + 1 ≤ length c.loop-i.block = omega (arith, parts.1, inv.2, inv.3, inv.4, c.loop-i-test.true, c.loop-i.auto.block) in
    let written = set c.loop-i.block (length c.loop-i.block - 1 - now.noted) c.lone.result in
    let is : c.lone.result ≡ lone _ = c.lone.ensures ∙ ap lone c.buffered_record.ensures in (
      ap (λ x. x.next) numbers ∙ inv.0,
      ap (λ x. x.due) numbers ∙ inv.1,
      ap (λ x. x.frozen) numbers ∙ inv.2,
      ap (λ x. x.unfrozen) numbers ∙ inv.3,
      ap (λ x. x.noted) numbers ∙ omega (arith, inv.4),
      ap (queued c.note.new.self) c.note.ensures.block ∙ ap (λ x. queued x written) numbers
          ∙ note_queued now c.loop-i.block c.lone.result (inv.1 ∙ parts.0) fits
          ∙ noting_more c.args.kind c.args.first i (queued q block) c.lone.result (queued now c.loop-i.block) is inv.5,
    )
