use Rattle.std.proofs.Common.{◌≡◌, [], ◌∷◌, ap, ◌∙◌, arith}
use Rattle.std.proofs.lemmas.List.{length-append}
use Rattle.pipeline.specs.declared.entry.Entry.{Entry}
use Rattle.pipeline.specs.Block.{queued, pushed}
use Rattle.pipeline.specs.Entries.{lone}
use Rattle.pipeline.specs.Orient.{streamed_alone}
use Rattle.pipeline.proofs.Queues.{counts, room_from}
use Rattle.join.proofs.Settling.{made_by}
use Rattle.join.proofs.note.push_lone.Goals as goal

pub returns : goal.returns
returns c =
    let q = c.args.queue.now in
    let block = c.args.block.now in
    let idle = c.requires.idle in
    let room = idle.roomy in
    let m = made_by c.push.ensures (room_from 1 q block idle.none_due c.requires.room) room in
    let n = counts q block room in
    let e = c.lone.result in
    let is : e ≡ lone (streamed_alone c.args.kind c.args.place) = cc in
    record {
      queue = m.holds ∙ ap (λ (x : Entry). pushed (x ∷ []) (queued q block)) is;
      roomy = m.roomy;
      numbers = (m.frozen ∙ n.2, (omega (arith, m.unfrozen, length-append (queued q block).unfrozen (e ∷ []), n.1), (m.noted ∙ n.0, m.due ∙ n.3 ∙ idle.none_due)));
    }
