use Rattle.std.proofs.Common.{◌≡◌, ◌+◌}
use Rattle.pipeline.specs.Block.{queued, noting}
use Rattle.pipeline.proofs.queue.Queue.note_rows.Given as goal

-- the rows before i are noted
abbrev pub invariant-loop-i : goal.invariant-loop-i
invariant-loop-i l = (l.self.next ≡ l.initial.self.next) × (l.self.due ≡ l.initial.self.due) × (l.self.frozen ≡ l.initial.self.frozen) × (l.self.unfrozen ≡ l.initial.self.unfrozen) × (l.self.noted ≡ l.initial.self.noted + l.i)
    × (queued l.self l.block ≡ noting l.kind l.first l.i (queued l.initial.self l.initial.block))
