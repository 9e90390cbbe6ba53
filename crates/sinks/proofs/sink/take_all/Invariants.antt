use Rattle.std.proofs.Common.{take}
use Rattle.sinks.specs.Meaning.{Led}
use Rattle.sinks.proofs.sink.take_all.Given as goal

-- the records passed lead from the value where the loop began
abbrev pub invariant-loop-i : goal.invariant-loop-i
invariant-loop-i g l =
    let s = g.S.Sink in
    Led s.fitting s.after (s.value l.initial.sink) (take l.i l.records) (s.value l.sink)
