use Rattle.std.proofs.Common.{◌≡◌, ◌++◌, take, drop}
use Rattle.pipeline.specs.Freezing.{asking, judged_all}
use Rattle.pipeline.specs.States.{states_of, marking}
use Rattle.pipeline.proofs.freeze.freeze_entries.Given as goal

-- the entries before i are judged and marked, and those from i on will be
abbrev pub invariant-loop-entry : goal.invariant-loop-entry
invariant-loop-entry g l = (take l.entry-index l.entries ++ judged_all (asking g.F.Filter.says l.judge.filter.now) (drop l.entry-index l.entries) ≡ judged_all (asking g.F.Filter.says l.judge.filter.now) l.initial.entries)
    × (marking l.judge.kind l.judge.base (judged_all (asking g.F.Filter.says l.judge.filter.now) (drop l.entry-index l.entries)) (states_of l.states) ≡ marking l.judge.kind l.judge.base (judged_all (asking g.F.Filter.says l.judge.filter.now) l.initial.entries) (states_of l.initial.states))
