-- What a step that settles what is queued needs, and what it leaves.
use Rattle.std.specs.Prelude.{◌≡◌, ◌+◌, ◌≤◌, Bool, List, is_some}
use Rattle.rows.specs.declared.reading.Reading.{Reading}
use Rattle.filters.specs.declared.filter.Verdict.{Verdict}
use Rattle.pipeline.specs.declared.entry.Entry.{Entry}
use Rattle.pipeline.specs.declared.freeze.Judge.{Judge}
use Rattle.pipeline.specs.declared.queue.Queue.{Queue}
use Rattle.pipeline.specs.declared.states.States.{States}
use Rattle.pipeline.specs.Block.{Queued, Roomy, queued}
use Rattle.pipeline.specs.Freezing.{asking, judged_all}
use Rattle.pipeline.specs.States.{states_of, marking}
use Rattle.machine.specs.Machine.{is_deferred}

-- nothing is due, and the numbers leave room for what they count
pub record Idle (q : Queue) (block : List Entry) : Type 0 where
  pub none_due : q.due ≡ 0
  pub roomy : Roomy q block

-- The queue and the block hold what `step` makes of what they held, so that each number of the queue is known. Nothing is
-- unfrozen, and no more is counted than was.
pub record Settled (step : Queued → Queued) (q : Queue) (block : List Entry) (q' : Queue) (block' : List Entry) : Type 0 where
  pub holds : queued q' block' ≡ step (queued q block)
  pub roomy : Roomy q' block'
  pub unfrozen : q'.unfrozen ≡ 0
  pub noted : q'.noted ≤ q.noted
  pub counted : q'.frozen + q'.noted ≤ q.frozen + q.unfrozen + q.noted

module _ {F : Type 0} where
  -- records judged so wait until they are corrected
  abbrev pub defers : Judge F → Bool
  defers judge = is_deferred (is_some judge.filter.now) judge.kind

  module _ (says : F → Reading → Reading → Verdict) (judge : Judge F) where
    -- whether a left and a right reading pass
    abbrev pub asked : Reading → Reading → Bool
    asked = asking says judge.filter.now

    -- the verdicts on the unfrozen count for the held rows, of which there are as many as before
    pub record Marked (q : Queued) (states states' : States) : Type 0 where
      pub marks : states_of states' ≡ marking judge.kind judge.base (judged_all asked q.unfrozen) (states_of states)
      pub long : states'.len ≡ states.len
