-- What a report says of a join.
use Rattle.std.specs.Prelude.{List, [], ◌∷◌}
use Rattle.rows.specs.declared.kind.Kind.{Kind}
use Rattle.rows.specs.declared.record.Record.{Record}
use Rattle.rows.specs.Sides.{left_of, right_of}
use Rattle.machine.specs.declared.answer.State.{State}
use Rattle.machine.specs.declared.answer.State.TheVariants.{Working, Waiting, Finished, Stopped}
use Rattle.machine.specs.declared.answer.Report.{Report}
use Rattle.machine.specs.Machine.{Core, core, Phase, fetching, seeding, extending, closing, turning, pairing, passing, done, stopped, streamed_read, buffered_read}

-- a record that is due waits for the sink; with nothing due the phase tells
abbrev pub state_in : {K : Type 0} → List Record → Phase K → State
state_in (x ∷ l) ph = Waiting
state_in [] (fetching first) = Working
state_in [] (seeding first) = Working
state_in [] (extending first) = Working
state_in [] (closing first) = Working
state_in [] turning = Working
state_in [] (pairing todo) = Working
state_in [] passing = Working
state_in [] done = Finished
state_in [] (stopped f) = Stopped

-- the state, the turns, the rows and the runs passed, the rows read by side, and the records handed over
abbrev pub reported : {K : Type 0} → Kind → Core K → Report
reported kind (core st bf q n ph) = record {
  state = state_in q.due ph;
  turns = n.turns;
  rows_passed = n.rows;
  runs_passed = n.runs;
  left_read = left_of kind (streamed_read st) (buffered_read bf);
  right_read = right_of kind (streamed_read st) (buffered_read bf);
  handed = n.handed;
}
