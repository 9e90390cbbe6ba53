-- The machine's state, read off what a join and its caller hold.
use Rattle.std.specs.Prelude.{◌≡◌, ℕ, zero, suc, Bool, cond, List, length, take, is_some, Some, None, Option}
use Rattle.std.specs.declared.cmp.Ordering.{Ordering}
use Rattle.rows.specs.declared.reading.Reading.{Reading}
use Rattle.rows.specs.declared.row.Row.{Row}
use Rattle.sources.specs.Meaning.{Closing}
use Rattle.filters.specs.declared.filter.Verdict.{Verdict}
use Rattle.pipeline.specs.declared.entry.Entry.{Entry}
use Rattle.pipeline.specs.Block.{queued}
use Rattle.pipeline.specs.Freezing.{asking}
use Rattle.pipeline.specs.Held.{Holding, holding, run_at}
use Rattle.pipeline.specs.States.{states_of}
use Rattle.join.specs.declared.limits.Limits.{Limits}
use Rattle.join.specs.declared.parts.Counts.{Counts as CountsOf}
use Rattle.join.specs.declared.phase.Phase.{Phase as PhaseOf}
use Rattle.join.specs.declared.phase.Phase.TheVariants.{Fetching, Seeding, Extending, Closing as closing_phase, Turning, Pairing, Passing, Done, Stopped}
use Rattle.join.specs.declared.state.Join.{Join}
use Rattle.join.specs.declared.turn.Step.{Step}
use Rattle.join.specs.declared.turn.Step.TheVariants.{Going, Handed, Said}
use Rattle.machine.specs.declared.answer.State.{State}
use Rattle.machine.specs.declared.answer.State.TheVariants.{Working, Waiting, Finished, Stopped as has_stopped}
use Rattle.machine.specs.Machine.{Setting, Streamed, Buffered, Counts, Phase, fetching, seeding, extending, closing, turning, pairing, passing, done, stopped, Core, core, Outcome, going, answered, Moved, goes, hands_over, says, has_batch, row_at, run_head, comparison, compared, marked_by, flush, deferred}

-- what the caller of a turn gives, but for the order, the filter and the sink
pub record Memory (K : Type 0) : Type 0 where
  pub streamed_batches : List (List (Row K))
  pub streamed_closing : Closing
  pub buffered_batches : List (List (Row K))
  pub buffered_closing : Closing
  pub streamed : List (Row K)
  pub buffered : List (Row K)
  pub block : List Entry

abbrev pub memory : {K : Type 0} → List (List (Row K)) → Closing → List (List (Row K)) → Closing → List (Row K) → List (Row K) → List Entry → Memory K
memory sl sc bl bc st bt block = record { streamed_batches = sl; streamed_closing = sc; buffered_batches = bl; buffered_closing = bc; streamed = st; buffered = bt; block = block }

-- the same memory with another block
abbrev pub with_block : {K : Type 0} → List Entry → Memory K → Memory K
with_block block m = memory m.streamed_batches m.streamed_closing m.buffered_batches m.buffered_closing m.streamed m.buffered block

-- the same memory with other tables and another block
abbrev pub with_tables : {K : Type 0} → List (Row K) → List (Row K) → List Entry → Memory K → Memory K
with_tables st bt block m = memory m.streamed_batches m.streamed_closing m.buffered_batches m.buffered_closing st bt block

-- the tables are as long as at opening
pub record FitsTables {K : Type 0} (l : Limits) (streamed buffered : List (Row K)) : Type 0 where
  pub streamed_length : length streamed ≡ l.streamed
  pub buffered_length : length buffered ≡ l.buffered

-- the tables and the block are as long as at opening
pub record FitsMemory {K : Type 0} (l : Limits) (m : Memory K) : Type 0 where
  pub streamed_length : length m.streamed ≡ l.streamed
  pub buffered_length : length m.buffered ≡ l.buffered
  pub block_length : length m.block ≡ l.block

-- nothing is due, and the block is as long as at opening
pub record Ready {K : Type 0} (j : Join K) (block : List Entry) : Type 0 where
  pub none_due : j.queue.due ≡ 0
  pub block_length : length block ≡ j.limits.block

abbrev pub streamed_of : {K : Type 0} → Join K → Memory K → Streamed K
streamed_of j m = record { batches = m.streamed_batches; closing = m.streamed_closing; first = j.streamed.first; rows = take j.streamed.rows m.streamed; at = j.streamed.at; ended = j.streamed.ended; last = j.streamed_last }

abbrev pub buffered_of : {K : Type 0} → Join K → Memory K → Buffered K
buffered_of j m = record { batches = m.buffered_batches; closing = m.buffered_closing; holding = holding j.buffered; rows = take j.buffered.held m.buffered; states = states_of j.states; ended = j.buffered_ended; last = j.buffered_last }

abbrev pub counts_of : CountsOf → Counts
counts_of n = record { turns = n.turns; rows = n.rows; runs = n.runs; handed = n.handed }

-- what is left to pair is read off the held rows
abbrev pub phase_of : {K : Type 0} → PhaseOf → Holding → List (Row K) → Phase K
phase_of (Fetching first) h rows = fetching first
phase_of (Seeding first) h rows = seeding first
phase_of (Extending first) h rows = extending first
phase_of (closing_phase first) h rows = closing first
phase_of Turning h rows = turning
phase_of (Pairing p) h rows = pairing (take p.left (run_at h p.batch p.row rows))
phase_of Passing h rows = passing
phase_of Done h rows = done
phase_of (Stopped f) h rows = stopped f

-- the state that a report gives: with records due a join waits for the sink; otherwise the phase tells
abbrev pub state_of : (due : ℕ) → PhaseOf → State
state_of (suc due) ph = Waiting
state_of zero (Fetching first) = Working
state_of zero (Seeding first) = Working
state_of zero (Extending first) = Working
state_of zero (closing_phase first) = Working
state_of zero Turning = Working
state_of zero (Pairing p) = Working
state_of zero Passing = Working
state_of zero Done = Finished
state_of zero (Stopped f) = has_stopped

abbrev pub core_of : {K : Type 0} → Join K → Memory K → Core K
core_of j m = core (streamed_of j m) (buffered_of j m) (queued j.queue m.block) (counts_of j.counts) (phase_of j.phase (holding j.buffered) (take j.buffered.held m.buffered))

-- the setting of a join: its limits, the order, and what the filter, if any, says of two readings
abbrev pub setting : {K : Type 0} → Limits → (K → K → Ordering) → (K → K → Ordering) → (Reading → Reading → Bool) → Bool → Setting K
setting l within across asks filtered = record { within = within; across = across; asks = asks; filtered = filtered; kind = l.kind; size = l.batch; streamed_table = l.streamed; buffered_table = l.buffered }

-- the setting of a join with a filter, if any, whose verdicts are given
abbrev pub setting_by : {K F : Type 0} → Limits → (F → Reading → Reading → Verdict) → Option F → (K → K → Ordering) → (K → K → Ordering) → Setting K
setting_by l verdicts filter within across = setting l within across (asking verdicts filter) (is_some filter)

-- all that waits in the block is due
abbrev pub flushed : {K : Type 0} → Setting K → Join K → Memory K → Core K
flushed c j m =
    let q = queued j.queue m.block in
    core (streamed_of j m) (marked_by c.kind c.asks q (buffered_of j m)) (flush (deferred c) c.kind c.asks q) (counts_of j.counts) (phase_of j.phase (holding j.buffered) (take j.buffered.held m.buffered))

-- what a turn comes to, by how it compares
abbrev pub turned : {K : Type 0} → Setting K → Ordering → Join K → Memory K → Outcome K
turned c w j m = compared c w (streamed_of j m) (buffered_of j m) (queued j.queue m.block) (counts_of j.counts)

-- how a turn compares the streamed row with the run; none where a batch waits in the block, which is emptied first
abbrev pub compared_as : {K : Type 0} → Setting K → Join K → Memory K → Option Ordering
compared_as c j m = cond (has_batch c (queued j.queue m.block)) None (Some (comparison c (row_at j.streamed.at (take j.streamed.rows m.streamed)) (run_head c (buffered_of j m))))

-- what a step of the code answers, against what the machine's step comes to
abbrev pub Stepped : {K : Type 0} → Outcome K → Step → Core K → Type 0
Stepped o Going s = o ≡ going s
Stepped o (Handed x) s = ⊥
Stepped o (Said told) s = o ≡ answered told s

-- the same with the sink's value
abbrev pub MovedBy : {K V : Type 0} → Moved K V → Step → Core K → V → Type 0
MovedBy o Going s v = o ≡ goes s v
MovedBy o (Handed x) s v = o ≡ hands_over x s v
MovedBy o (Said told) s v = o ≡ says told s v
