-- What the writing of a streamed row's pairs comes to, before they are counted to the unfrozen.
use Rattle.std.specs.Prelude.{◌≡◌, ℕ, ◌+◌, ◌≤◌, List, length, take, drop}
use Rattle.rows.specs.declared.row.Row.{Row}
use Rattle.pipeline.specs.declared.entry.Entry.{Entry}
use Rattle.pipeline.specs.Block.{queued, pushed}
use Rattle.pipeline.specs.Held.{holding}
use Rattle.machine.specs.Machine.{Setting, going, freeze_full, step_of, Outcome}
use Rattle.join.specs.declared.state.Join.{Join}
use Rattle.join.specs.Phases.{pending}
use Rattle.join.specs.Shows.{Memory, with_tables, core_of, streamed_of, buffered_of, counts_of, phase_of}

-- The machine's step, where n entries stand written behind the unfrozen: they join the unfrozen, and all is frozen when these
-- reach the batch size.
abbrev pub adding : {K : Type 0} → Setting K → ℕ → Join K → Memory K → Outcome K
adding c n j m = freeze_full c (phase_of j.phase (holding j.buffered) (take j.buffered.held m.buffered)) (streamed_of j m) (buffered_of j m) (pushed (take n (drop (j.queue.frozen + j.queue.unfrozen) m.block)) (queued j.queue m.block)) (counts_of j.counts)

-- n pairs are written into the block, no more than have room; with none written the row is passed
pub record Written {K : Type 0} (j j' : Join K) (streamed buffered : List (Row K)) (block block' : List Entry) (n : ℕ) : Type 0 where
  pub limits : j'.limits ≡ j.limits
  pub queue : j'.queue ≡ j.queue
  pub states : j'.states ≡ j.states
  pub held : j'.buffered.held ≡ j.buffered.held
  pub long : length block' ≡ length block
  pub few : n + pending j'.phase ≤ pending j.phase
  pub room : j.queue.unfrozen + n ≤ j.limits.batch
  pub none : n ≡ 0 → (c : Setting K) → c.kind ≡ j.limits.kind → c.size ≡ j.limits.batch → (m : Memory K)
      → step_of c (core_of j (with_tables streamed buffered block m)) ≡ going (core_of j' (with_tables streamed buffered block' m))
  pub some : 1 ≤ n → (c : Setting K) → c.kind ≡ j.limits.kind → c.size ≡ j.limits.batch → (m : Memory K)
      → step_of c (core_of j (with_tables streamed buffered block m)) ≡ adding c n j' (with_tables streamed buffered block' m)
