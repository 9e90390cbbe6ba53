-- A streamed batch that was taken, before it is put to use.
use Rattle.std.specs.Prelude.{◌≡◌, ℕ, ◌+◌, Bool, take, Option}
use Rattle.pipeline.specs.Block.{queued}
use Rattle.machine.specs.Machine.{Setting, Streamed, Outcome, streamed_read, fetch_checked}
use Rattle.join.specs.declared.state.Join.{Join}
use Rattle.join.specs.Shows.{Memory, buffered_of, counts_of}

-- the streamed side as it was before the batch was taken, but for its rows and the batches left
pub record Before {K : Type 0} (j : Join K) (m : Memory K) (st : Streamed K) : Type 0 where
  pub closing_same : st.closing ≡ m.streamed_closing
  pub read_same : streamed_read st ≡ j.streamed.first + j.streamed.rows
  pub last_same : st.last ≡ j.streamed_last

-- what the machine makes of a batch of n rows at the start of the table; `disordered` is the place of a row out of order
abbrev pub use_taken : {K : Type 0} → Setting K → Option ℕ → Bool → ℕ → Join K → Memory K → Streamed K → Outcome K
use_taken c disordered first n j m st = fetch_checked c disordered first (take n m.streamed) m.streamed_batches st (buffered_of j m) (queued j.queue m.block) (counts_of j.counts)
