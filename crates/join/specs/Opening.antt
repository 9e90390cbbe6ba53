-- What a join may be opened with, and which refusal meets other numbers.
use Rattle.std.specs.Prelude.{◌≡◌, ℕ, ◌+◌, Bool, cond, ◌&&◌, Some, None, Option, nat_le}
use Rattle.rows.specs.Kinds.{numbered}
use Rattle.machine.specs.declared.fault.OpenRefusal.{OpenRefusal}
use Rattle.machine.specs.declared.fault.OpenRefusal.TheVariants.{Kind, BatchSize, Memory}
use Rattle.join.specs.declared.limits.Limits.{Limits}

abbrev pub is_kind : ℕ → Bool
is_kind n = nat_le n 3

abbrev pub is_batch_size : ℕ → Bool
is_batch_size n = nat_le 1 n && nat_le n 8192

-- how many rows a table may have
abbrev pub is_table : ℕ → Bool
is_table n = nat_le 1 n && nat_le n 65535

-- the tables are such, and the block takes a batch and the buffered table
abbrev pub is_memory : (batch streamed buffered block : ℕ) → Bool
is_memory batch streamed buffered block = is_table streamed && (is_table buffered && nat_le (batch + buffered) block)

-- the refusal that the numbers meet, of several the one with the lowest number; none where a join is opened
abbrev pub refusal : (kind batch streamed buffered block : ℕ) → Option OpenRefusal
refusal kind batch streamed buffered block =
    cond (is_kind kind)
    (cond (is_batch_size batch)
    (cond (is_memory batch streamed buffered block)
    None
    (Some Memory))
    (Some BatchSize))
    (Some Kind)

-- the limits are these numbers, which meet no refusal
pub record Checked (kind batch streamed buffered block : ℕ) (l : Limits) : Type 0 where
  pub unrefused : refusal kind batch streamed buffered block ≡ None
  pub kind_is : numbered kind ≡ Some l.kind
  pub batch_is : l.batch ≡ batch
  pub streamed_is : l.streamed ≡ streamed
  pub buffered_is : l.buffered ≡ buffered
  pub block_is : l.block ≡ block

-- limits of the same numbers
pub record SameLimits (l l' : Limits) : Type 0 where
  pub kind_same : l.kind ≡ l'.kind
  pub batch_same : l.batch ≡ l'.batch
  pub streamed_same : l.streamed ≡ l'.streamed
  pub buffered_same : l.buffered ≡ l'.buffered
  pub block_same : l.block ≡ l'.block
