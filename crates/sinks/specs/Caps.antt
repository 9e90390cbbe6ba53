-- What a cap over a sink means, given which records fit the sink below and its value after taking one.
use Rattle.std.specs.Prelude.{◌≡◌, ℕ, ◌+◌, ◌-◌, Bool, ◌&&◌, List, length, nat_lt}
use Rattle.rows.specs.declared.record.Record.{Record}
use Rattle.sinks.specs.Meaning.{Led}

-- the takes left, and the value of the sink below
pub record Capped (V : Type 0) : Type 0 where
  pub left : ℕ
  pub inner : V

-- a record fits where a take is left and it fits the sink below
abbrev pub cap_fits : {V : Type 0} → (V → Record → Bool) → Capped V → Record → Bool
cap_fits fitting v x = nat_lt 0 v.left && fitting v.inner x

abbrev pub capped_after : {V : Type 0} → (V → Record → V) → Capped V → Record → Capped V
capped_after after v x = record { left = v.left - 1; inner = after v.inner x }

-- records that lead through a cap use up a take each, and lead the sink below
abbrev pub CapHandsOn : {V : Type 0} → (V → Record → Bool) → (V → Record → V) → Type 0
CapHandsOn {V} fitting after = (v v' : Capped V) (records : List Record) → Led (cap_fits fitting) (capped_after after) v records v'
    → (v.left ≡ length records + v'.left) × Led fitting after v.inner records v'.inner
