-- What the calls of a sink answer and leave, given which records fit its value and the value after taking one.
use Rattle.std.specs.Prelude.{◌≡◌, ℕ, ◌≤◌, Bool, true, false, cond, List, [], ◌∷◌, length, take, drop, Ok, Err, Result}
use Rattle.rows.specs.declared.record.Record.{Record}
use Rattle.sinks.specs.declared.sink.Unfit.{Unfit}

abbrev pub answered : Bool → Result (Unit {0}) Unfit
answered true = Ok tt
answered false = Err (record {})

abbrev pub left_with : {V : Type 0} → (V → Record → Bool) → (V → Record → V) → V → Record → V
left_with fitting after v x = cond (fitting v x) (after v x) v

-- the records, taken in sequence, each fitting as it comes, lead from the one value to the other
abbrev pub Led : {V : Type 0} → (V → Record → Bool) → (V → Record → V) → V → List Record → V → Type 0
Led fitting after v [] v' = v ≡ v'
Led fitting after v (x ∷ records) v' = (fitting v x ≡ true) × Led fitting after (after v x) records v'

-- of the records, the first n were taken and no more: these lead from the one value to the other, which the next does not fit
pub record TookFirst {V : Type 0} (fitting : V → Record → Bool) (after : V → Record → V) (v : V) (records : List Record) (n : ℕ) (v' : V) : Type 0 where
  pub within : n ≤ length records
  pub led : Led fitting after v (take n records) v'
  pub stopped : (x : Record) (rest : List Record) → drop n records ≡ x ∷ rest → fitting v' x ≡ false
