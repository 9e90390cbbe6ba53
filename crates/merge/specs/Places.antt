-- A place has 32 bits, so it can name 4,294,967,296 rows of a log, and no more.
use Rattle.std.specs.Prelude.{ℕ, ◌^◌, ◌<◌, ◌≤◌, ◌⊎◌, Ok, Err, Result}
use Rattle.merge.specs.declared.nested_loops.TableError.{TableError}
use Rattle.merge.specs.declared.nested_loops.TableError.TheVariants.{TooLong, Memory}

-- The refusal TooLong comes exactly when a log, of m or of n rows, has more rows than places can name.
abbrev pub RefusesTooLong : {V : Type 0} → Result V TableError → (m n : ℕ) → Type 0
RefusesTooLong (Ok v) m n = (m ≤ 2 ^ 32) × (n ≤ 2 ^ 32)
RefusesTooLong (Err TooLong) m n = (2 ^ 32 < m) ⊎ (2 ^ 32 < n)
RefusesTooLong (Err Memory) m n = (m ≤ 2 ^ 32) × (n ≤ 2 ^ 32)
