-- A source whose moments are moved by an offset.
use Rattle.std.specs.Prelude.{ℕ, ◌-◌, ◌^◌, min, List, map, ℤ, pos, negsuc, ◌+ℤ◌}
use Rattle.rows.specs.declared.row.Row.{Row}

-- a number held within the 32 bits of a moment: at least 0, at most 4,294,967,295
abbrev pub held : ℤ → ℕ
held (pos n) = min n (2 ^ 32 - 1)
held (negsuc n) = 0

-- the moment with the offset added
abbrev pub moved : ℤ → ℕ → ℕ
moved offset moment = held (pos moment +ℤ offset)

-- the row with its moment moved, and nothing else changed
abbrev pub moved_row : {K : Type 0} → ℤ → Row K → Row K
moved_row offset row = record { key = row.key; reading = record { moment = moved offset row.reading.moment; level = row.reading.level; receiver = row.reading.receiver } }

abbrev pub moved_batches : {K : Type 0} → ℤ → List (List (Row K)) → List (List (Row K))
moved_batches offset batches = map (map (moved_row offset)) batches
