-- The rows of batches.
use Rattle.std.specs.Prelude.{ℕ, ◌+◌, List, [], ◌∷◌}
use Rattle.pipeline.specs.declared.batch.BufferedBatch.{BufferedBatch}

abbrev pub rows_of : List BufferedBatch → ℕ
rows_of [] = 0
rows_of (b ∷ l) = b.rows + rows_of l
