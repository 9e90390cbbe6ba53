-- Batches that are fetched one by one from a source.
use Rattle.std.specs.Prelude.{List, [], ◌∷◌, ◌++◌}

-- the batches left after the first
abbrev pub rest : {A : Type 0} → List (List A) → List (List A)
rest [] = []
rest (batch ∷ left) = left

-- what a memory holds after a fetch: the batch that came, or, where none did, what it held
abbrev pub held_after : {A : Type 0} → List (List A) → List A → List A
held_after [] memory = memory
held_after (batch ∷ left) memory = batch

-- the rows of all batches
abbrev pub all_rows : {A : Type 0} → List (List A) → List A
all_rows [] = []
all_rows (batch ∷ left) = batch ++ all_rows left
