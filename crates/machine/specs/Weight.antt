-- What falls with every small step of a call: so a call comes to an answer.
use Rattle.std.specs.Prelude.{◌≡◌, ℕ, ◌+◌, ◌-◌, ◌*◌, ◌<◌, ◌≤◌, true, false, cond, List, [], ◌∷◌, length, nat_lt}
use Rattle.rows.specs.declared.record.Record.{Record}
use Rattle.pipeline.specs.Block.{Queued}
use Rattle.machine.specs.Machine.{Setting, Streamed, Buffered, Phase, fetching, seeding, extending, closing, turning, pairing, passing, done, stopped, Core, core, has_batch}

-- the parts of a core
abbrev pub buffered_in : {K : Type 0} → Core K → Buffered K
buffered_in (core st bf q n ph) = bf

abbrev pub queued_in : {K : Type 0} → Core K → Queued
queued_in (core st bf q n ph) = q

abbrev pub due_of : {K : Type 0} → Core K → List Record
due_of s = (queued_in s).due

-- What is true of every join between two small steps: the batch size is not 0; the run ends within the rows held; the rows
-- held are there; the unfrozen are fewer than the batch size.
pub record Sane {K : Type 0} (c : Setting K) (s : Core K) : Type 0 where
  pub has_size : 1 ≤ c.size
  pub run_is_held : (buffered_in s).holding.end ≤ (buffered_in s).holding.held
  pub held_is_there : length (buffered_in s).rows ≡ (buffered_in s).holding.held
  pub has_room : length (queued_in s).unfrozen < c.size

abbrev pub rows_within : {A : Type 0} → List (List A) → ℕ
rows_within [] = 0
rows_within (b ∷ l) = length b + rows_within l

-- one where there is any
abbrev pub any_of : {A : Type 0} → List A → ℕ
any_of [] = 0
any_of (x ∷ l) = 1

-- a run that begins past the rows held is seeded anew, which weighs one more than to extend it
abbrev pub anew : {K : Type 0} → Buffered K → ℕ
anew bf = cond (nat_lt bf.holding.start bf.holding.held) 0 2

abbrev pub run_rows : {K : Type 0} → Buffered K → ℕ
run_rows bf = bf.holding.end - bf.holding.start

-- the batches that the sources have left, and the rows held and still to come: no run is longer
abbrev pub to_come : {K : Type 0} → Streamed K → Buffered K → ℕ
to_come st bf = length st.batches + length bf.batches + (bf.holding.held + rows_within bf.batches)

-- The first call's loads weigh most, since a whole turn follows them; the loads that end a turn weigh less than the turn.
abbrev pub weight_in : {K : Type 0} → Setting K → Phase K → Streamed K → Buffered K → Queued → ℕ
weight_in c (fetching true) st bf q = 11 + to_come st bf + any_of q.unfrozen
weight_in c (seeding true) st bf q = 10 + to_come st bf
weight_in c (extending true) st bf q = 9 + to_come st bf + anew bf
weight_in c (closing true) st bf q = 8 + length st.batches + length bf.batches + run_rows bf
weight_in c turning st bf q = 6 + length st.batches + length bf.batches + run_rows bf + cond (has_batch c q) 1 0
weight_in c (pairing todo) st bf q = 5 + length st.batches + length todo
weight_in c passing st bf q = 4 + length st.batches
weight_in c (fetching false) st bf q = 2 + length st.batches + any_of q.unfrozen
weight_in c (seeding false) st bf q = 3 + length bf.batches
weight_in c (extending false) st bf q = 2 + length bf.batches + anew bf
weight_in c (closing false) st bf q = 1
weight_in c done st bf q = 0
weight_in c (stopped f) st bf q = 0

abbrev pub weight : {K : Type 0} → Setting K → Core K → ℕ
weight c (core st bf q n ph) = weight_in c ph st bf q

-- With the sink: a step that goes on makes at most as many records due as the block has entries, and a record handed over
-- leaves one fewer.
abbrev pub measure : {K : Type 0} → Setting K → (block : ℕ) → Core K → ℕ
measure c block s = (block + 1) * weight c s + length (due_of s)
