-- The buffered batches held, the run in them, and the pairs of a streamed row with the run.
use Rattle.std.specs.Prelude.{◌≡◌, ℕ, suc, ◌+◌, ◌-◌, min, Bool, true, false, cond, ◌&&◌, List, [], ◌∷◌, ◌++◌, length, take, drop, ◌==◌, nat_le, nat_lt}
use Rattle.std.specs.declared.cmp.Ordering.TheVariants.{Equal}
use Rattle.std.specs.declared.cmp.Ordering.{Ordering}
use Rattle.rows.specs.declared.kind.Kind.{Kind}
use Rattle.rows.specs.declared.reading.Reading.{Reading}
use Rattle.rows.specs.declared.row.Row.{Row}
use Rattle.rows.specs.Order.{is_same}
use Rattle.rows.specs.Sides.{left_of, right_of}
use Rattle.pipeline.specs.declared.entry.Entry.{Entry}
use Rattle.pipeline.specs.declared.entry.StreamedRow.{StreamedRow}
use Rattle.pipeline.specs.declared.batch.BufferedBatch.{BufferedBatch}
use Rattle.pipeline.specs.declared.held.BufferedData.{BufferedData}
use Rattle.pipeline.specs.Batches.{rows_of}
use Rattle.pipeline.specs.Entries.{pair_of}
use Rattle.pipeline.specs.Orient.{paired}

-- What is known of the held batches: the batches, oldest first, each with its range in the run; the place of the first row
-- held; how many rows are held; from which row of them to which the run goes; whether a streamed row was paired with it.
pub record Holding : Type 0 where
  pub batches : List BufferedBatch
  pub base : ℕ
  pub held : ℕ
  pub start : ℕ
  pub end : ℕ
  pub matched : Bool

abbrev pub holding : BufferedData → Holding
holding d = record { batches = take d.count d.batches; base = d.base; held = d.held; start = d.start; end = d.end; matched = d.matched }

abbrev pub on_last : (BufferedBatch → BufferedBatch) → List BufferedBatch → List BufferedBatch
on_last f [] = []
on_last f (b ∷ []) = f b ∷ []
on_last f (b ∷ c ∷ l) = b ∷ on_last f (c ∷ l)

-- how far the last batch's range goes
abbrev pub tail_end : List BufferedBatch → ℕ
tail_end [] = 0
tail_end (b ∷ []) = b.end
tail_end (b ∷ c ∷ l) = tail_end (c ∷ l)

-- at most 64 batches are held, and a place has 24 bits
abbrev pub can_push : ℕ → Holding → Bool
can_push n h = nat_lt (length h.batches) 64 && nat_le (h.base + h.held + n) 16777215

-- one batch more, of n rows, none of which is in the run
abbrev pub pushed : ℕ → Holding → Holding
pushed n h = record { batches = h.batches ++ record { rows = n; start = 0; end = 0 } ∷ []; base = h.base; held = h.held + n; start = h.start; end = h.end; matched = h.matched }

-- a range has 32 bits, and its end stays at the largest of them
abbrev pub most_end : ℕ
most_end = 4294967295

abbrev pub longer : ℕ → BufferedBatch → BufferedBatch
longer k b = record { rows = b.rows; start = b.start; end = min (b.end + k) most_end }

-- there is a last batch, k more rows are held, and its range stays below 32 bits
abbrev pub can_extend : ℕ → Holding → Bool
can_extend k h = nat_lt 0 (length h.batches) && (nat_le (h.end + k) h.held && nat_le (tail_end h.batches + k) most_end)

-- the run goes on for k rows of the last batch
abbrev pub extended : ℕ → Holding → Holding
extended k h = record { batches = on_last (longer k) h.batches; base = h.base; held = h.held; start = h.start; end = h.end + k; matched = h.matched }

abbrev pub begun : BufferedBatch → BufferedBatch
begun b = record { rows = b.rows; start = b.end; end = min (b.end + 1) most_end }

-- there is a last batch, one more row is held, and its range stays below 32 bits
abbrev pub can_seed : Holding → Bool
can_seed h = nat_lt 0 (length h.batches) && (nat_lt h.end h.held && nat_le (tail_end h.batches + 1) most_end)

-- the next run begins with the first row, of the last batch, that no run has held
abbrev pub seeded : Holding → Holding
seeded h = record { batches = on_last begun h.batches; base = h.base; held = h.held; start = h.end; end = h.end + 1; matched = false }

-- the run is passed: no row is in a run
abbrev pub passed : Holding → Holding
passed h = record { batches = h.batches; base = h.base; held = h.held; start = h.end; end = h.end; matched = false }

-- a streamed row was paired with the run
abbrev pub matching : Holding → Holding
matching h = record { batches = h.batches; base = h.base; held = h.held; start = h.start; end = h.end; matched = true }

-- nothing is held
abbrev pub empty : Holding
empty = record { batches = []; base = 0; held = 0; start = 0; end = 0; matched = false }

-- its last row was in a run
abbrev pub is_consumed : BufferedBatch → Bool
is_consumed b = b.end == b.rows

-- the batches that leave: the consumed ones up to the first that is not
abbrev pub leaving : List BufferedBatch → List BufferedBatch
leaving [] = []
leaving (b ∷ l) = cond (is_consumed b) (b ∷ leaving l) []

-- there are k batches, and no row of theirs is in the run
abbrev pub can_dequeue : ℕ → Holding → Bool
can_dequeue k h = nat_le k (length h.batches) && nat_le (rows_of (take k h.batches)) h.start

-- the first k batches are gone, and the rows after them move to the table's start
abbrev pub dequeued : ℕ → Holding → Holding
dequeued k h = record {
  batches = drop k h.batches;
  base = h.base + rows_of (take k h.batches);
  held = h.held - rows_of (take k h.batches);
  start = h.start - rows_of (take k h.batches);
  end = h.end - rows_of (take k h.batches);
  matched = h.matched;
}

-- rows with their places, from place j on
abbrev pub placed : {A : Type 0} → ℕ → List A → List (ℕ × A)
placed j [] = []
placed j (x ∷ l) = (j, x) ∷ placed (suc j) l

-- The rows of the run from row r of the first of the given batches on, with their places: each batch from its start in the
-- table on has as many rows in the run as its range says. `j` is the place of the first row of `rows`, which begin with the
-- first batch's.
abbrev pub run_from : {A : Type 0} → ℕ → ℕ → List BufferedBatch → List A → List (ℕ × A)
run_from j r [] rows = []
run_from j r (b ∷ l) rows = placed (j + r) (take (b.end - r) (drop r rows)) ++ run_from (j + b.rows) 0 l (drop b.rows rows)

-- what is left of the run at row r of the batch number n
abbrev pub run_at : {A : Type 0} → Holding → (n r : ℕ) → List A → List (ℕ × A)
run_at h n r rows = run_from (h.base + rows_of (take n h.batches)) r (drop n h.batches) (drop (rows_of (take n h.batches)) (take h.held rows))

-- the pair of a streamed row with a buffered row, not frozen yet
abbrev pub pair_entry : {K : Type 0} → Kind → StreamedRow → ℕ → Reading → ℕ × Row K → Entry
pair_entry kind at place reading p = pair_of at (paired kind place p.0) (left_of kind reading p.1.reading) (right_of kind reading p.1.reading)

abbrev pub pairs_with : {K : Type 0} → Kind → StreamedRow → ℕ → Reading → List (ℕ × Row K) → List Entry
pairs_with kind at place reading [] = []
pairs_with kind at place reading (p ∷ l) = pair_entry kind at place reading p ∷ pairs_with kind at place reading l

-- how many of the first rows have a key that is same within as the given one
abbrev pub same_run : {K : Type 0} → (K → K → Ordering) → K → List (Row K) → ℕ
same_run within key [] = 0
same_run within key (x ∷ l) = cond (is_same (within key x.key)) (suc (same_run within key l)) 0

-- all these rows have a key that is same within as the given one
abbrev pub AllSame : {K : Type 0} → (K → K → Ordering) → K → List (Row K) → Type 0
AllSame within key [] = Unit {0}
AllSame within key (x ∷ l) = (within key x.key ≡ Equal) × AllSame within key l

-- there is no row, or the first has another key
abbrev pub Differs : {K : Type 0} → (K → K → Ordering) → K → List (Row K) → Type 0
Differs within key [] = Unit {0}
Differs within key (x ∷ l) = within key x.key ≡ Equal → ⊥

-- A run does not end with its batch: where all its rows are same, it goes on with the rows of the next.
abbrev pub GoesOn : {K : Type 0} → (K → K → Ordering) → K → List (Row K) → ℕ → Type 0
GoesOn {K} within key rows n = n ≡ length rows → (next : List (Row K)) → same_run within key (rows ++ next) ≡ n + same_run within key next
