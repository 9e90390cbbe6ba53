-- A join as a state of the plain machine.
use Rattle.std.proofs.Common.{◌≡◌, ℕ, suc, ◌+◌, ◌-◌, ◌<◌, ◌≤◌, Bool, true, false, cond, ltb, List, [], ◌∷◌, map, length, take, drop, Ok, Err}
use Rattle.std.specs.List.{AllByRecursion}
use Rattle.rows.specs.declared.kind.Kind.{Kind}
use Rattle.rows.specs.declared.kind.Side.{Side}
use Rattle.rows.specs.declared.kind.Side.TheVariants.{Left as on_left, Right as on_right}
use Rattle.rows.specs.declared.record.Record.{Record}
use Rattle.rows.specs.declared.row.Row.{Row}
use Rattle.sources.specs.declared.fault.SourceFault.{SourceFault}
use Rattle.rows.specs.Sides.{is_right, is_outer, is_full, oriented, left_of, right_of}
use Rattle.merge.specs.Merging.{by_key}
use Rattle.law.specs.Pipe.{Pipe, pipe}
use Rattle.law.specs.Machine as plain_machine
use Rattle.pipeline.specs.declared.batch.BufferedBatch.{BufferedBatch}
use Rattle.pipeline.specs.declared.states.FilterState.{FilterState}
use Rattle.pipeline.specs.Batches.{rows_of}
use Rattle.pipeline.specs.Block.{Queued}
use Rattle.pipeline.specs.Held.{Holding}
use Rattle.machine.specs.declared.answer.Answer.TheVariants.{More, Waiting, Finished}
use Rattle.machine.specs.declared.fault.JoinFault.{JoinFault}
use Rattle.machine.specs.declared.fault.JoinFault.TheVariants.{Unsorted, TableFull, TooManyBatches, TooManyRows, Source}
use Rattle.machine.specs.Machine.{Setting, Told, Phase, fetching, seeding, extending, closing, turning, passing, done, pairing, stopped, Streamed, Buffered, Counts, Core, core, streamed_read, deferred, most_rows}
use Rattle.machine.proofs.Entries.{mark_of, entry_of, place_of, Made, Frozen, Noted}

abbrev pub side_of : Bool → Side → plain_machine.Side
side_of true on_left = plain_machine.on_buffered
side_of true on_right = plain_machine.on_streamed
side_of false on_left = plain_machine.on_streamed
side_of false on_right = plain_machine.on_buffered

abbrev pub fault_of : Kind → JoinFault → plain_machine.Fault SourceFault
fault_of kind (Unsorted side place) = plain_machine.disordered (side_of (is_right kind) side) place
fault_of kind (TableFull side first) = plain_machine.oversized (side_of (is_right kind) side) first
fault_of kind (TooManyBatches first) = plain_machine.crowded first
fault_of kind (TooManyRows side first) = plain_machine.overlong (side_of (is_right kind) side) first
fault_of kind (Source side f) = plain_machine.from_source (side_of (is_right kind) side) f

abbrev pub answer_of : Kind → Told → plain_machine.Answer SourceFault
answer_of kind (Ok More) = plain_machine.more
answer_of kind (Ok Waiting) = plain_machine.waiting
answer_of kind (Ok Finished) = plain_machine.finished
answer_of kind (Err f) = plain_machine.failed (fault_of kind f)

abbrev pub row_of : {A : Type 0} → ℕ × A → A
row_of p = p.1

-- `to` is the place after the run
abbrev pub phase_of : {K : Type 0} → Kind → (to : ℕ) → Phase K → plain_machine.Phase (Row K) SourceFault
phase_of kind to (fetching first) = plain_machine.fetching first
phase_of kind to (seeding first) = plain_machine.seeding first
phase_of kind to (extending first) = plain_machine.extending first
phase_of kind to (closing first) = plain_machine.closing first
phase_of kind to turning = plain_machine.turning
phase_of kind to passing = plain_machine.passing
phase_of kind to done = plain_machine.done
phase_of kind to (pairing todo) = plain_machine.pairing (map row_of todo) (to - length todo)
phase_of kind to (stopped f) = plain_machine.stopped (fault_of kind f)

abbrev pub size_of : BufferedBatch → ℕ
size_of b = b.rows

abbrev pub streamed_of : {K : Type 0} → Streamed K → plain_machine.Streamed (Row K) SourceFault
streamed_of st = plain_machine.streamed st.batches st.closing (drop st.at st.rows) (st.first + st.at) st.ended st.last

abbrev pub run_of : {K : Type 0} → Buffered K → List (Row K)
run_of bf = take (bf.holding.end - bf.holding.start) (drop bf.holding.start bf.rows)

abbrev pub buffered_of : {K : Type 0} → Buffered K → plain_machine.Buffered (Row K) SourceFault
buffered_of bf = plain_machine.buffered bf.batches bf.closing (map size_of bf.holding.batches) (bf.holding.base + bf.holding.start) (run_of bf) (drop bf.holding.end bf.rows) bf.ended bf.holding.matched bf.last

abbrev pub counts_of : Counts → plain_machine.Counts
counts_of n = plain_machine.counts n.turns n.rows n.runs n.handed

module _ {K V : Type 0} (c : Setting K) (fits : V → Record → Bool) (after : V → Record → V) where
  -- rows for keys, and records that name the streamed row first
  abbrev pub plain_setting : plain_machine.Setting (Row K) V
  plain_setting = record {
    within = by_key c.within;
    across = by_key c.across;
    asks = λ x y. c.asks (left_of c.kind x.reading y.reading) (right_of c.kind x.reading y.reading);
    keeps_streamed = is_outer c.kind;
    keeps_buffered = is_full c.kind;
    deferred = deferred c;
    size = c.size;
    streamed_table = c.streamed_table;
    buffered_table = c.buffered_table;
    fits = λ v r. fits v (oriented c.kind r);
    after = λ v r. after v (oriented c.kind r);
  }

module _ {K : Type 0} (c : Setting K) where
  abbrev pub pipe_of : ℕ → List FilterState → Queued → Pipe
  pipe_of base states q = pipe base (map mark_of states) (map (place_of c.kind c.asks) q.noted) (map (entry_of c.kind c.asks) q.unfrozen) (map (entry_of c.kind c.asks) q.frozen) (map (oriented c.kind) q.due)

  abbrev pub state_at : {V : Type 0} → Streamed K → Buffered K → Queued → Counts → Phase K → V → plain_machine.State (Row K) SourceFault V
  state_at st bf q n ph v = plain_machine.state (streamed_of st) (buffered_of bf) (pipe_of bf.holding.base bf.states q) (counts_of n) v (phase_of c.kind (bf.holding.base + bf.holding.end) ph)

  abbrev pub state_of : {V : Type 0} → Core K → V → plain_machine.State (Row K) SourceFault V
  state_of (core st bf q n ph) v = state_at st bf q n ph v

-- ---- what holds of every join

-- the first place of the batch, of those from place p on, that has place i
abbrev pub first_of : {A : Type 0} → ℕ → List (List A) → ℕ → ℕ
first_of p [] i = p
first_of p (r ∷ l) i = cond (ltb i (p + length r)) p (first_of (p + length r) l i)

-- how far the last batch goes, counted from the first row held
abbrev pub reach : List BufferedBatch → ℕ
reach [] = 0
reach (b ∷ []) = b.end
reach (b ∷ d ∷ l) = b.rows + reach (d ∷ l)

-- every batch but the last is in runs to its end
abbrev pub FullButLast : List BufferedBatch → Type 0
FullButLast [] = Unit {0}
FullButLast (b ∷ []) = Unit {0}
FullButLast (b ∷ d ∷ l) = (b.end ≡ b.rows) × FullButLast (d ∷ l)

pub record WholeStreamed {K : Type 0} (batch_of : ℕ → ℕ) (st : Streamed K) : Type 0 where
  pub inside : st.at ≤ length st.rows
  pub located : (i : ℕ) → st.first ≤ i → i < st.first + length st.rows → batch_of i ≡ st.first

pub record WholeBuffered {K : Type 0} (c : Setting K) (bf : Buffered K) : Type 0 where
  pub rows_held : length bf.rows ≡ bf.holding.held
  pub states_held : length bf.states ≡ bf.holding.held
  pub batches_held : rows_of bf.holding.batches ≡ bf.holding.held
  pub run : bf.holding.start ≤ bf.holding.end
  pub in_held : bf.holding.end ≤ bf.holding.held
  pub few : bf.holding.base + bf.holding.held ≤ most_rows
  pub in_table : bf.holding.held ≤ c.buffered_table
  pub tiled : FullButLast bf.holding.batches
  pub reaches : reach bf.holding.batches ≡ bf.holding.end

pub record WholeBlock {K : Type 0} (c : Setting K) (batch_of : ℕ → ℕ) (first : ℕ) (q : Queued) : Type 0 where
  pub made : AllByRecursion (Made c.kind c.asks batch_of) q.unfrozen
  pub frozen : AllByRecursion (Frozen c.kind c.asks batch_of) q.frozen
  pub noted : AllByRecursion (Noted c.kind c.asks) q.noted
  pub behind : AllByRecursion (λ e. place_of c.kind c.asks e < first) q.noted
  pub short : length q.unfrozen < c.size
  pub at_once : deferred c ≡ false → q.frozen ≡ []

-- no run is at hand, and the batches passed have left
pub record Drained (h : Holding) (ended : Bool) : Type 0 where
  pub none : h.start ≡ h.end
  pub one : length h.batches ≤ 1
  pub emptied : h.end ≡ h.held → h.batches ≡ []
  pub unmatched : h.matched ≡ false
  pub not_ended : ended ≡ false

-- where the first batch's range begins
abbrev pub first_start : List BufferedBatch → ℕ
first_start [] = 0
first_start (b ∷ l) = b.start

abbrev pub first_rows : List BufferedBatch → ℕ
first_rows [] = 0
first_rows (b ∷ l) = b.rows

-- a run at hand begins in the first batch
abbrev pub RunBegun : Holding → Type 0
RunBegun h = h.start < h.end → (first_start h.batches ≡ h.start) × (h.start ≤ first_rows h.batches)

-- the run may go on
pub record Growing (h : Holding) (ended : Bool) : Type 0 where
  pub some : h.start < h.end
  pub begun : first_start h.batches ≡ h.start
  pub in_first : h.start ≤ first_rows h.batches
  pub not_ended : ended ≡ false

-- the batches that will be fetched are located
abbrev pub Ahead : {K : Type 0} → (ℕ → ℕ) → Streamed K → Type 0
Ahead batch_of st = (i : ℕ) → streamed_read st ≤ i → batch_of i ≡ first_of (streamed_read st) st.batches i

pub record Spent {K : Type 0} (st : Streamed K) : Type 0 where
  pub at_end : st.at ≡ length st.rows
  pub not_ended : st.ended ≡ false

-- rows with their places, from place j on
abbrev pub Placed : {A : Type 0} → ℕ → List (ℕ × A) → Type 0
Placed j [] = Unit {0}
Placed j (p ∷ l) = (p.0 ≡ j) × Placed (suc j) l

pub record ToPair {K : Type 0} (h : Holding) (todo : List (ℕ × Row K)) : Type 0 where
  pub are : Placed ((h.base + h.end) - length todo) todo
  pub in_run : length todo ≤ h.end - h.start

abbrev pub Opening : Bool → Holding → Bool → Type 0
Opening true h ended = Drained h ended
Opening false h ended = RunBegun h

-- what holds besides, by phase
abbrev pub Poised : {K : Type 0} → (ℕ → ℕ) → Streamed K → Holding → Bool → Phase K → Type 0
Poised batch_of st h ended (fetching first) = Ahead batch_of st × Spent st × Opening first h ended
Poised batch_of st h ended (seeding first) = Ahead batch_of st × Drained h ended
Poised batch_of st h ended (extending first) = Ahead batch_of st × Growing h ended
Poised batch_of st h ended (closing first) = Ahead batch_of st × RunBegun h
Poised batch_of st h ended turning = Ahead batch_of st × RunBegun h
Poised batch_of st h ended passing = Ahead batch_of st × RunBegun h
Poised batch_of st h ended (pairing todo) = Ahead batch_of st × RunBegun h × ToPair h todo
Poised batch_of st h ended done = Unit {0}
Poised batch_of st h ended (stopped f) = Unit {0}

pub record Whole {K : Type 0} (c : Setting K) (batch_of : ℕ → ℕ) (st : Streamed K) (bf : Buffered K) (q : Queued) (ph : Phase K) : Type 0 where
  pub streamed_side : WholeStreamed batch_of st
  pub buffered_side : WholeBuffered c bf
  pub block : WholeBlock c batch_of (bf.holding.base + bf.holding.start) q
  pub poised : Poised batch_of st bf.holding bf.ended ph
