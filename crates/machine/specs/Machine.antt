-- The join as a machine of small steps, on what the tables, the block, the sources and the join itself hold.
use Rattle.std.specs.Prelude.{◌≡◌, ℕ, suc, ◌+◌, ◌-◌, min, Bool, true, false, cond, not, ◌&&◌, List, [], ◌∷◌, ◌++◌, length, take, drop, replicate, Some, None, Ok, Err, Option, Result, nat_le, nat_lt}
use Rattle.std.specs.declared.cmp.Ordering.TheVariants.{Less, Equal, Greater}
use Rattle.std.specs.declared.cmp.Ordering.{Ordering}
use Rattle.std.specs.List.{slice_get}
use Rattle.rows.specs.Order.{is_after}
use Rattle.rows.specs.declared.kind.Kind.{Kind}
use Rattle.rows.specs.declared.reading.Reading.{Reading}
use Rattle.rows.specs.declared.record.Record.{Record}
use Rattle.rows.specs.declared.row.Row.{Row}
use Rattle.sources.specs.Meaning.{Closing}
use Rattle.pipeline.specs.declared.entry.Entry.{Entry}
use Rattle.pipeline.specs.declared.batch.BufferedBatch.{BufferedBatch}
use Rattle.pipeline.specs.declared.states.FilterState.{FilterState}
use Rattle.pipeline.specs.declared.states.FilterState.TheVariants.{Unvisited}
use Rattle.rows.specs.Sides.{streamed_side, buffered_side, is_outer, is_full}
use Rattle.pipeline.specs.Entries.{lone}
use Rattle.pipeline.specs.Orient.{streamed_alone}
use Rattle.pipeline.specs.States.{marking}
use Rattle.pipeline.specs.Freezing.{judged_all}
use Rattle.pipeline.specs.Block.{Queued, pushed, noting, freeze, freeze_all, release, correct, leave}
use Rattle.pipeline.specs.Batches.{rows_of}
use Rattle.pipeline.specs.Held.{Holding, empty, extended, seeded, passed, matching, leaving, dequeued, run_at, pairs_with, same_run}
use Rattle.pipeline.specs.Held.{pushed as with_batch}
use Rattle.machine.specs.declared.answer.Answer.{Answer}
use Rattle.machine.specs.declared.answer.Answer.TheVariants.{More, Waiting, Finished}
use Rattle.machine.specs.declared.fault.JoinFault.{JoinFault}
use Rattle.machine.specs.declared.fault.JoinFault.TheVariants.{Unsorted, TableFull, TooManyBatches, TooManyRows, Source}

-- ---- what there is

-- What comes next. `first` says that the load is the first call's. `todo` is what is left to pair of the run.
pub data Phase (K : Type 0) : Type 0 where
  fetching seeding extending closing : (first : Bool) → Phase K
  turning passing done : Phase K
  pairing : (todo : List (ℕ × Row K)) → Phase K
  stopped : JoinFault → Phase K

-- The streamed side: the batches that its source has left and how they close; the place of the first row of the batch held,
-- that batch's rows, and the next of them; whether the side has ended; the last row read.
pub record Streamed (K : Type 0) : Type 0 where
  pub batches : List (List (Row K))
  pub closing : Closing
  pub first : ℕ
  pub rows : List (Row K)
  pub at : ℕ
  pub ended : Bool
  pub last : Option (Row K)

-- The buffered side: the batches that its source has left and how they close; the batches held and the run in them; their
-- rows, and what the filter has said of each; whether the side has ended; the last row read.
pub record Buffered (K : Type 0) : Type 0 where
  pub batches : List (List (Row K))
  pub closing : Closing
  pub holding : Holding
  pub rows : List (Row K)
  pub states : List FilterState
  pub ended : Bool
  pub last : Option (Row K)

pub record Counts : Type 0 where
  pub turns : ℕ
  pub rows : ℕ
  pub runs : ℕ
  pub handed : ℕ

-- all that a join holds and works on, but for the sink
pub data Core (K : Type 0) : Type 0 where
  core : Streamed K → Buffered K → Queued → Counts → Phase K → Core K

-- What a call of turn answers: a word, or the fault that stopped the join.
abbrev pub Told : Type 0
Told = Result Answer JoinFault

-- what one small step comes to: the next one, or the answer of the call
pub data Outcome (K : Type 0) : Type 0 where
  going : Core K → Outcome K
  answered : Told → Core K → Outcome K

-- What a join is opened with: the order, what the filter says of a left and a right reading (without one, always yes),
-- whether there is one, the kind, the batch size, and the tables' rows.
pub record Setting (K : Type 0) : Type 0 where
  pub within : K → K → Ordering
  pub across : K → K → Ordering
  pub asks : Reading → Reading → Bool
  pub filtered : Bool
  pub kind : Kind
  pub size : ℕ
  pub streamed_table : ℕ
  pub buffered_table : ℕ

abbrev pub most_rows : ℕ
most_rows = 16777215

abbrev pub most_batches : ℕ
most_batches = 64

-- the count of records handed over has 64 bits, and stays at the largest of them
abbrev pub most_handed : ℕ
most_handed = 18446744073709551615

-- the row at an index
abbrev pub row_at : {A : Type 0} → ℕ → List A → Option A
row_at n l = slice_get l n

-- the place of the first row, of rows from place k on, that is before its predecessor; `last` is the row before the first
abbrev pub disorder : {K : Type 0} → (K → K → Ordering) → Option (Row K) → List (Row K) → ℕ → Option ℕ
disorder within last [] k = None
disorder within None (x ∷ l) k = disorder within (Some x) l (suc k)
disorder within (Some w) (x ∷ l) k = cond (is_after (within w.key x.key)) (Some k) (disorder within (Some x) l (suc k))

abbrev pub last_of : {A : Type 0} → Option A → List A → Option A
last_of w [] = w
last_of w (x ∷ l) = last_of (Some x) l

abbrev pub counted_row : Counts → Counts
counted_row n = record { turns = n.turns + 1; rows = n.rows + 1; runs = n.runs; handed = n.handed }

abbrev pub counted_run : Counts → Counts
counted_run n = record { turns = n.turns + 1; rows = n.rows; runs = n.runs + 1; handed = n.handed }

abbrev pub counted_record : Counts → Counts
counted_record n = record { turns = n.turns; rows = n.rows; runs = n.runs; handed = min (n.handed + 1) most_handed }

-- a join just opened
abbrev pub opened : {K : Type 0} → List (List (Row K)) → Closing → List (List (Row K)) → Closing → Core K
opened sl sc bl bc = core
    (record { batches = sl; closing = sc; first = 0; rows = []; at = 0; ended = false; last = None })
    (record { batches = bl; closing = bc; holding = empty; rows = []; states = []; ended = false; last = None })
    (record { noted = []; unfrozen = []; frozen = []; due = [] })
    (record { turns = 0; rows = 0; runs = 0; handed = 0 })
    (fetching true)

-- ---- the small steps

-- a filtered left, right or full join defers its records until they are corrected
abbrev pub is_deferred : Bool → Kind → Bool
is_deferred filtered kind = filtered && is_outer kind

-- what is frozen is due at once, unless it is deferred
abbrev pub let_go : Bool → Queued → Queued
let_go deferred q = cond deferred q (release q)

-- freeze all, correct, hand over; what is not deferred needs no correction
abbrev pub flush : Bool → Kind → (Reading → Reading → Bool) → Queued → Queued
flush deferred kind asks q = cond deferred (correct kind (freeze_all asks q)) (release (freeze_all asks q))

-- the verdicts on the unfrozen pairs count for the held rows
abbrev pub marked_by : {K : Type 0} → Kind → (Reading → Reading → Bool) → Queued → Buffered K → Buffered K
marked_by kind asks q bf = record { batches = bf.batches; closing = bf.closing; holding = bf.holding; rows = bf.rows; states = marking kind bf.holding.base (judged_all asks q.unfrozen) bf.states; ended = bf.ended; last = bf.last }

-- how many rows of a side were read
abbrev pub streamed_read : {K : Type 0} → Streamed K → ℕ
streamed_read st = st.first + length st.rows

abbrev pub buffered_read : {K : Type 0} → Buffered K → ℕ
buffered_read bf = bf.holding.base + bf.holding.held

module _ {K : Type 0} (c : Setting K) where
  abbrev pub deferred : Bool
  deferred = is_deferred c.filtered c.kind

  abbrev pub stops : JoinFault → Streamed K → Buffered K → Queued → Counts → Outcome K
  stops f st bf q n = answered (Err f) (core st bf q n (stopped f))

  -- what waits in the block reaches the batch size
  abbrev pub has_batch : Queued → Bool
  has_batch q = nat_le c.size (length q.frozen + length q.unfrozen)

  -- all is frozen when the unfrozen reach the batch size
  abbrev pub freeze_full : Phase K → Streamed K → Buffered K → Queued → Counts → Outcome K
  freeze_full ph st bf q n = cond (nat_le c.size (length q.unfrozen))
      (going (core st (marked_by c.kind c.asks q bf) (let_go deferred (freeze_all c.asks q)) n ph))
      (going (core st bf q n ph))

  -- the next streamed batch

  abbrev pub after_fetch : Bool → Phase K
  after_fetch true = seeding true
  after_fetch false = closing false

  abbrev pub fetch_checked : Option ℕ → Bool → List (Row K) → List (List (Row K)) → Streamed K → Buffered K → Queued → Counts → Outcome K
  fetch_checked None first r l st bf q n = going (core (record { batches = l; closing = st.closing; first = streamed_read st; rows = r; at = 0; ended = false; last = last_of st.last r }) bf q n (after_fetch first))
  fetch_checked (Some k) first r l st bf q n = stops (Unsorted (streamed_side c.kind) k) (record { batches = l; closing = st.closing; first = streamed_read st; rows = []; at = 0; ended = false; last = st.last }) bf q n

  abbrev pub fetch_taken : List Entry → Bool → List (Row K) → List (List (Row K)) → Streamed K → Buffered K → Queued → Counts → Outcome K
  fetch_taken [] first r l st bf q n = fetch_checked (disorder c.within st.last r (streamed_read st)) first r l st bf q n
  fetch_taken (e ∷ es) first r l st bf q n = going (core st (marked_by c.kind c.asks q bf) (let_go deferred (freeze c.asks q)) n (fetching first))

  abbrev pub skipped : List (List (Row K)) → Streamed K → Streamed K
  skipped l st = record { batches = l; closing = st.closing; first = st.first; rows = st.rows; at = st.at; ended = st.ended; last = st.last }

  abbrev pub at_end : Streamed K → Streamed K
  at_end st = record { batches = st.batches; closing = st.closing; first = st.first; rows = st.rows; at = st.at; ended = true; last = st.last }

  abbrev pub fetch_from : Bool → List (List (Row K)) → Closing → Streamed K → Buffered K → Queued → Counts → Outcome K
  fetch_from first [] (Ok end) st bf q n = going (core (at_end st) bf q n (after_fetch first))
  fetch_from first [] (Err f) st bf q n = stops (Source (streamed_side c.kind) f) st bf q n
  fetch_from first ([] ∷ l) e st bf q n = going (core (skipped l st) bf q n (fetching first))
  fetch_from first ((x ∷ r) ∷ l) e st bf q n =
      cond (nat_le (streamed_read st + length (x ∷ r)) most_rows)
      (cond (nat_le (length (x ∷ r)) c.streamed_table)
      (fetch_taken q.unfrozen first (x ∷ r) l st bf q n)
      (stops (TableFull (streamed_side c.kind) (streamed_read st)) st bf q n))
      (stops (TooManyRows (streamed_side c.kind) (streamed_read st)) st bf q n)

  abbrev pub fetch : Bool → Streamed K → Buffered K → Queued → Counts → Outcome K
  fetch first st bf q n = fetch_from first st.batches st.closing st bf q n

  -- the next buffered batch, where the rows held are used up; the end of the source comes to `over`

  abbrev pub with_holding : Holding → Buffered K → Buffered K
  with_holding h bf = record { batches = bf.batches; closing = bf.closing; holding = h; rows = bf.rows; states = bf.states; ended = bf.ended; last = bf.last }

  abbrev pub passed_over : List (List (Row K)) → Buffered K → Buffered K
  passed_over l bf = record { batches = l; closing = bf.closing; holding = bf.holding; rows = bf.rows; states = bf.states; ended = bf.ended; last = bf.last }

  abbrev pub taken_in : List (Row K) → List (List (Row K)) → Buffered K → Buffered K
  taken_in r l bf = record { batches = l; closing = bf.closing; holding = with_batch (length r) bf.holding; rows = bf.rows ++ r; states = bf.states ++ replicate (length r) Unvisited; ended = bf.ended; last = last_of bf.last r }

  abbrev pub load_checked : Option ℕ → Phase K → List (Row K) → List (List (Row K)) → Streamed K → Buffered K → Queued → Counts → Outcome K
  load_checked None ph r l st bf q n = going (core st (taken_in r l bf) q n ph)
  load_checked (Some k) ph r l st bf q n = stops (Unsorted (buffered_side c.kind) k) st (passed_over l bf) q n

  abbrev pub load_from : Outcome K → Phase K → List (List (Row K)) → Closing → Streamed K → Buffered K → Queued → Counts → Outcome K
  load_from over ph [] (Ok end) st bf q n = over
  load_from over ph [] (Err f) st bf q n = stops (Source (buffered_side c.kind) f) st bf q n
  load_from over ph ([] ∷ l) e st bf q n = going (core st (passed_over l bf) q n ph)
  load_from over ph ((x ∷ r) ∷ l) e st bf q n =
      cond (nat_le (buffered_read bf + length (x ∷ r)) most_rows)
      (cond (nat_le (suc (length bf.holding.batches)) most_batches)
      (cond (nat_le (bf.holding.held + length (x ∷ r)) c.buffered_table)
      (load_checked (disorder c.within bf.last (x ∷ r) (buffered_read bf)) ph (x ∷ r) l st bf q n)
      (stops (TableFull (buffered_side c.kind) (buffered_read bf)) st bf q n))
      (stops (TooManyBatches (buffered_read bf)) st bf q n))
      (stops (TooManyRows (buffered_side c.kind) (buffered_read bf)) st bf q n)

  abbrev pub load : Outcome K → Phase K → Streamed K → Buffered K → Queued → Counts → Outcome K
  load over ph st bf q n = load_from over ph bf.batches bf.closing st bf q n

  abbrev pub no_more : Buffered K → Buffered K
  no_more bf = record { batches = bf.batches; closing = bf.closing; holding = bf.holding; rows = bf.rows; states = bf.states; ended = true; last = bf.last }

  -- the next run begins with the first row that no run has held
  abbrev pub seed : Bool → Streamed K → Buffered K → Queued → Counts → Outcome K
  seed first st bf q n = cond (nat_lt bf.holding.end bf.holding.held)
      (going (core st (with_holding (seeded bf.holding) bf) q n (extending first)))
      (load (going (core st (no_more bf) q n (closing first))) (seeding first) st bf q n)

  -- the run goes on over all rows that are same within as its first one, over as many batches as it takes
  abbrev pub extend_from : Option (Row K) → Bool → Streamed K → Buffered K → Queued → Counts → Outcome K
  extend_from None first st bf q n = going (core st bf q n (seeding first))
  extend_from (Some y) first st bf q n =
      let more = same_run c.within y.key (drop bf.holding.end bf.rows) in
      let on = with_holding (extended more bf.holding) bf in
      cond (nat_lt (bf.holding.end + more) bf.holding.held)
      (going (core st on q n (closing first)))
      (load (going (core st on q n (closing first))) (extending first) st on q n)

  abbrev pub extend : Bool → Streamed K → Buffered K → Queued → Counts → Outcome K
  extend first st bf q n = extend_from (row_at bf.holding.start bf.rows) first st bf q n

  -- the turn

  -- The batches that leave, one after the other. `rest` is how many of the rows passed lie behind the batches that left, and
  -- `lone` says that the rows of the run just passed are noted.
  abbrev pub leave_all : Bool → ℕ → ℕ → List BufferedBatch → List FilterState → Queued → Queued
  leave_all lone j rest [] states q = q
  leave_all lone j rest (b ∷ l) states q =
      leave_all lone (j + b.rows) (rest - b.rows) l (drop b.rows states)
      (leave c.kind (is_full c.kind) j b.rows (cond lone (rest - b.rows) 0) (take b.rows states) q)

  abbrev pub without : ℕ → Buffered K → Buffered K
  without k bf = record {
    batches = bf.batches;
    closing = bf.closing;
    holding = dequeued k bf.holding;
    rows = drop (rows_of (take k bf.holding.batches)) bf.rows;
    states = drop (rows_of (take k bf.holding.batches)) bf.states;
    ended = bf.ended;
    last = bf.last;
  }

  -- the consumed batches leave: the unfrozen freeze first
  abbrev pub part : Bool → List BufferedBatch → Streamed K → Buffered K → Queued → Counts → Outcome K
  part lone [] st bf q n = going (core st (with_holding (passed bf.holding) bf) q n (seeding false))
  part lone (b ∷ l) st bf q n =
      let on = marked_by c.kind c.asks q (with_holding (passed bf.holding) bf) in
      going (core st (without (length (b ∷ l)) on)
      (let_go deferred (leave_all lone on.holding.base on.holding.end (b ∷ l) on.states (freeze c.asks q))) n (seeding false))

  -- the rows of an unmatched run are noted in a full join
  abbrev pub is_lone : Buffered K → Bool
  is_lone bf = is_full c.kind && not bf.holding.matched

  abbrev pub note_run : Bool → Buffered K → Queued → Queued
  note_run lone bf q = cond lone (noting c.kind (bf.holding.base + bf.holding.start) (bf.holding.end - bf.holding.start) q) q

  abbrev pub pass_run : Streamed K → Buffered K → Queued → Counts → Outcome K
  pass_run st bf q n = cond (nat_lt bf.holding.start bf.holding.end)
      (part (is_lone bf) (leaving bf.holding.batches) st bf (note_run (is_lone bf) bf q) (counted_run n))
      (going (core st bf q n (closing false)))

  abbrev pub place : Streamed K → ℕ
  place st = st.first + st.at

  -- a streamed row before the run is noted alone, but in an inner join
  abbrev pub lone_row : Bool → Streamed K → Buffered K → Queued → Counts → Outcome K
  lone_row true st bf q n = freeze_full passing st bf (pushed (lone (streamed_alone c.kind (place st)) ∷ []) q) n
  lone_row false st bf q n = going (core st bf q n passing)

  -- the first row of the first batch that is in the run
  abbrev pub head_start : List BufferedBatch → ℕ
  head_start [] = 0
  head_start (b ∷ l) = b.start

  abbrev pub to_pair : Buffered K → List (ℕ × Row K)
  to_pair bf = take (bf.holding.end - bf.holding.start) (run_at bf.holding 0 (head_start bf.holding.batches) bf.rows)

  abbrev pub compared : Ordering → Streamed K → Buffered K → Queued → Counts → Outcome K
  compared Less st bf q n = lone_row (is_outer c.kind) st bf q n
  compared Equal st bf q n = going (core st bf q n (pairing (to_pair bf)))
  compared Greater st bf q n = pass_run st bf q n

  -- the run's first row
  abbrev pub run_head : Buffered K → Option (Row K)
  run_head bf = cond (nat_lt bf.holding.start bf.holding.end) (row_at bf.holding.start bf.rows) None

  -- streamed ended is after; no buffered rows is before
  abbrev pub comparison : Option (Row K) → Option (Row K) → Ordering
  comparison None y = Greater
  comparison (Some x) None = Less
  comparison (Some x) (Some y) = c.across x.key y.key

  abbrev pub turn : Streamed K → Buffered K → Queued → Counts → Outcome K
  turn st bf q n = cond (has_batch q)
      (going (core st (marked_by c.kind c.asks q bf) (flush deferred c.kind c.asks q) n turning))
      (compared (comparison (row_at st.at st.rows) (run_head bf)) st bf q n)

  -- the streamed row is paired with as much of the run as the unfrozen leave room for
  abbrev pub pair_row : Option (Row K) → List (ℕ × Row K) → Streamed K → Buffered K → Queued → Counts → Outcome K
  pair_row None todo st bf q n = going (core st bf q n passing)
  pair_row (Some x) [] st bf q n = going (core st (with_holding (matching bf.holding) bf) q n passing)
  pair_row (Some x) (p ∷ todo) st bf q n =
      let room = c.size - length q.unfrozen in
      freeze_full (pairing (drop room (p ∷ todo))) st bf
      (pushed (pairs_with c.kind (record { batch = st.first; row = st.at }) (place st) x.reading (take room (p ∷ todo))) q) n

  abbrev pub next_row : Streamed K → Streamed K
  next_row st = record { batches = st.batches; closing = st.closing; first = st.first; rows = st.rows; at = st.at + 1; ended = st.ended; last = st.last }

  abbrev pub pass_row : Streamed K → Buffered K → Queued → Counts → Outcome K
  pass_row st bf q n = cond (nat_lt st.at (length st.rows))
      (going (core (next_row st) bf q (counted_row n) (cond (nat_lt (st.at + 1) (length st.rows)) (closing false) (fetching false))))
      (going (core st bf q n (fetching false)))

  -- with both sides ended all is handed over; otherwise the turn is over, but after the first call's loads it begins
  abbrev pub go_on : Bool → Streamed K → Buffered K → Queued → Counts → Outcome K
  go_on true st bf q n = going (core st bf q n turning)
  go_on false st bf q n = answered (Ok More) (core st bf q n turning)

  abbrev pub close : Bool → Streamed K → Buffered K → Queued → Counts → Outcome K
  close first st bf q n = cond (st.ended && bf.ended) (going (core st (marked_by c.kind c.asks q bf) (flush deferred c.kind c.asks q) n done)) (go_on first st bf q n)

  abbrev pub step : Phase K → Streamed K → Buffered K → Queued → Counts → Outcome K
  step (fetching first) st bf q n = fetch first st bf q n
  step (seeding first) st bf q n = seed first st bf q n
  step (extending first) st bf q n = extend first st bf q n
  step (closing first) st bf q n = close first st bf q n
  step turning st bf q n = turn st bf q n
  step (pairing todo) st bf q n = pair_row (row_at st.at st.rows) todo st bf q n
  step passing st bf q n = pass_row st bf q n
  step done st bf q n = answered (Ok Finished) (core st bf q n done)
  step (stopped f) st bf q n = answered (Err f) (core st bf q n (stopped f))

  abbrev pub step_of : Core K → Outcome K
  step_of (core st bf q n ph) = step ph st bf q n

-- ---- the sink

-- what one small step comes to: the next one, a record handed over, or the answer of the call
pub data Moved (K V : Type 0) : Type 0 where
  goes : Core K → V → Moved K V
  hands_over : Record → Core K → V → Moved K V
  says : Told → Core K → V → Moved K V

module _ {K V : Type 0} (c : Setting K) (fits : V → Record → Bool) (after : V → Record → V) where
  abbrev pub moved : Outcome K → V → Moved K V
  moved (going s) v = goes s v
  moved (answered a s) v = says a s v

  abbrev pub handed : List Record → Queued → Queued
  handed l q = record { noted = q.noted; unfrozen = q.unfrozen; frozen = q.frozen; due = l }

  -- what is due goes first, as long as it fits
  abbrev pub micro_due : List Record → Streamed K → Buffered K → Queued → Counts → Phase K → V → Moved K V
  micro_due [] st bf q n ph v = moved (step c ph st bf q n) v
  micro_due (x ∷ l) st bf q n ph v = cond (fits v x)
      (hands_over x (core st bf (handed l q) (counted_record n) ph) (after v x))
      (says (Ok Waiting) (core st bf q n ph) v)

  abbrev pub micro : Core K → V → Moved K V
  micro (core st bf q n ph) v = micro_due q.due st bf q n ph v

  -- small steps, one after another, to the first answer, and the records that they hand over
  pub data Turned : Core K → V → List Record → Told → Core K → V → Type 0 where
    answers : {s s' : Core K} {v v' : V} {a : Told} → micro s v ≡ says a s' v' → Turned s v [] a s' v'
    steps : {s s' s'' : Core K} {v v' v'' : V} {l : List Record} {a : Told} → micro s v ≡ goes s' v' → Turned s' v' l a s'' v'' → Turned s v l a s'' v''
    hands : {s s' s'' : Core K} {v v' v'' : V} {x : Record} {l : List Record} {a : Told} → micro s v ≡ hands_over x s' v' → Turned s' v' l a s'' v'' → Turned s v (x ∷ l) a s'' v''
