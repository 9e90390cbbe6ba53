-- The join as a machine of small steps.
use Rattle.std.specs.Prelude.{◌≡◌, ℕ, suc, ◌+◌, ◌-◌, min, Bool, true, false, cond, not, ◌&&◌, List, [], ◌∷◌, ◌++◌, length, replicate, Some, None, Option, Ok, Err, Result, nat_le}
use Rattle.std.specs.declared.cmp.Ordering.TheVariants.{Less, Equal, Greater}
use Rattle.std.specs.declared.cmp.Ordering.{Ordering}
use Rattle.rows.specs.Order.{is_same, is_after}
use Rattle.merge.specs.Table.{when}
use Rattle.rows.specs.declared.record.Record.{Record}
use Rattle.rows.specs.declared.record.Record.TheVariants.{LeftAlone}
use Rattle.law.specs.Pipe.{fixed, judged, unseen, Pipe, pipe, places, freeze, flush, push, note, part}

-- ---- plain data

pub data Side : Type 0 where
  on_streamed on_buffered : Side

-- how a source's list of batches closes: by the end, or by a fault
abbrev pub Closing : Type 0 → Type 0
Closing F = Result (Unit {0}) F

pub data Fault (F : Type 0) : Type 0 where
  disordered oversized overlong : Side → ℕ → Fault F
  crowded : ℕ → Fault F
  from_source : Side → F → Fault F

pub data Answer (F : Type 0) : Type 0 where
  more waiting finished : Answer F
  failed : Fault F → Answer F

-- `first` says that the load is the opening's: no turn has been counted in this call
pub data Phase (X F : Type 0) : Type 0 where
  fetching seeding extending closing : (first : Bool) → Phase X F
  turning passing done : Phase X F
  pairing : (todo : List X) (place : ℕ) → Phase X F
  stopped : Fault F → Phase X F

-- The batches that the source has left and how it closes; the current row and those after it in its batch; the current row's place; has the side ended; the last row read.
pub data Streamed (X F : Type 0) : Type 0 where
  streamed : (batches : List (List X)) (closing : Closing F) (rows : List X) (place : ℕ) (ended : Bool) (last : Option X) → Streamed X F

-- The same source; the sizes of the batches held; the place of the run's first row; the run; the rows held past it; has the side ended; is the run matched; the last row read.
pub data Buffered (X F : Type 0) : Type 0 where
  buffered : (batches : List (List X)) (closing : Closing F) (sizes : List ℕ) (first : ℕ) (run beyond : List X) (ended matched : Bool) (last : Option X) → Buffered X F

pub data Counts : Type 0 where
  counts : (turns rows runs handed : ℕ) → Counts

pub data State (X F V : Type 0) : Type 0 where
  state : Streamed X F → Buffered X F → Pipe → Counts → V → Phase X F → State X F V

-- what one small step comes to
pub data Outcome (X F V : Type 0) : Type 0 where
  going : State X F V → Outcome X F V
  gives : Record → State X F V → Outcome X F V
  answered : Answer F → State X F V → Outcome X F V

-- what a join is opened with
pub record Setting (X V : Type 0) : Type 0 where
  pub within : X → X → Ordering
  pub across : X → X → Ordering
  pub asks : X → X → Bool
  pub keeps_streamed : Bool
  pub keeps_buffered : Bool
  pub deferred : Bool
  pub size : ℕ
  pub streamed_table : ℕ
  pub buffered_table : ℕ
  pub fits : V → Record → Bool
  pub after : V → Record → V

abbrev pub most_rows : ℕ
most_rows = 16777215

abbrev pub most_batches : ℕ
most_batches = 64

-- the count of records handed over has 64 bits, and stays at the largest of them
abbrev pub most_handed : ℕ
most_handed = 18446744073709551615

abbrev pub total_size : List ℕ → ℕ
total_size [] = 0
total_size (n ∷ l) = n + total_size l

-- the place of the first row that is before its predecessor
abbrev pub disorder : {X : Type 0} → (X → X → Ordering) → Option X → List X → ℕ → Option ℕ
disorder within w [] k = None
disorder within None (x ∷ l) k = disorder within (Some x) l (suc k)
disorder within (Some w) (x ∷ l) k = cond (is_after (within w x)) (Some k) (disorder within (Some x) l (suc k))

abbrev pub last_of : {X : Type 0} → Option X → List X → Option X
last_of w [] = w
last_of w (x ∷ l) = last_of (Some x) l

abbrev pub counted_row : Counts → Counts
counted_row (counts turns rows runs handed) = counts (turns + 1) (rows + 1) runs handed

abbrev pub counted_run : Counts → Counts
counted_run (counts turns rows runs handed) = counts (turns + 1) rows (runs + 1) handed

abbrev pub counted_record : Counts → Counts
counted_record (counts turns rows runs handed) = counts turns rows runs (min (handed + 1) most_handed)

abbrev pub opened : {X F V : Type 0} → List (List X) → Closing F → List (List X) → Closing F → V → State X F V
opened sl sc bl bc v = state (streamed sl sc [] 0 false None) (buffered bl bc [] 0 [] [] false false None) (pipe 0 [] [] [] [] []) (counts 0 0 0 0) v (fetching true)

abbrev pub held_more : Pipe → ℕ → Pipe
held_more (pipe base marks noted unfrozen entries due) k = pipe base (marks ++ replicate k unseen) noted unfrozen entries due

abbrev pub is_full : Bool → ℕ → Pipe → Bool
is_full d size (pipe base marks noted unfrozen entries due) = d && nat_le size (length unfrozen + length entries)

abbrev pub lone_row : Bool → ℕ → Bool → ℕ → Pipe → Pipe
lone_row d size true place p = push d size (fixed (LeftAlone place)) p
lone_row d size false place p = p

abbrev pub base_of : Pipe → ℕ
base_of (pipe base marks noted unfrozen entries due) = base

-- ---- the small step

module _ {X F V : Type 0} (c : Setting X V) where
  abbrev pub stops : Fault F → Streamed X F → Buffered X F → Pipe → Counts → V → Outcome X F V
  stops f st bf p n v = answered (failed f) (state st bf p n v (stopped f))

  -- the next streamed batch

  abbrev pub after_fetch : Bool → Phase X F
  after_fetch true = seeding true
  after_fetch false = closing false

  abbrev pub fetch_checked : Option ℕ → Bool → List (List X) → Closing F → List X → ℕ → Option X → Buffered X F → Pipe → Counts → V → Outcome X F V
  fetch_checked None first l e r place last bf p n v = going (state (streamed l e r place false (last_of last r)) bf p n v (after_fetch first))
  fetch_checked (Some k) first l e r place last bf p n v = stops (disordered on_streamed k) (streamed l e [] place false last) bf p n v

  abbrev pub fetch_taken : Bool → List X → List (List X) → Closing F → ℕ → Option X → Buffered X F → Pipe → Counts → V → Outcome X F V
  fetch_taken first r l e place last bf (pipe base marks noted [] entries due) n v = fetch_checked (disorder c.within last r place) first l e r place last bf (pipe base marks noted [] entries due) n v
  fetch_taken first r l e place last bf (pipe base marks noted (u ∷ unfrozen) entries due) n v = going (state (streamed (r ∷ l) e [] place false last) bf (freeze c.deferred (pipe base marks noted (u ∷ unfrozen) entries due)) n v (fetching first))

  abbrev pub fetch : Bool → List (List X) → Closing F → ℕ → Option X → Buffered X F → Pipe → Counts → V → Outcome X F V
  fetch first [] (Ok end) place last bf p n v = going (state (streamed [] (Ok end) [] place true last) bf p n v (after_fetch first))
  fetch first [] (Err f) place last bf p n v = stops (from_source on_streamed f) (streamed [] (Err f) [] place false last) bf p n v
  fetch first ([] ∷ l) e place last bf p n v = going (state (streamed l e [] place false last) bf p n v (fetching first))
  fetch first ((x ∷ r) ∷ l) e place last bf p n v =
      cond (nat_le (place + length (x ∷ r)) most_rows)
      (cond (nat_le (length (x ∷ r)) c.streamed_table)
      (fetch_taken first (x ∷ r) l e place last bf p n v)
      (stops (oversized on_streamed place) (streamed ((x ∷ r) ∷ l) e [] place false last) bf p n v))
      (stops (overlong on_streamed place) (streamed ((x ∷ r) ∷ l) e [] place false last) bf p n v)

  -- the next buffered batch, where the rows held are used up; `at_end` is what the end of the source comes to

  abbrev pub load_checked : Option ℕ → Phase X F → Streamed X F → List (List X) → Closing F → List X → List ℕ → ℕ → List X → Bool → Option X → Pipe → Counts → V → Outcome X F V
  load_checked None ph st l e r sizes first run matched last p n v = going (state st (buffered l e (sizes ++ length r ∷ []) first run r false matched (last_of last r)) (held_more p (length r)) n v ph)
  load_checked (Some k) ph st l e r sizes first run matched last p n v = stops (disordered on_buffered k) st (buffered l e sizes first run [] false matched last) p n v

  abbrev pub load : Outcome X F V → Phase X F → Streamed X F → List (List X) → Closing F → List ℕ → ℕ → List X → Bool → Option X → Pipe → Counts → V → Outcome X F V
  load at_end ph st [] (Ok end) sizes first run matched last p n v = at_end
  load at_end ph st [] (Err f) sizes first run matched last p n v = stops (from_source on_buffered f) st (buffered [] (Err f) sizes first run [] false matched last) p n v
  load at_end ph st ([] ∷ l) e sizes first run matched last p n v = going (state st (buffered l e sizes first run [] false matched last) p n v ph)
  load at_end ph st ((x ∷ r) ∷ l) e sizes first run matched last p n v =
      cond (nat_le ((first + length run) + length (x ∷ r)) most_rows)
      (cond (nat_le (suc (length sizes)) most_batches)
      (cond (nat_le (total_size sizes + length (x ∷ r)) c.buffered_table)
      (load_checked (disorder c.within last (x ∷ r) (first + length run)) ph st l e (x ∷ r) sizes first run matched last p n v)
      (stops (oversized on_buffered (first + length run)) st (buffered ((x ∷ r) ∷ l) e sizes first run [] false matched last) p n v))
      (stops (crowded (first + length run)) st (buffered ((x ∷ r) ∷ l) e sizes first run [] false matched last) p n v))
      (stops (overlong on_buffered (first + length run)) st (buffered ((x ∷ r) ∷ l) e sizes first run [] false matched last) p n v)

  abbrev pub seed : Bool → Streamed X F → Buffered X F → Pipe → Counts → V → Outcome X F V
  seed f st (buffered l e sizes first run (z ∷ beyond) ended' matched last) p n v = going (state st (buffered l e sizes first (z ∷ []) beyond false false last) p n v (extending f))
  seed f st (buffered l e sizes first run [] ended' matched last) p n v = load (going (state st (buffered [] (Ok tt) sizes first [] [] true false last) p n v (closing f))) (seeding f) st l e sizes first [] false last p n v

  abbrev pub extend : Bool → Streamed X F → Buffered X F → Pipe → Counts → V → Outcome X F V
  extend f st (buffered l e sizes first [] beyond ended' matched last) p n v = going (state st (buffered l e sizes first [] beyond ended' matched last) p n v (seeding f))
  extend f st (buffered l e sizes first (y ∷ run) (z ∷ beyond) ended' matched last) p n v = cond (is_same (c.within y z))
      (going (state st (buffered l e sizes first (y ∷ (run ++ z ∷ [])) beyond ended' matched last) p n v (extending f)))
      (going (state st (buffered l e sizes first (y ∷ run) (z ∷ beyond) ended' matched last) p n v (closing f)))
  extend f st (buffered l e sizes first (y ∷ run) [] ended' matched last) p n v =
      load (going (state st (buffered [] (Ok tt) sizes first (y ∷ run) [] false matched last) p n v (closing f))) (extending f) st l e sizes first (y ∷ run) matched last p n v

  -- the turn

  abbrev pub run_left : Streamed X F → List (List X) → Closing F → ℕ → List X → Option X → Counts → V → Pipe × List ℕ → Outcome X F V
  run_left st l e first beyond last n v q = going (state st (buffered l e q.1 first [] beyond false false last) q.0 n v (seeding false))

  abbrev pub pass_run : Streamed X F → Buffered X F → Pipe → Counts → V → Outcome X F V
  pass_run st (buffered l e sizes first run beyond ended' matched last) p n v =
      run_left st l e (first + length run) beyond last (counted_run n) v
      (part c.deferred c.keeps_buffered ((first + length run) - base_of p) sizes (note (when (c.keeps_buffered && not matched) (places first (length run))) p))

  abbrev pub compared : Ordering → Streamed X F → ℕ → List X → ℕ → Buffered X F → Pipe → Counts → V → Outcome X F V
  compared Less st place run first bf p n v = going (state st bf (lone_row c.deferred c.size c.keeps_streamed place p) n v passing)
  compared Equal st place run first bf p n v = going (state st bf p n v (pairing run first))
  compared Greater st place run first bf p n v = pass_run st bf p n v

  abbrev pub compare : Streamed X F → Buffered X F → Pipe → Counts → V → Outcome X F V
  compare (streamed l e [] place ended' last) bf p n v = pass_run (streamed l e [] place ended' last) bf p n v
  compare (streamed l e (x ∷ rows) place ended' last) (buffered bl be sizes first [] beyond b_ended matched b_last) p n v =
      compared Less (streamed l e (x ∷ rows) place ended' last) place [] first (buffered bl be sizes first [] beyond b_ended matched b_last) p n v
  compare (streamed l e (x ∷ rows) place ended' last) (buffered bl be sizes first (y ∷ run) beyond b_ended matched b_last) p n v =
      compared (c.across x y) (streamed l e (x ∷ rows) place ended' last) place (y ∷ run) first (buffered bl be sizes first (y ∷ run) beyond b_ended matched b_last) p n v

  abbrev pub turn : Streamed X F → Buffered X F → Pipe → Counts → V → Outcome X F V
  turn st bf p n v = cond (is_full c.deferred c.size p) (going (state st bf (flush c.deferred p) n v turning)) (compare st bf p n v)

  abbrev pub pair : List X → ℕ → Streamed X F → Buffered X F → Pipe → Counts → V → Outcome X F V
  pair [] j st (buffered l e sizes first run beyond ended' matched last) p n v = going (state st (buffered l e sizes first run beyond ended' true last) p n v passing)
  pair (y ∷ todo) j (streamed l e [] place ended' last) bf p n v = going (state (streamed l e [] place ended' last) bf p n v passing)
  pair (y ∷ todo) j (streamed l e (x ∷ rows) place ended' last) bf p n v =
      going (state (streamed l e (x ∷ rows) place ended' last) bf (push c.deferred c.size (judged place j (c.asks x y)) p) n v (pairing todo (suc j)))

  abbrev pub after_row : List X → Phase X F
  after_row [] = fetching false
  after_row (x ∷ rows) = closing false

  abbrev pub pass : Streamed X F → Buffered X F → Pipe → Counts → V → Outcome X F V
  pass (streamed l e [] place ended' last) bf p n v = going (state (streamed l e [] place ended' last) bf p n v (fetching false))
  pass (streamed l e (x ∷ rows) place ended' last) bf p n v = going (state (streamed l e rows (suc place) ended' last) bf p (counted_row n) v (after_row rows))

  abbrev pub both_ended : Streamed X F → Buffered X F → Bool
  both_ended (streamed l e rows place ended' last) (buffered bl be sizes first run beyond b_ended matched b_last) = ended' && b_ended

  abbrev pub go_on : Bool → Streamed X F → Buffered X F → Pipe → Counts → V → Outcome X F V
  go_on true st bf p n v = going (state st bf p n v turning)
  go_on false st bf p n v = answered more (state st bf p n v turning)

  abbrev pub close : Bool → Streamed X F → Buffered X F → Pipe → Counts → V → Outcome X F V
  close first st bf p n v = cond (both_ended st bf) (going (state st bf (flush c.deferred p) n v done)) (go_on first st bf p n v)

  abbrev pub step : Phase X F → Streamed X F → Buffered X F → Pipe → Counts → V → Outcome X F V
  step (fetching first) (streamed l e rows place ended' last) bf p n v = fetch first l e place last bf p n v
  step (seeding first) st bf p n v = seed first st bf p n v
  step (extending first) st bf p n v = extend first st bf p n v
  step (closing first) st bf p n v = close first st bf p n v
  step turning st bf p n v = turn st bf p n v
  step passing st bf p n v = pass st bf p n v
  step done st bf p n v = answered finished (state st bf p n v done)
  step (pairing todo j) st bf p n v = pair todo j st bf p n v
  step (stopped f) st bf p n v = answered (failed f) (state st bf p n v (stopped f))

  -- what is due goes first
  abbrev pub micro : State X F V → Outcome X F V
  micro (state st bf (pipe base marks noted unfrozen entries []) n v ph) = step ph st bf (pipe base marks noted unfrozen entries []) n v
  micro (state st bf (pipe base marks noted unfrozen entries (r ∷ due)) n v ph) = cond (c.fits v r)
      (gives r (state st bf (pipe base marks noted unfrozen entries due) (counted_record n) (c.after v r) ph))
      (answered waiting (state st bf (pipe base marks noted unfrozen entries (r ∷ due)) n v ph))

  -- small steps, one after another, to the first answer, and the records that they give
  pub data Turned : State X F V → List Record → Answer F → State X F V → Type 0 where
    answers : {s s' : State X F V} {a : Answer F} → micro s ≡ answered a s' → Turned s [] a s'
    steps : {s s' s'' : State X F V} {l : List Record} {a : Answer F} → micro s ≡ going s' → Turned s' l a s'' → Turned s l a s''
    hands : {s s' s'' : State X F V} {r : Record} {l : List Record} {a : Answer F} → micro s ≡ gives r s' → Turned s' l a s'' → Turned s (r ∷ l) a s''
