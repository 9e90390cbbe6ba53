-- The law of runs: what whoever opens a join and works it by turn and report alone finds after every call.
use Rattle.std.specs.Prelude.{◌≡◌, ℕ, ◌+◌, ◌≤◌, min, Bool, true, false, not, ◌&&◌, ◌||◌, List, [], ◌∷◌, ◌++◌, length, take, Some, None, Ok, Err, Option, is_some}
use Rattle.std.specs.declared.cmp.Ordering.{Ordering}
use Rattle.std.specs.List.{ContainsAt as Has, AllByRecursion, flat_map}
use Rattle.std.specs.List.Sorted.{IsPermutation}
use Rattle.rows.specs.declared.kind.Kind.{Kind}
use Rattle.rows.specs.declared.kind.Side.{Side}
use Rattle.rows.specs.declared.kind.Side.TheVariants.{Left, Right}
use Rattle.rows.specs.declared.record.Record.{Record}
use Rattle.rows.specs.declared.row.Row.{Row}
use Rattle.sources.specs.Meaning.{Closing}
use Rattle.sinks.specs.Meaning.{Led}
use Rattle.merge.specs.Table.{Distinct}
use Rattle.merge.specs.Runs.{Leads, Sorted, runs}
use Rattle.merge.specs.Path.{start, tally, one_row, one_run}
use Rattle.merge.specs.Decided.{Follows}
use Rattle.rows.specs.Sides.{streamed_of, buffered_of, left_of, right_of, is_outer, is_full}
use Rattle.merge.specs.Joined.{Asks, lets_through, passes, InTable, joined}
use Rattle.merge.specs.Merging.{by_key}
use Rattle.machine.specs.declared.answer.Answer.TheVariants.{More, Waiting, Finished}
use Rattle.machine.specs.declared.fault.JoinFault.TheVariants.{Unsorted, TableFull, TooManyBatches, TooManyRows, Source}
use Rattle.machine.specs.Machine.{Setting, Told, Core, core, opened, Turned, last_of, most_handed}
use Rattle.machine.specs.Report.{reported}

-- ---- the words

-- a log as its source gives it: batches of rows, and how they close
pub record Log (K : Type 0) : Type 0 where
  pub batches : List (List (Row K))
  pub closing : Closing

-- all rows of a list of batches
abbrev pub rows_in : {A : Type 0} → List (List A) → List A
rows_in l = flat_map (λ b. b) l

-- the source holds no batch more and answers the end
abbrev pub is_over : {A : Type 0} → List (List A) → Closing → Bool
is_over [] (Ok end) = true
is_over [] (Err f) = false
is_over (b ∷ l) e = false

abbrev pub is_side : Side → Side → Bool
is_side Left Left = true
is_side Left Right = false
is_side Right Left = false
is_side Right Right = true

-- a batch of the side failed: it was taken, and a key in it is before its predecessor
abbrev pub fails : Side → Told → Bool
fails side (Ok a) = false
fails side (Err (Unsorted s place)) = is_side side s
fails side (Err (TableFull s first)) = false
fails side (Err (TooManyBatches first)) = false
fails side (Err (TooManyRows s first)) = false
fails side (Err (Source s f)) = false

abbrev pub has_failed : Side → List Told → Bool
has_failed side [] = false
has_failed side (a ∷ told) = fails side a || has_failed side told

-- rows that may follow in key order, from the last row read on
abbrev pub InOrderAfter : {K : Type 0} → (K → K → Ordering) → Option (Row K) → List (Row K) → Type 0
InOrderAfter within None l = Sorted (by_key within) l
InOrderAfter within (Some last) l = Leads (by_key within) last l × Sorted (by_key within) l

abbrev pub one_more : Told → ℕ
one_more (Ok More) = 1
one_more (Ok Waiting) = 0
one_more (Ok Finished) = 0
one_more (Err f) = 0

-- how many answers are more
abbrev pub answers_of_more : List Told → ℕ
answers_of_more [] = 0
answers_of_more (a ∷ told) = one_more a + answers_of_more told

-- ---- the law

-- Over a kind, an order, a filter or none, a batch size and tables, a sink, both logs as the sources hold them at opening, and
-- the sink's value then.
module _ {K V : Type 0} (kind : Kind) (within across : K → K → Ordering) (filter : Option Asks) (size streamed_table buffered_table : ℕ)
    (fits : V → Record → Bool) (after : V → Record → V) (lefts rights : Log K) (v₀ : V) where
  -- what the join is opened with, as the machine has it
  abbrev pub setting : Setting K
  setting = record { within = within; across = across; asks = lets_through filter; filtered = is_some filter; kind = kind; size = size; streamed_table = streamed_table; buffered_table = buffered_table }

  abbrev pub at_opening : Core K
  at_opening = opened (streamed_of kind lefts.batches rights.batches) (streamed_of kind lefts.closing rights.closing) (buffered_of kind lefts.batches rights.batches) (buffered_of kind lefts.closing rights.closing)

  -- Turns in any number, and between them calls that change nothing: the records handed over, the answers, what the join then
  -- holds, and the sink's value.
  pub data Runs : List Record → List Told → Core K → V → Type 0 where
    none : Runs [] [] at_opening v₀
    turned : {out l : List Record} {told : List Told} {a : Told} {s s' : Core K} {v v' : V} → Runs out told s v → Turned setting fits after s v l a s' v' → Runs (out ++ l) (told ++ a ∷ []) s' v'

  abbrev pub all_left : List (Row K)
  all_left = rows_in lefts.batches

  abbrev pub all_right : List (Row K)
  all_right = rows_in rights.batches

  -- the rows read of each log
  abbrev pub left_rows : Core K → List (Row K)
  left_rows s = take (reported kind s).left_read all_left

  abbrev pub right_rows : Core K → List (Row K)
  right_rows s = take (reported kind s).right_read all_right

  -- the batches that the sources have left
  abbrev pub left_batches : Core K → List (List (Row K))
  left_batches (core st bf q n ph) = left_of kind st.batches bf.batches

  abbrev pub right_batches : Core K → List (List (Row K))
  right_batches (core st bf q n ph) = right_of kind st.batches bf.batches

  -- No row may follow on a side where no batch failed and the source holds no batch more and answers the end. Elsewhere any
  -- rows may that are in key order, from the last row read on.
  pub record MayFollow (told : List Told) (s : Core K) (l r : List (Row K)) : Type 0 where
    pub left_ended : Follows (not (has_failed Left told) && is_over (left_batches s) lefts.closing) l
    pub right_ended : Follows (not (has_failed Right told) && is_over (right_batches s) rights.closing) r
    pub left_in_order : InOrderAfter within (last_of None (left_rows s)) l
    pub right_in_order : InOrderAfter within (last_of None (right_rows s)) r

  -- what is found after every call
  pub record Lawful (out : List Record) (told : List Told) (s : Core K) (v : V) : Type 0 where
    pub no_record_twice : Distinct out
    pub each_record_belongs : (l r : List (Row K)) → MayFollow told s l r → AllByRecursion (InTable kind across filter (left_rows s ++ l) (right_rows s ++ r)) out
    pub ends_as_the_joined_table : Has told (Ok Finished) → IsPermutation out (joined kind across filter all_left all_right)
    pub turns_are_rows_and_runs_passed : (reported kind s).turns ≡ (reported kind s).rows_passed + (reported kind s).runs_passed
    pub a_call_adds_at_most_one : (l : List Record) (a : Told) (s' : Core K) (v' : V) → Turned setting fits after s v l a s' v' → (reported kind s').turns ≤ (reported kind s).turns + 1
    pub no_more_answers_than_turns : answers_of_more told ≤ (reported kind s).turns
    pub goes_along_the_merge_path :
        ((reported kind s).rows_passed ≡ tally (by_key within) (by_key across) (passes kind across filter) (is_outer kind) (is_full kind) one_row (reported kind s).turns (start (streamed_of kind all_left all_right) (buffered_of kind all_left all_right)))
        × ((reported kind s).runs_passed ≡ tally (by_key within) (by_key across) (passes kind across filter) (is_outer kind) (is_full kind) one_run (reported kind s).turns (start (streamed_of kind all_left all_right) (buffered_of kind all_left all_right)))
    pub passes_all_at_the_end : Has told (Ok Finished) → ((reported kind s).rows_passed ≡ length (streamed_of kind all_left all_right)) × ((reported kind s).runs_passed ≡ runs (by_key within) (buffered_of kind all_left all_right))
    pub counts_the_records : (reported kind s).handed ≡ min (length out) most_handed
    pub records_lead_the_sink : Led fits after v₀ out v

  abbrev pub Law : Type 0
  Law = (out : List Record) (told : List Told) (s : Core K) (v : V) → Runs out told s v → Lawful out told s v

-- the law holds, over every kind, filter or none, batch size, tables, logs however cut, and value of the sink
abbrev pub LawOfRuns : {K V : Type 0} → (within across : K → K → Ordering) → (fits : V → Record → Bool) → (after : V → Record → V) → Type 0
LawOfRuns {K} {V} within across fits after = (kind : Kind) (filter : Option Asks) (size streamed_table buffered_table : ℕ) → 1 ≤ size → (lefts rights : Log K) (v : V) → Law kind within across filter size streamed_table buffered_table fits after lefts rights v
