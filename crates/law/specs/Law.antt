-- The law of all runs of a join, from the opened state on.
use Rattle.std.specs.Prelude.{◌≡◌, ℕ, ◌+◌, ◌-◌, ◌≤◌, min, Bool, true, false, ◌&&◌, ◌⊎◌, List, [], ◌∷◌, ◌++◌, length, take, Some, None, Option, Ok, Err}
use Rattle.std.specs.declared.cmp.Ordering.{Ordering}
use Rattle.std.specs.List.{ContainsAt as Has, AllByRecursion, flat_map}
use Rattle.std.specs.List.Sorted.{IsPermutation}
use Rattle.rows.specs.Order.{Laws, is_same}
use Rattle.merge.specs.Table.{table, Distinct}
use Rattle.merge.specs.Runs.{Leads, Sorted, runs}
use Rattle.merge.specs.Path.{tally, one_row, one_run, start}
use Rattle.merge.specs.Decided.{Follows}
use Rattle.rows.specs.declared.record.Record.{Record}
use Rattle.law.specs.Pipe.{pipe}
use Rattle.law.specs.Machine.{Setting, Side, on_streamed, on_buffered, Closing, disordered, oversized, overlong, crowded, from_source, Answer, more, waiting, finished, failed, Phase, fetching, seeding, extending, closing, turning, passing, done, pairing, stopped, streamed, buffered, counts, State, state, Turned, opened, last_of, most_handed}

-- all rows of a list of batches
abbrev pub rows_in : {X : Type 0} → List (List X) → List X
rows_in l = flat_map (λ b. b) l

-- no batch is left, and the source closes with the end
abbrev pub is_over : {X F : Type 0} → List (List X) → Closing F → Bool
is_over [] (Ok end) = true
is_over [] (Err f) = false
is_over (b ∷ l) e = false

abbrev pub is_side : Side → Side → Bool
is_side on_streamed on_streamed = true
is_side on_streamed on_buffered = false
is_side on_buffered on_streamed = false
is_side on_buffered on_buffered = true

-- a batch of the side failed
abbrev pub failed_on : {X F : Type 0} → Side → Phase X F → Bool
failed_on side (stopped (disordered s k)) = is_side side s
failed_on side (stopped (oversized s k)) = false
failed_on side (stopped (overlong s k)) = false
failed_on side (stopped (crowded k)) = false
failed_on side (stopped (from_source s f)) = false
failed_on side (fetching f) = false
failed_on side (seeding f) = false
failed_on side (extending f) = false
failed_on side (closing f) = false
failed_on side turning = false
failed_on side passing = false
failed_on side done = false
failed_on side (pairing todo j) = false

abbrev pub streamed_failed : {X F : Type 0} → Phase X F → Bool
streamed_failed ph = failed_on on_streamed ph

abbrev pub buffered_failed : {X F : Type 0} → Phase X F → Bool
buffered_failed ph = failed_on on_buffered ph

-- nothing may follow on a side that is over and of which no batch failed
abbrev pub over : {X F : Type 0} → Bool → List (List X) → Closing F → Bool
over true l e = false
over false l e = is_over l e

-- the numbers of a state
abbrev pub turns_of : {X F V : Type 0} → State X F V → ℕ
turns_of (state st bf p (counts turns rows runs handed) v ph) = turns

abbrev pub rows_of : {X F V : Type 0} → State X F V → ℕ
rows_of (state st bf p (counts turns rows runs handed) v ph) = rows

abbrev pub runs_of : {X F V : Type 0} → State X F V → ℕ
runs_of (state st bf p (counts turns rows runs handed) v ph) = runs

abbrev pub handed_of : {X F V : Type 0} → State X F V → ℕ
handed_of (state st bf p (counts turns rows runs handed) v ph) = handed

abbrev pub sink_of : {X F V : Type 0} → State X F V → V
sink_of (state st bf p n v ph) = v

abbrev pub streamed_read : {X F V : Type 0} → State X F V → ℕ
streamed_read (state (streamed l e rows place ended' last) bf p n v ph) = place + length rows

abbrev pub buffered_read : {X F V : Type 0} → State X F V → ℕ
buffered_read (state st (buffered l e sizes first run beyond ended' matched last) p n v ph) = first + length (run ++ beyond)

abbrev pub streamed_over : {X F V : Type 0} → State X F V → Bool
streamed_over (state (streamed l e rows place ended' last) bf p n v ph) = over (streamed_failed ph) l e

abbrev pub buffered_over : {X F V : Type 0} → State X F V → Bool
buffered_over (state st (buffered l e sizes first run beyond ended' matched last) p n v ph) = over (buffered_failed ph) l e

abbrev pub one_more : {F : Type 0} → Answer F → ℕ
one_more more = 1
one_more waiting = 0
one_more finished = 0
one_more (failed f) = 0

-- how many answers are more
abbrev pub mores : {F : Type 0} → List (Answer F) → ℕ
mores [] = 0
mores (a ∷ l) = one_more a + mores l

-- the sink takes the records in sequence, each fitting as it comes
abbrev pub Led : {V : Type 0} → (V → Record → Bool) → (V → Record → V) → V → List Record → V → Type 0
Led fits after v [] v' = v ≡ v'
Led fits after v (r ∷ l) v' = (fits v r ≡ true) × Led fits after (after v r) l v'

-- what the block has to hold: the noted buffered rows, what is unfrozen, the entries and what is due
abbrev pub in_block : {X F V : Type 0} → State X F V → ℕ
in_block (state st bf (pipe base marks noted unfrozen entries due) n v ph) = length due + (length entries + (length unfrozen + length noted))

-- a batch size and a table of at least one
abbrev pub Ample : {X V : Type 0} → Setting X V → Type 0
Ample c = (1 ≤ c.size) × (1 ≤ c.buffered_table)

-- rows that may follow in key order
abbrev pub InOrderAfter : {X : Type 0} → (X → X → Ordering) → Option X → List X → Type 0
InOrderAfter within None l = Sorted within l
InOrderAfter within (Some w) l = Leads within w l × Sorted within l

-- what a kind of join with or without a filter comes to: deferred if filtered and outer; without a filter every pair passes
abbrev pub Fair : {X V : Type 0} → Setting X V → Type 0
Fair {X} c = ((c.deferred ≡ true) × (c.keeps_streamed ≡ true)) ⊎ ((c.deferred ≡ false) × ((c.keeps_streamed ≡ false) ⊎ ((x y : X) → c.asks x y ≡ true)))

abbrev pub passes : {X V : Type 0} → Setting X V → X → X → Bool
passes c x y = is_same (c.across x y) && c.asks x y

abbrev pub joined : {X V : Type 0} → Setting X V → List X → List X → List Record
joined c = table (passes c) c.keeps_streamed c.keeps_buffered

module _ {X F V : Type 0} (c : Setting X V) (sl : List (List X)) (sc : Closing F) (bl : List (List X)) (bc : Closing F) (v₀ : V) where
  -- calls in any number: the records handed over, the answers, the state
  pub data Runs : List Record → List (Answer F) → State X F V → Type 0 where
    none : Runs [] [] (opened sl sc bl bc v₀)
    turned : {out l : List Record} {told : List (Answer F)} {a : Answer F} {s s' : State X F V} → Runs out told s → Turned c s l a s' → Runs (out ++ l) (told ++ a ∷ []) s'
    reported : {out : List Record} {told : List (Answer F)} {s : State X F V} → Runs out told s → Runs out told s

  pub record Lawful (out : List Record) (told : List (Answer F)) (s : State X F V) : Type 0 where
    pub once : Distinct out
    -- whatever may follow the rows read
    pub belongs : (s' b' : List X) → Follows (streamed_over s) s' → Follows (buffered_over s) b'
        → InOrderAfter c.within (last_of None (take (streamed_read s) (rows_in sl))) s' → InOrderAfter c.within (last_of None (take (buffered_read s) (rows_in bl))) b'
        → AllByRecursion (Has (joined c (take (streamed_read s) (rows_in sl) ++ s') (take (buffered_read s) (rows_in bl) ++ b'))) out
    pub whole : Has told finished → IsPermutation out (joined c (rows_in sl) (rows_in bl))
    pub turns : turns_of s ≡ rows_of s + runs_of s
    -- the turns are those of the path through both logs
    pub path : (rows_of s ≡ tally c.within c.across (passes c) c.keeps_streamed c.keeps_buffered one_row (turns_of s) (start (rows_in sl) (rows_in bl)))
        × (runs_of s ≡ tally c.within c.across (passes c) c.keeps_streamed c.keeps_buffered one_run (turns_of s) (start (rows_in sl) (rows_in bl)))
    pub one_turn : (l : List Record) (a : Answer F) (s' : State X F V) → Turned c s l a s' → turns_of s' ≤ turns_of s + 1
    pub answers : mores told ≤ turns_of s
    pub ends : Has told finished → (rows_of s ≡ length (rows_in sl)) × (runs_of s ≡ runs c.within (rows_in bl))
    pub handed : handed_of s ≡ min (length out) most_handed
    pub room : Ample c → in_block s ≤ (c.size - 1) + c.buffered_table
    pub led : Led c.fits c.after v₀ out (sink_of s)

  abbrev pub Law : Type 0
  Law = (out : List Record) (told : List (Answer F)) (s : State X F V) → Runs out told s → Lawful out told s

-- over every order with its laws, every kind with or without a filter, and every sink
abbrev pub Stands : (X F V : Type 0) → Type 0
Stands X F V = (c : Setting X V) → Laws c.within c.across → Fair c → (sl : List (List X)) (sc : Closing F) (bl : List (List X)) (bc : Closing F) (v : V) → Law c sl sc bl bc v
