-- The merge path over a streamed and a buffered log. Each turn passes the first run left when no streamed row is left or the
-- first one left is after that run's first row across, otherwise that streamed row.
use Rattle.std.specs.Prelude.{ℕ, zero, suc, ◌+◌, Bool, cond, not, List, [], ◌∷◌, ◌++◌, length}
use Rattle.std.specs.declared.cmp.Ordering.{Ordering}
use Rattle.rows.specs.declared.record.Record.{Record}
use Rattle.rows.specs.declared.record.Record.TheVariants.{LeftAlone}
use Rattle.rows.specs.Order.{is_same, is_after}
use Rattle.merge.specs.Table.{when, meets_buffered, pairs_of, lone_buffered, table_from}
use Rattle.merge.specs.Runs.{Sorted, more_of_run, past_run}

-- Where the path stands: the streamed rows passed, the place of the next one, those left; the place of the next buffered
-- row, those left.
pub data State (X : Type 0) : Type 0 where
  at : List X → ℕ → List X → ℕ → List X → State X

-- before both logs' first rows
abbrev pub start : {X : Type 0} → List X → List X → State X
start s b = at [] 0 s 0 b

abbrev pub passed_rows : {X : Type 0} → State X → List X
passed_rows (at p i s j b) = p

abbrev pub left_streamed : {X : Type 0} → State X → List X
left_streamed (at p i s j b) = s

abbrev pub left_buffered : {X : Type 0} → State X → List X
left_buffered (at p i s j b) = b

-- what is left of both logs is sorted
abbrev pub Ordered : {X : Type 0} (within : X → X → Ordering) → State X → Type 0
Ordered within (at p i s j b) = Sorted within s × Sorted within b

-- what the rows left still add to the joined table
abbrev pub to_come : {X : Type 0} (passes : X → X → Bool) (keeps_streamed keeps_buffered : Bool) → State X → List Record
to_come passes keeps_streamed keeps_buffered (at p i s j b) = table_from passes keeps_streamed keeps_buffered p i s j b

-- what a turn passes: nothing, once both logs are passed
pub data Move : Type 0 where
  none row run : Move

-- One turn: what it passes, what it contributes, where the path then stands.
pub record Turn (X : Type 0) : Type 0 where
  pub passed : Move
  pub gives : List Record
  pub next : State X

module _ {X : Type 0} (within across : X → X → Ordering) where
  -- the rows of the first run of b, if x is same across as its first row
  abbrev pub matched : X → List X → List X
  matched x [] = []
  matched x (y ∷ b) = when (is_same (across x y)) (y ∷ more_of_run within y b)

module _ {X : Type 0} (within across : X → X → Ordering) (passes : X → X → Bool) (keeps_streamed keeps_buffered : Bool) where
  -- A streamed row contributes its passing pairs with the run it is matched with, or itself alone if there is none.
  abbrev pub pass_row : List X → ℕ → X → List X → ℕ → List X → Turn X
  pass_row p i x s j b = record {
    passed = row;
    gives = pairs_of passes i x j (matched within across x b) ++ when keeps_streamed (when (not (meets_buffered passes x (matched within across x b))) (LeftAlone i ∷ []));
    next = at (p ++ x ∷ []) (suc i) s j b;
  }

  -- A run contributes those of its rows that no streamed row passed so far passes with.
  abbrev pub pass_run : List X → ℕ → List X → ℕ → X → List X → Turn X
  pass_run p i s j y b = record {
    passed = run;
    gives = when keeps_buffered (lone_buffered passes p j (y ∷ more_of_run within y b));
    next = at p i s (j + length (y ∷ more_of_run within y b)) (past_run within y b);
  }

  abbrev pub turn : State X → Turn X
  turn (at p i [] j []) = record { passed = none; gives = []; next = at p i [] j [] }
  turn (at p i [] j (y ∷ b)) = pass_run p i [] j y b
  turn (at p i (x ∷ s) j []) = pass_row p i x s j []
  turn (at p i (x ∷ s) j (y ∷ b)) = cond (is_after (across x y)) (pass_run p i (x ∷ s) j y b) (pass_row p i x s j (y ∷ b))

  -- what the path's first n turns contribute
  abbrev pub path : ℕ → State X → List Record
  path zero t = []
  path (suc n) t = (turn t).gives ++ path n (turn t).next

  -- where they lead
  abbrev pub after : ℕ → State X → State X
  after zero t = t
  after (suc n) t = after n (turn t).next

  -- a sum over the first n turns, by what each passes
  abbrev pub tally : (Move → ℕ) → ℕ → State X → ℕ
  tally f zero t = 0
  tally f (suc n) t = f (turn t).passed + tally f n (turn t).next

-- what a turn counts as in the sums of turns, of streamed rows passed and of runs passed
abbrev pub one_turn : Move → ℕ
one_turn none = 0
one_turn row = 1
one_turn run = 1

abbrev pub one_row : Move → ℕ
one_row none = 0
one_row row = 1
one_row run = 0

abbrev pub one_run : Move → ℕ
one_run none = 0
one_run row = 0
one_run run = 1
