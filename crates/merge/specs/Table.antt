-- The joined table of a streamed and a buffered log. Nothing is merged here: every row is held against every row.
-- A record names the streamed row's place first: `Pair i j` is a streamed and a buffered row, `LeftAlone i` a streamed row
-- without a partner, `RightAlone j` a buffered one. (specs/Joined turns the records of a right join round.)
use Rattle.std.specs.Prelude.{ℕ, suc, Bool, true, false, not, ◌≢◌, List, [], ◌∷◌, ◌++◌}
use Rattle.std.specs.List.{AllByRecursion, list_any}
use Rattle.rows.specs.declared.record.Record.{Record}
use Rattle.rows.specs.declared.record.Record.TheVariants.{Pair, LeftAlone, RightAlone}

-- the list if the test holds, else nothing
abbrev pub when : {A : Type 0} → Bool → List A → List A
when true l = l
when false l = []

-- no member stands twice
abbrev pub Distinct : {A : Type 0} → List A → Type 0
Distinct [] = Unit {0}
Distinct (a ∷ l) = AllByRecursion (λ c. a ≢ c) l × Distinct l

-- the records, each named by its place, of the rows that a test passes; the first row is at place i
abbrev pub listed : {X : Type 0} → (ℕ → Record) → (X → Bool) → ℕ → List X → List Record
listed name test i [] = []
listed name test i (x ∷ l) = when (test x) (name i ∷ []) ++ listed name test (suc i) l

-- `passes x y` says whether the streamed row x and the buffered row y pass as a pair.
module _ {X : Type 0} (passes : X → X → Bool) where
  -- does a buffered row pass with x?
  abbrev pub meets_buffered : X → List X → Bool
  meets_buffered x b = list_any (passes x) b

  -- does a streamed row pass with y?
  abbrev pub meets_streamed : List X → X → Bool
  meets_streamed s y = list_any (λ x. passes x y) s

  -- the passing pairs of the streamed row x at place i with the buffered rows b, the first of which is at place j
  abbrev pub pairs_of : ℕ → X → ℕ → List X → List Record
  pairs_of i x j b = listed (Pair i) (passes x) j b

  -- the passing pairs of the streamed rows s, from place i on, with the buffered rows b, from place j on
  abbrev pub all_pairs : ℕ → List X → ℕ → List X → List Record
  all_pairs i [] j b = []
  all_pairs i (x ∷ s) j b = pairs_of i x j b ++ all_pairs (suc i) s j b

  -- the streamed rows s, from place i on, that no row of b passes with
  abbrev pub lone_streamed : ℕ → List X → List X → List Record
  lone_streamed i s b = listed LeftAlone (λ x. not (meets_buffered x b)) i s

  -- the buffered rows b, from place j on, that no row of s passes with
  abbrev pub lone_buffered : List X → ℕ → List X → List Record
  lone_buffered s j b = listed RightAlone (λ y. not (meets_streamed s y)) j b

  -- The kind of join says whether lone streamed rows and lone buffered rows are kept.
  module _ (keeps_streamed keeps_buffered : Bool) where
    -- the joined table of the logs s and b
    abbrev pub table : List X → List X → List Record
    table s b = all_pairs 0 s 0 b ++ (when keeps_streamed (lone_streamed 0 s b) ++ when keeps_buffered (lone_buffered s 0 b))

    -- what the rows s and b, from the places i and j on, still add to the table, where the rows p of the streamed log went before s
    abbrev pub table_from : List X → ℕ → List X → ℕ → List X → List Record
    table_from p i s j b = all_pairs i s j b ++ (when keeps_streamed (lone_streamed i s b) ++ when keeps_buffered (lone_buffered (p ++ s) j b))
