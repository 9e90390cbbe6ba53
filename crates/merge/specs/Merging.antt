-- What is proved of the merge path through a left and a right log: it yields the joined table.
use Rattle.std.specs.Prelude.{◌≡◌, ℕ, ◌+◌, ◌≤◌, Bool, false, List, [], ◌++◌, map, length, Option}
use Rattle.std.specs.declared.cmp.Ordering.{Ordering}
use Rattle.std.specs.List.{ContainsAt as Has, AllByRecursion}
use Rattle.std.specs.List.Sorted.{IsPermutation}
use Rattle.rows.specs.declared.kind.Kind.{Kind}
use Rattle.rows.specs.declared.record.Record.{Record}
use Rattle.rows.specs.declared.row.Row.{Row}
use Rattle.merge.specs.Table.{Distinct}
use Rattle.rows.specs.Sides.{streamed_of, buffered_of, oriented, is_outer, is_full}
use Rattle.merge.specs.Joined.{Asks, passes, InTable, joined}
use Rattle.merge.specs.Runs.{Sorted, runs}
use Rattle.merge.specs.Path.{State, start, Move, one_turn, one_row, one_run, left_streamed, left_buffered, path, after, tally}
use Rattle.merge.specs.Decided.{Follows, AllDecided}
use Rattle.merge.specs.Sequence.{InSequence}

-- rows compare by their keys
abbrev pub by_key : {K : Type 0} → (K → K → Ordering) → Row K → Row K → Ordering
by_key compares x y = compares x.key y.key

module _ {K : Type 0} (within across : K → K → Ordering) (filter : Option Asks) (kind : Kind) where
  -- before the first turn
  abbrev pub outset : (lefts rights : List (Row K)) → State (Row K)
  outset lefts rights = start (streamed_of kind lefts rights) (buffered_of kind lefts rights)

  -- what the first n turns contribute, the streamed row named first
  abbrev pub side_records : ℕ → (lefts rights : List (Row K)) → List Record
  side_records n lefts rights = path (by_key within) (by_key across) (passes kind across filter) (is_outer kind) (is_full kind) n (outset lefts rights)

  -- the same as records of the table
  abbrev pub contributed : ℕ → (lefts rights : List (Row K)) → List Record
  contributed n lefts rights = map (oriented kind) (side_records n lefts rights)

  -- where the first n turns lead
  abbrev pub reached : ℕ → (lefts rights : List (Row K)) → State (Row K)
  reached n lefts rights = after (by_key within) (by_key across) (passes kind across filter) (is_outer kind) (is_full kind) n (outset lefts rights)

  -- a sum over the first n turns
  abbrev pub counted : (Move → ℕ) → ℕ → (lefts rights : List (Row K)) → ℕ
  counted f n lefts rights = tally (by_key within) (by_key across) (passes kind across filter) (is_outer kind) (is_full kind) f n (outset lefts rights)

  -- the streamed rows and the runs of the buffered rows: as many turns end the path
  abbrev pub rows_and_runs : (lefts rights : List (Row K)) → ℕ
  rows_and_runs lefts rights = length (streamed_of kind lefts rights) + runs (by_key within) (buffered_of kind lefts rights)

  -- A record is in the joined table exactly when it belongs there, and the table has no record twice.
  pub record TableIsWhatBelongs (lefts rights : List (Row K)) : Type 0 where
    pub only : AllByRecursion (InTable kind across filter lefts rights) (joined kind across filter lefts rights)
    pub every : (r : Record) → InTable kind across filter lefts rights r → Has (joined kind across filter lefts rights) r
    pub once : Distinct (joined kind across filter lefts rights)

  -- Over sorted logs the whole path contributes a permutation of the joined table.
  abbrev pub PathContributesTheTable : (lefts rights : List (Row K)) → Type 0
  PathContributesTheTable lefts rights = Sorted (by_key within) lefts → Sorted (by_key within) rights
      → IsPermutation (contributed (rows_and_runs lefts rights) lefts rights) (joined kind across filter lefts rights)

  -- n turns are each decided by the rows read of both logs, of which each may have ended
  abbrev pub TurnsDecided : (ended_left ended_right : Bool) → ℕ → (lefts rights : List (Row K)) → Type 0
  TurnsDecided ended_left ended_right n lefts rights = AllDecided (by_key within) (by_key across) (streamed_of kind ended_left ended_right) (buffered_of kind ended_left ended_right) (passes kind across filter) (is_outer kind) (is_full kind) n (outset lefts rights)

  -- what n turns contribute is part of the joined table of logs that go on with more rows
  pub record PartOfTheTable (n : ℕ) (lefts rights more_lefts more_rights : List (Row K)) : Type 0 where
    pub belong : AllByRecursion (Has (joined kind across filter (lefts ++ more_lefts) (rights ++ more_rights))) (contributed n lefts rights)
    pub once : Distinct (contributed n lefts rights)
    -- what is still to come
    pub rest : List Record
    pub complete : IsPermutation (contributed n lefts rights ++ rest) (joined kind across filter (lefts ++ more_lefts) (rights ++ more_rights))
    -- the turns over the longer logs are the same
    pub same_turns : contributed n (lefts ++ more_lefts) (rights ++ more_rights) ≡ contributed n lefts rights

  -- Whatever rows may still follow in key order, turns that the rows read decide contribute part of the joined table.
  abbrev pub DecidedTurnsContributePart : Type 0
  DecidedTurnsContributePart = (ended_left ended_right : Bool) (n : ℕ) (lefts rights more_lefts more_rights : List (Row K)) → TurnsDecided ended_left ended_right n lefts rights
      → Follows ended_left more_lefts → Follows ended_right more_rights → Sorted (by_key within) (lefts ++ more_lefts) → Sorted (by_key within) (rights ++ more_rights)
      → PartOfTheTable n lefts rights more_lefts more_rights

  -- Turns are streamed rows passed plus runs passed, and at the end all of both.
  pub record TurnsAreRowsAndRuns (n : ℕ) (lefts rights : List (Row K)) : Type 0 where
    pub turns : counted one_turn n lefts rights ≡ counted one_row n lefts rights + counted one_run n lefts rights
    pub rows_passed : counted one_row n lefts rights + length (left_streamed (reached n lefts rights)) ≡ length (streamed_of kind lefts rights)
    pub runs_passed : counted one_run n lefts rights + runs (by_key within) (left_buffered (reached n lefts rights)) ≡ runs (by_key within) (buffered_of kind lefts rights)
    pub at_end : rows_and_runs lefts rights ≤ n
        → (counted one_turn n lefts rights ≡ rows_and_runs lefts rights) × (left_streamed (reached n lefts rights) ≡ []) × (left_buffered (reached n lefts rights) ≡ [])

  -- Outside full joins the contributions come by rising streamed place and, for one streamed row, by rising buffered place.
  abbrev pub RecordsComeInSequence : ℕ → (lefts rights : List (Row K)) → Type 0
  RecordsComeInSequence n lefts rights = is_full kind ≡ false → InSequence (side_records n lefts rights)

-- All of it, for one order of keys, filter or none, and kind.
pub record MergingYieldsTheJoinedTable {K : Type 0} (within across : K → K → Ordering) (filter : Option Asks) (kind : Kind) : Type 0 where
  pub a_record_is_in_the_table_exactly_when_it_belongs : (lefts rights : List (Row K)) → TableIsWhatBelongs within across filter kind lefts rights
  pub the_path_contributes_the_joined_table : (lefts rights : List (Row K)) → PathContributesTheTable within across filter kind lefts rights
  pub decided_turns_contribute_part_of_every_longer_table : DecidedTurnsContributePart within across filter kind
  pub turns_are_rows_passed_plus_runs_passed : (n : ℕ) (lefts rights : List (Row K)) → TurnsAreRowsAndRuns within across filter kind n lefts rights
  pub outside_full_joins_records_come_in_sequence : (n : ℕ) (lefts rights : List (Row K)) → RecordsComeInSequence within across filter kind n lefts rights
