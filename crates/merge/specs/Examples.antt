-- Small joins, computed from the definitions.
use Rattle.std.specs.Prelude.{◌≡◌, ℕ, cond, List, [], ◌∷◌, pos, Some, None, Option, nat_lt}
use Rattle.rows.specs.declared.kind.Kind.{Kind}
use Rattle.rows.specs.declared.kind.Kind.TheVariants.{Inner, Left, Right, Full}
use Rattle.rows.specs.declared.record.Record.{Record}
use Rattle.rows.specs.declared.record.Record.TheVariants.{Pair, LeftAlone, RightAlone}
use Rattle.rows.specs.declared.row.Row.{Row}
use Rattle.filters.specs.declared.filter.Verdict.TheVariants.{Yes, No}
use Rattle.merge.specs.Joined.{Asks, joined}
use Rattle.merge.specs.Merging.{contributed, rows_and_runs}
use Rattle.merge.specs.Numbers.{numbers_within, numbers_across}

-- a row by its key and its moment
abbrev pub row_at : Option ℕ → ℕ → Row (Option ℕ)
row_at k m = record { key = k; reading = record { moment = m; level = pos 0; receiver = 0 } }

-- the right moment is not before the left one
abbrev pub not_before : Asks
not_before l r = cond (nat_lt r.moment l.moment) No Yes

-- the joined table, without a filter and filtered by `not_before`
abbrev pub plain : Kind → (lefts rights : List (Row (Option ℕ))) → List Record
plain kind = joined kind numbers_across None

abbrev pub filtered : Kind → (lefts rights : List (Row (Option ℕ))) → List Record
filtered kind = joined kind numbers_across (Some not_before)

-- what the merge path contributes, filtered
abbrev pub merged : Kind → (lefts rights : List (Row (Option ℕ))) → List Record
merged kind lefts rights = contributed numbers_within numbers_across (Some not_before) kind (rows_and_runs numbers_within numbers_across (Some not_before) kind lefts rights) lefts rights

-- logs of one missing key, of the key 5 at one moment, and of a run of three with the key 5
abbrev pub missing : List (Row (Option ℕ))
missing = row_at None 0 ∷ []

abbrev pub five : ℕ → List (Row (Option ℕ))
five m = row_at (Some 5) m ∷ []

abbrev pub run_of_three : List (Row (Option ℕ))
run_of_three = row_at (Some 5) 10 ∷ row_at (Some 5) 20 ∷ row_at (Some 5) 30 ∷ []

-- two logs with a bit of everything
abbrev pub some_lefts : List (Row (Option ℕ))
some_lefts = row_at None 0 ∷ row_at (Some 2) 15 ∷ row_at (Some 2) 99 ∷ row_at (Some 7) 0 ∷ []

abbrev pub some_rights : List (Row (Option ℕ))
some_rights = row_at None 0 ∷ row_at (Some 2) 10 ∷ row_at (Some 2) 20 ∷ row_at (Some 3) 0 ∷ []

pub record Examples : Type 0 where
  pub two_missing_keys_match_nothing : plain Full missing missing ≡ LeftAlone 0 ∷ RightAlone 0 ∷ []
  pub a_run_of_three_pairs_with_one_row : plain Left (five 0) run_of_three ≡ Pair 0 0 ∷ Pair 0 1 ∷ Pair 0 2 ∷ []
  pub some_pairs_fail_the_filter : filtered Left (five 15) run_of_three ≡ Pair 0 1 ∷ Pair 0 2 ∷ []
  pub a_row_that_fails_against_all_of_a_run_is_alone : filtered Left (five 99) run_of_three ≡ LeftAlone 0 ∷ []
  pub so_is_each_row_of_the_run : filtered Full (five 99) run_of_three ≡ LeftAlone 0 ∷ RightAlone 0 ∷ RightAlone 1 ∷ RightAlone 2 ∷ []
  pub an_empty_right_log : plain Full (five 0) [] ≡ LeftAlone 0 ∷ []
  pub an_empty_left_log : plain Full [] (five 0) ≡ RightAlone 0 ∷ []
  pub two_empty_logs : plain Full [] [] ≡ []
  pub inner : filtered Inner some_lefts some_rights ≡ Pair 1 2 ∷ []
  pub left : filtered Left some_lefts some_rights ≡ Pair 1 2 ∷ LeftAlone 0 ∷ LeftAlone 2 ∷ LeftAlone 3 ∷ []
  pub right : filtered Right some_lefts some_rights ≡ Pair 1 2 ∷ RightAlone 0 ∷ RightAlone 1 ∷ RightAlone 3 ∷ []
  pub full : filtered Full some_lefts some_rights ≡ Pair 1 2 ∷ LeftAlone 0 ∷ LeftAlone 2 ∷ LeftAlone 3 ∷ RightAlone 0 ∷ RightAlone 1 ∷ RightAlone 3 ∷ []
  -- the merge path has the same records in the sequence of its turns
  pub merged_inner : merged Inner some_lefts some_rights ≡ Pair 1 2 ∷ []
  pub merged_left : merged Left some_lefts some_rights ≡ LeftAlone 0 ∷ Pair 1 2 ∷ LeftAlone 2 ∷ LeftAlone 3 ∷ []
  pub merged_right : merged Right some_lefts some_rights ≡ RightAlone 0 ∷ RightAlone 1 ∷ Pair 1 2 ∷ RightAlone 3 ∷ []
  pub merged_full : merged Full some_lefts some_rights ≡ LeftAlone 0 ∷ RightAlone 0 ∷ Pair 1 2 ∷ LeftAlone 2 ∷ RightAlone 1 ∷ RightAlone 3 ∷ LeftAlone 3 ∷ []
