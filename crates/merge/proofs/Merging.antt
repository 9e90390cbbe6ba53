-- Merging yields the joined table: the theorem, from the lemmas on the sides.
use Rattle.std.proofs.Common.{◌≡◌, ℕ, List, ◌++◌, map, Option, Ordering, ap, le_refl, arith}
use mathlib.Core.List.{map-append}
use mathlib.Core.List.Permᴰ
use mathlib.Core.List.{Permᴰ}
use Rattle.std.proofs.lemmas.Bool.{cond_both}
use Rattle.std.proofs.lemmas.List.{nil_from_length}
use Rattle.rows.specs.declared.kind.Kind.{Kind}
use Rattle.rows.specs.declared.record.Record.{Record}
use Rattle.rows.specs.declared.row.Row.{Row}
use Rattle.rows.specs.Order.{Laws}
use Rattle.rows.specs.Sides.{is_right, streamed_of, buffered_of, oriented, is_outer, is_full}
use Rattle.merge.specs.Joined.{Asks, passes, joined}
use Rattle.merge.specs.Runs.{Sorted}
use Rattle.merge.specs.Path.{State, start, to_come}
use Rattle.merge.specs.Decided.{Follows}
use Rattle.merge.specs.Merging.{by_key, outset, side_records, contributed, reached, TableIsWhatBelongs, PathContributesTheTable, DecidedTurnsContributePart, TurnsAreRowsAndRuns, RecordsComeInSequence, MergingYieldsTheJoinedTable}
use Rattle.merge.proofs.Sides.{either_append, either_follows}
use Rattle.merge.proofs.Joined.{passes_same, joined_only, joined_has, joined_distinct}
use Rattle.merge.proofs.Steps.{path_keeps}
use Rattle.merge.proofs.Counts.{turns_are, rows_are, runs_are, runs_none, ends, path_finishes}
use Rattle.merge.proofs.Prefixes.{path_alike}
use Rattle.merge.proofs.Distincts.{distinct_front, distinct_perm}
use Rattle.merge.proofs.Shuffles.{shuffled_from_perm, all_have}
use Rattle.merge.proofs.Sequence.{path_in_sequence}

-- rows that compare by their keys keep the laws that the keys keep
pub by_key_laws : {K : Type 0} (within across : K → K → Ordering) → Laws within across → Laws {K = Row K} (by_key within) (by_key across)
by_key_laws within across laws = record {
  turns_round = λ a b. laws.turns_round a.key b.key;
  passes_on = λ a b c. laws.passes_on a.key b.key c.key;
  rises_streamed = λ a a' b. laws.rises_streamed a.key a'.key b.key;
  falls_buffered = λ a b b'. laws.falls_buffered a.key b.key b'.key;
  same_is_same = λ a b. laws.same_is_same a.key b.key;
}

module _ {K : Type 0} (within across : K → K → Ordering) (laws : Laws within across) (filter : Option Asks) (kind : Kind) where
  abbrev sorted : List (Row K) → Type 0
  sorted = Sorted (by_key within)

  belongs : (lefts rights : List (Row K)) → TableIsWhatBelongs within across filter kind lefts rights
  belongs lefts rights = record { only = joined_only across filter kind lefts rights; every = joined_has across filter kind lefts rights; once = joined_distinct across filter kind lefts rights }

  contributes : (lefts rights : List (Row K)) → PathContributesTheTable within across filter kind lefts rights
  contributes lefts rights h k =
      shuffled_from_perm (Permᴰ.map (oriented kind) (path_finishes (by_key within) (by_key across) (passes kind across filter) (is_outer kind) (is_full kind) (by_key_laws within across laws) (passes_same across filter kind) _ (outset within across filter kind lefts rights)
      (cond_both (is_right kind) rights lefts sorted (λ _. k) (λ _. h), cond_both (is_right kind) lefts rights sorted (λ _. h) (λ _. k)) (le_refl _)))

  part : DecidedTurnsContributePart within across filter kind
  part ended_left ended_right n lefts rights more_lefts more_rights d fl fr h k =
      let e = either_append (is_right kind) rights more_rights lefts more_lefts in
      let f = either_append (is_right kind) lefts more_lefts rights more_rights in
      let s : List (Row K) = streamed_of kind lefts rights in
      let b : List (Row K) = buffered_of kind lefts rights in
      let alike = path_alike (by_key within) (by_key across) (streamed_of kind ended_left ended_right) (buffered_of kind ended_left ended_right) (passes kind across filter) (is_outer kind) (is_full kind) (streamed_of kind more_lefts more_rights) (buffered_of kind more_lefts more_rights)
      (either_follows Follows (is_right kind) ended_right ended_left more_rights more_lefts fr fl) (either_follows Follows (is_right kind) ended_left ended_right more_lefts more_rights fl fr) n (start s b) d in
      let same : side_records within across filter kind n (lefts ++ more_lefts) (rights ++ more_rights) ≡ side_records within across filter kind n lefts rights = rw (e, f) alike in
      let keeps = path_keeps (by_key within) (by_key across) (passes kind across filter) (by_key_laws within across laws) (passes_same across filter kind) (is_outer kind) (is_full kind) n (outset within across filter kind (lefts ++ more_lefts) (rights ++ more_rights))
      (cond_both (is_right kind) (rights ++ more_rights) (lefts ++ more_lefts) sorted (λ _. k) (λ _. h), cond_both (is_right kind) (lefts ++ more_lefts) (rights ++ more_rights) sorted (λ _. h) (λ _. k)) in
      let later : List Record = to_come (passes kind across filter) (is_outer kind) (is_full kind) (reached within across filter kind n (lefts ++ more_lefts) (rights ++ more_rights)) in
      let whole : Permᴰ (contributed within across filter kind n lefts rights ++ map (oriented kind) later) (joined kind across filter (lefts ++ more_lefts) (rights ++ more_rights))
      = rw (← map-append (oriented kind) (side_records within across filter kind n lefts rights) later) (Permᴰ.map (oriented kind) (rw same at keeps)) in
      record {
        belong = all_have _ _ _ whole;
        once = distinct_front _ _ (distinct_perm (Permᴰ.symm whole) (joined_distinct across filter kind (lefts ++ more_lefts) (rights ++ more_rights)));
        rest = map (oriented kind) later;
        complete = shuffled_from_perm whole;
        same_turns = ap (map (oriented kind)) same;
      }

  counts : (n : ℕ) (lefts rights : List (Row K)) → TurnsAreRowsAndRuns within across filter kind n lefts rights
  counts n lefts rights =
      let t : State (Row K) = outset within across filter kind lefts rights in
      let turns' = turns_are (by_key within) (by_key across) (passes kind across filter) (is_outer kind) (is_full kind) n t in
      let rows' = rows_are (by_key within) (by_key across) (passes kind across filter) (is_outer kind) (is_full kind) n t in
      let runs' = runs_are (by_key within) (by_key across) (passes kind across filter) (is_outer kind) (is_full kind) n t in
      record {
        turns = turns';
        rows_passed = rows';
        runs_passed = runs';
        at_end = λ h.
            let e = ends (by_key within) (by_key across) (passes kind across filter) (is_outer kind) (is_full kind) n t h in
            (omega arith, nil_from_length _ (omega arith), runs_none (by_key within) _ (omega arith));
      }

  sequence : (n : ℕ) (lefts rights : List (Row K)) → RecordsComeInSequence within across filter kind n lefts rights
  sequence n lefts rights e = rw e (path_in_sequence (by_key within) (by_key across) (passes kind across filter) (is_outer kind) n (outset within across filter kind lefts rights))

  pub merging_yields : MergingYieldsTheJoinedTable within across filter kind
  merging_yields = record {
    a_record_is_in_the_table_exactly_when_it_belongs = belongs;
    the_path_contributes_the_joined_table = contributes;
    decided_turns_contribute_part_of_every_longer_table = part;
    turns_are_rows_passed_plus_runs_passed = counts;
    outside_full_joins_records_come_in_sequence = sequence;
  }
