-- The joined table of a left and a right log (ISO/IEC 9075-2, joined table), by kind of join. Every kind has each passing pair
-- once; left, right and full ones have each streamed row without a passing pair, alone, once; full ones also each such
-- buffered row.
use Rattle.std.specs.Prelude.{Bool, true, ◌&&◌, List, map, Some, None, Option}
use Rattle.std.specs.declared.cmp.Ordering.{Ordering}
use Rattle.rows.specs.declared.kind.Kind.{Kind}
use Rattle.rows.specs.declared.reading.Reading.{Reading}
use Rattle.rows.specs.declared.record.Record.{Record}
use Rattle.rows.specs.declared.row.Row.{Row}
use Rattle.rows.specs.Order.{is_same}
use Rattle.filters.specs.declared.filter.Verdict.{Verdict}
use Rattle.filters.specs.Verdicts.{is_yes}
use Rattle.merge.specs.Table.{table}
use Rattle.merge.specs.Members.{Belongs}
use Rattle.rows.specs.Sides.{streamed_of, buffered_of, left_of, right_of, oriented, is_outer, is_full}
use Rattle.merge.specs.Sides.{keeps_left, keeps_right}

-- what a filter says of a left and a right reading
abbrev pub Asks : Type 0
Asks = Reading → Reading → Verdict

-- what a filter, where there is one, says
abbrev pub filter_of : {F : Type 0} → (F → Asks) → Option F → Option Asks
filter_of says None = None
filter_of says (Some f) = Some (says f)

-- without a filter every pair is let through, with one those of which it says yes
abbrev pub lets_through : Option Asks → Reading → Reading → Bool
lets_through None l r = true
lets_through (Some asks) l r = is_yes (asks l r)

module _ {K : Type 0} (kind : Kind) (across : K → K → Ordering) (filter : Option Asks) where
  -- A streamed and a buffered row pass if their keys are same across and the filter lets them through.
  abbrev pub passes : (streamed buffered : Row K) → Bool
  passes x y = is_same (across x.key y.key) && lets_through filter (left_of kind x.reading y.reading) (right_of kind x.reading y.reading)

  -- the same of a left and a right row
  abbrev pub pair_passes : (left right : Row K) → Bool
  pair_passes l r = passes (streamed_of kind l r) (buffered_of kind l r)

  -- a record is in the joined table
  abbrev pub InTable : (lefts rights : List (Row K)) → Record → Type 0
  InTable = Belongs pair_passes (keeps_left kind) (keeps_right kind)

  -- the joined table as a list
  abbrev pub joined : (lefts rights : List (Row K)) → List Record
  joined lefts rights = map (oriented kind) (table passes (is_outer kind) (is_full kind) (streamed_of kind lefts rights) (buffered_of kind lefts rights))
