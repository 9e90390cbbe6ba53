-- The joined table as the nested loops build it: of the sides by left and right.
use Rattle.std.specs.Prelude.{Bool, not, List, map}
use Rattle.filters.specs.declared.filter.Filter as filters
use Rattle.rows.specs.declared.kind.Side.{Side}
use Rattle.rows.specs.declared.kind.Side.TheVariants.{Left as on_left, Right as on_right}
use Rattle.rows.specs.declared.order.KeyOrder as orders
use Rattle.rows.specs.declared.record.Record.{Record}
use Rattle.rows.specs.declared.row.Row.{Row}
use Rattle.rows.specs.Sides.{streamed_of, buffered_of, alone_on, oriented}
use Rattle.merge.specs.declared.nested_loops.Sides.{Sides}
use Rattle.merge.specs.Table.{listed, meets_buffered, meets_streamed, all_pairs}
use Rattle.merge.specs.Joined.{filter_of, passes, pair_passes}

-- the rows of a side
abbrev pub side_rows : {X : Type 0} → (lefts rights : List X) → Side → List X
side_rows lefts rights on_left = lefts
side_rows lefts rights on_right = rights

module _ {X : Type 0} (passes : X → X → Bool) (lefts rights : List X) where
  -- a row of a side passes with no row of the other side
  abbrev pub alone_among : Side → X → Bool
  alone_among on_left l = not (meets_buffered passes l rights)
  alone_among on_right r = not (meets_streamed passes lefts r)

  -- the records of a side's rows that are alone
  abbrev pub lone_of : Side → List Record
  lone_of side = listed (alone_on side) (alone_among side) 0 (side_rows lefts rights side)

module _ {O F K : Type 0} {order : orders.Ghosts O K} {filter : filters.Ghosts F} (sides : Sides O F K order filter) where
  -- a streamed and a buffered row pass
  abbrev pub passing_sides : (streamed buffered : Row K) → Bool
  passing_sides = passes sides.kind (order.across sides.order.now) (filter_of filter.says sides.filter.now)

  -- a left and a right row pass
  abbrev pub passing : (left right : Row K) → Bool
  passing = pair_passes sides.kind (order.across sides.order.now) (filter_of filter.says sides.filter.now)

  abbrev pub rows_of : Side → List (Row K)
  rows_of = side_rows sides.left.now sides.right.now

  abbrev pub is_alone : Side → Row K → Bool
  is_alone = alone_among passing sides.left.now sides.right.now

  -- the passing pairs, by streamed and then by buffered row
  abbrev pub pairs : List Record
  pairs = map (oriented sides.kind) (all_pairs passing_sides 0 (streamed_of sides.kind sides.left.now sides.right.now) 0 (buffered_of sides.kind sides.left.now sides.right.now))

  -- a side's lone rows
  abbrev pub lone : Side → List Record
  lone = lone_of passing sides.left.now sides.right.now
