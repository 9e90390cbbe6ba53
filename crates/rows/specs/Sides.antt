-- Left and right, streamed and buffered. The streamed side is the left log, in a right join the right one; the other is buffered.
use Rattle.std.specs.Prelude.{Bool, true, false, cond, ℕ}
use Rattle.rows.specs.declared.kind.Kind.{Kind}
use Rattle.rows.specs.declared.kind.Kind.TheVariants.{Inner, Left, Right, Full}
use Rattle.rows.specs.declared.kind.Side.{Side}
use Rattle.rows.specs.declared.kind.Side.TheVariants.{Left as on_left, Right as on_right}
use Rattle.rows.specs.declared.record.Record.{Record}
use Rattle.rows.specs.declared.record.Record.TheVariants.{Pair, LeftAlone, RightAlone}

abbrev pub is_right : Kind → Bool
is_right Inner = false
is_right Left = false
is_right Right = true
is_right Full = false

-- what the sides have, of what left and right have
abbrev pub streamed_of : {A : Type 0} → Kind → (left right : A) → A
streamed_of kind l r = cond (is_right kind) r l

abbrev pub buffered_of : {A : Type 0} → Kind → (left right : A) → A
buffered_of kind l r = cond (is_right kind) l r

-- what left and right have, of what the sides have
abbrev pub left_of : {A : Type 0} → Kind → (streamed buffered : A) → A
left_of kind x y = cond (is_right kind) y x

abbrev pub right_of : {A : Type 0} → Kind → (streamed buffered : A) → A
right_of kind x y = cond (is_right kind) x y

abbrev pub streamed_side : Kind → Side
streamed_side kind = cond (is_right kind) on_right on_left

abbrev pub buffered_side : Kind → Side
buffered_side kind = cond (is_right kind) on_left on_right

-- the record of a side's row alone
abbrev pub alone_on : Side → ℕ → Record
alone_on on_left place = LeftAlone place
alone_on on_right place = RightAlone place

-- the record with its sides swapped
abbrev pub flipped : Record → Record
flipped (Pair i j) = Pair j i
flipped (LeftAlone i) = RightAlone i
flipped (RightAlone j) = LeftAlone j

-- the record of the table, of one that names the streamed row as its left one
abbrev pub oriented : Kind → Record → Record
oriented kind r = cond (is_right kind) (flipped r) r

-- Streamed rows without a partner are listed in outer joins: left, right and full ones.
abbrev pub is_outer : Kind → Bool
is_outer Inner = false
is_outer Left = true
is_outer Right = true
is_outer Full = true

-- Buffered rows without a partner are listed in full joins.
abbrev pub is_full : Kind → Bool
is_full Inner = false
is_full Left = false
is_full Right = false
is_full Full = true
