-- The records of streamed and buffered places, and their places.
use Rattle.std.specs.Prelude.{ℕ}
use Rattle.rows.specs.declared.kind.Kind.{Kind}
use Rattle.rows.specs.declared.record.Record.{Record}
use Rattle.rows.specs.declared.record.Record.TheVariants.{Pair, LeftAlone, RightAlone}
use Rattle.rows.specs.Sides.{streamed_of, buffered_of, left_of, right_of, streamed_side, buffered_side, alone_on}

-- the record of a streamed and a buffered place
abbrev pub paired : Kind → ℕ → ℕ → Record
paired kind s b = Pair (left_of kind s b) (right_of kind s b)

-- the record of a streamed row, and of a buffered row, alone
abbrev pub streamed_alone : Kind → ℕ → Record
streamed_alone kind s = alone_on (streamed_side kind) s

abbrev pub buffered_alone : Kind → ℕ → Record
buffered_alone kind b = alone_on (buffered_side kind) b

-- what is left of a pair when it fails: its streamed row alone; a lone row stays
abbrev pub without_partner : Kind → Record → Record
without_partner kind (Pair l r) = streamed_alone kind (streamed_of kind l r)
without_partner kind (LeftAlone l) = LeftAlone l
without_partner kind (RightAlone r) = RightAlone r

-- the place of a pair's buffered row; of a lone row its place
abbrev pub buffered_place : Kind → Record → ℕ
buffered_place kind (Pair l r) = buffered_of kind l r
buffered_place kind (LeftAlone l) = l
buffered_place kind (RightAlone r) = r
