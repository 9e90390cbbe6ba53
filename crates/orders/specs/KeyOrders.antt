-- The orders of the two kinds of key, from their choices.
use Rattle.std.specs.declared.cmp.Ordering.{Ordering}
use Rattle.orders.specs.declared.choices.Choices.{Choices}
use Rattle.orders.specs.declared.choices.Direction.{Direction}
use Rattle.rows.specs.declared.key.FrameKey.{FrameKey}
use Rattle.rows.specs.declared.key.LabelKey.{LabelKey}
use Rattle.orders.specs.Values.{by_size, by_bytes}
use Rattle.orders.specs.Choices.{directed, column_within, column_across}
use Rattle.orders.specs.Chain.{chained}

-- the node, which is never missing
abbrev pub by_node : Direction → FrameKey → FrameKey → Ordering
by_node direction a b = directed direction (by_size a.node b.node)

-- a frame key: the node and, at same, the frame number
abbrev pub frame_within : Direction → Choices → FrameKey → FrameKey → Ordering
frame_within node number = chained (by_node node) (λ a b. column_within number by_size a.number b.number)

abbrev pub frame_across : Direction → Choices → FrameKey → FrameKey → Ordering
frame_across node number = chained (by_node node) (λ a b. column_across number by_size a.number b.number)

-- a label key: the label, as unsigned bytes
abbrev pub label_within : Choices → LabelKey → LabelKey → Ordering
label_within choices a b = column_within choices by_bytes a.label b.label

abbrev pub label_across : Choices → LabelKey → LabelKey → Ordering
label_across choices a b = column_across choices by_bytes a.label b.label
