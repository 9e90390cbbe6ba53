-- Proofs that the orders of both kinds of key keep the laws of an order. They stand in specs/ because an order gives the proof
-- of its laws as a member; their statements say all that they do.
use Rattle.std.specs.Prelude.{Some}
use Rattle.orders.specs.declared.choices.Choices.{Choices}
use Rattle.orders.specs.declared.choices.Direction.{Direction}
use Rattle.orders.specs.declared.choices.MissingPlace.TheVariants.{Last}
use Rattle.orders.specs.declared.choices.MissingEquals.TheVariants.{Nothing}
use Rattle.rows.specs.Order.{Laws}
use Rattle.orders.specs.Values.{by_size, by_bytes}
use Rattle.orders.specs.Choices.{column_within, column_across}
use Rattle.orders.specs.KeyOrders.{by_node, frame_within, frame_across, label_within, label_across}
use Rattle.orders.specs.ValueLaws.{by_size_total, by_bytes_total}
use Rattle.orders.specs.ColumnLaws.{column_laws}
use Rattle.orders.specs.ChainLaws.{chain_laws}

node_laws : (direction : Direction) → Laws (by_node direction) (by_node direction)
node_laws direction = column_laws record { direction = direction; missing = Last; equals = Nothing } by_size (λ k. Some k.node) by_size_total

pub frame_laws : (node : Direction) (number : Choices) → Laws (frame_within node number) (frame_across node number)
frame_laws node number = chain_laws (by_node node) (by_node node) (λ a b. column_within number by_size a.number b.number) (λ a b. column_across number by_size a.number b.number) (node_laws node) (column_laws number by_size (λ k. k.number) by_size_total)

pub label_laws : (choices : Choices) → Laws (label_within choices) (label_across choices)
label_laws choices = column_laws choices by_bytes (λ k. k.label) by_bytes_total
