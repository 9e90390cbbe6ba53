use Rattle.std.proofs.Common.{List, ap, sym, ◌∙◌, vec_items}
use Rattle.rows.specs.declared.record.Record.{Record}
use Rattle.rows.specs.Sides.{streamed_side, buffered_side, is_outer, is_full}
use Rattle.merge.specs.Joined.{filter_of, passes, pair_passes}
use Rattle.merge.specs.Nested.{lone_of}
use Rattle.merge.proofs.Loops.{added_if, added_unless}
use Rattle.merge.proofs.Parts.{table_in_parts, added_parts}
use Rattle.merge.proofs.nested_loops.joined_table.Goals as goal
use Rattle.merge.proofs.nested_loops.joined_table.Goals.{then-lists_streamed+in_ok-add_lone, else-lists_streamed, then-lists_buffered+in_ok-add_lone-2, else-lists_buffered}

pub returns-clause-table : goal.returns-clause-table
returns-clause-table g c =
    let passing = pair_passes c.args.kind (g.O.KeyOrder.across c.args.order.now) (filter_of g.F.Filter.says c.args.filter.now) in
    let streamed : List Record = lone_of passing c.args.left.now c.args.right.now (streamed_side c.args.kind) in
    let buffered : List Record = lone_of passing c.args.left.now c.args.right.now (buffered_side c.args.kind) in
    added_parts (is_outer c.args.kind) (is_full c.args.kind) _ streamed buffered (vec_items c.add_pairs.new.table) (vec_items c.if-lists_streamed.table) _ (rw c.new-table.ensures.items at c.in_ok-add_pairs.ensures)
    (elim c.if-lists_streamed.branch [
      | then-lists_streamed+in_ok-add_lone w ↦ added_if _ streamed _ _ w.if-lists_streamed.ensures (ap vec_items w.table-is ∙ rw w.streamed_side.ensures at w.in_ok-add_lone.ensures)
      | else-lists_streamed w ↦ added_unless _ streamed _ _ w.if-lists_streamed.ensures (ap vec_items w.table-is)
    ])
    (elim c.if-lists_buffered.branch [
      | then-lists_buffered+in_ok-add_lone-2 w ↦ added_if _ buffered _ _ w.if-lists_buffered.ensures (ap vec_items w.table-is ∙ rw w.buffered_side.ensures at w.in_ok-add_lone-2.ensures)
      | else-lists_buffered w ↦ added_unless _ buffered _ _ w.if-lists_buffered.ensures (ap vec_items w.table-is)
    ])
    ∙ sym (table_in_parts c.args.kind (passes c.args.kind (g.O.KeyOrder.across c.args.order.now) (filter_of g.F.Filter.says c.args.filter.now)) c.args.left.now c.args.right.now)
