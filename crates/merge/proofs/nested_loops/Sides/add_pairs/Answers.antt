use Rattle.std.proofs.Common.{ℕ, [], ◌∷◌, map, vec_items, refl, ap, ◌∙◌, arith}
use Rattle.rows.specs.declared.record.Record.TheVariants.{Pair}
use Rattle.rows.specs.Sides.{oriented}
use Rattle.merge.specs.Table.{when, listed, all_pairs}
use Rattle.merge.specs.Nested.{passing_sides}
use Rattle.merge.proofs.Loops.{added_more, added_all, added_if, added_unless, pairs_more}
use Rattle.merge.proofs.nested_loops.Sides.add_pairs.Goals as goal
use Rattle.merge.proofs.nested_loops.Sides.add_pairs.Goals.{then-passes+in_ok-push, else-passes}

pub loop-j-preserved : goal.loop-j-preserved
loop-j-preserved g c =
    let name = λ (j : ℕ). oriented c.args.self.now.kind (Pair c.loop-i.i j) in
    let test = passing_sides c.args.self.now c.index-streamed-i.result in
    added_more (listed name test) (λ j y. when (test y) (name j ∷ [])) (λ _. refl) (λ _ _ _. refl) c.oriented.result.1.now c.loop-j.j (vec_items c.loop-j.table) _ c.loop-j.invariant c.index-buffered-j.result c.loop-j-test.true c.index-buffered-j.is _
    (elim c.if-passes.branch [
      | then-passes+in_ok-push w ↦ added_if _ (name c.loop-j.j ∷ []) (vec_items c.loop-j.table) _ (grind arith) (ap vec_items w.table-is ∙ grind arith)
      | else-passes w ↦ added_unless _ (name c.loop-j.j ∷ []) (vec_items c.loop-j.table) _ (grind arith) (ap vec_items w.table-is)
    ])

pub loop-i-preserved : goal.loop-i-preserved
loop-i-preserved g c =
    let f = oriented c.args.self.now.kind in
    let passes = passing_sides c.args.self.now in
    added_more (λ i s. map f (all_pairs passes i s 0 c.oriented.result.1.now)) (λ i x. listed (λ j. f (Pair i j)) (passes x) 0 c.oriented.result.1.now) (λ _. refl) (pairs_more passes f 0 c.oriented.result.1.now) c.oriented.result.0.now c.loop-i.i (vec_items c.loop-i.table) _ c.loop-i.invariant c.index-streamed-i.result c.loop-i-test.true c.index-streamed-i.is _
    (added_all (listed (λ j. f (Pair c.loop-i.i j)) (passes c.index-streamed-i.result)) (λ j y. when (passes c.index-streamed-i.result y) (f (Pair c.loop-i.i j) ∷ [])) (λ _. refl) (λ _ _ _. refl) c.oriented.result.1.now c.loop-j.j _ _ c.loop-j.invariant c.loop-j-test.false)
