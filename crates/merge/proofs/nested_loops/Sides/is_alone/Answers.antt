use Rattle.std.proofs.Common.{true, false, not, ap, ◌∙◌, rules}
use borrow.Author.Tests.{tests}
use Rattle.std.proofs.lemmas.Iterator.{YieldsList-from_slice}
use Rattle.std.proofs.lemmas.Iterator.Search.{any_from_yields_List}
use Rattle.rows.specs.declared.row.Row.{Row}
use Rattle.merge.specs.Nested.{passing_sides}
use Rattle.merge.proofs.Sides.{alone_by_role}
use Rattle.merge.proofs.nested_loops.Sides.is_alone.Goals as goal

pub returns-then-eq : goal.returns-then-eq
returns-then-eq g c =
    ap not (any_from_yields_List (passing_sides c.args.self.now c.args.row.now) _ _ _ c.any.ensures.ran (YieldsList-from_slice _ cc) (λ y b q k. search (rules, tests)))
    ∙ alone_by_role c.args.self.now.kind (passing_sides c.args.self.now) c.args.self.now.left.now c.args.self.now.right.now c.args.row.now c.args.side true (rw c.streamed_side.ensures at c.if-eq.ensures)

pub returns-else-eq : goal.returns-else-eq
returns-else-eq g c =
    ap not (any_from_yields_List (λ (x : Row _). passing_sides c.args.self.now x c.args.row.now) _ _ _ c.any-else-eq.ensures.ran (YieldsList-from_slice _ cc) (λ x b q k. search (rules, tests)))
    ∙ alone_by_role c.args.self.now.kind (passing_sides c.args.self.now) c.args.self.now.left.now c.args.self.now.right.now c.args.row.now c.args.side false (rw c.streamed_side.ensures at c.if-eq.ensures)
