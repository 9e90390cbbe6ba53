use Rattle.std.proofs.Common.{take, set, ap, ◌∙◌, arith}
use Rattle.pipeline.specs.declared.states.FilterState.TheVariants.{Unvisited}
use Rattle.pipeline.proofs.Cells.{mark_at_below, mark_at_past}
use Rattle.pipeline.proofs.states.States.mark.Goals as goal

pub returns-then-i-self : goal.returns-then-i-self
returns-then-i-self c =
    let s = c.args.self.now in
    ap (λ v. take s.len (set s.cells c.args.i v)) c.after.ensures ∙ mark_at_below s.cells s.len c.args.i c.args.yes Unvisited (omega arith)

pub returns-else-i-self : goal.returns-else-i-self
returns-else-i-self c =
    let s = c.args.self.now in
    mark_at_past s.cells s.len c.args.i c.args.yes (omega arith)
