use Rattle.std.proofs.Common.{◌≡◌, length, take, Some, sym, ap, ◌∙◌, arith, length-take-le, get_or-take}
use Rattle.std.proofs.lemmas.Option.{slice_get_past, slice_get-get_or}
use Rattle.pipeline.specs.declared.states.FilterState.{FilterState}
use Rattle.pipeline.specs.declared.states.FilterState.TheVariants.{Unvisited}
use Rattle.pipeline.proofs.Cells.{state_at_get}
use Rattle.pipeline.proofs.states.States.get.Goals as goal

pub returns-then-i-self : goal.returns-then-i-self
returns-then-i-self c =
    let s = c.args.self.now in
    let i = c.args.i in
    let held = take s.len s.cells in
    let len : length held ≡ s.len = length-take-le s.len s.cells (omega arith) in
    ap (λ (x : FilterState). Some x) (sym (get_or-take s.len s.cells i Unvisited (omega arith)))
    ∙ sym (slice_get-get_or held i Unvisited (omega arith)) ∙ state_at_get held i

pub returns-else-i-self : goal.returns-else-i-self
returns-else-i-self c =
    let s = c.args.self.now in
    let held = take s.len s.cells in
    let len : length held ≡ s.len = length-take-le s.len s.cells (omega arith) in
    sym (slice_get_past held c.args.i (omega arith)) ∙ state_at_get held c.args.i
