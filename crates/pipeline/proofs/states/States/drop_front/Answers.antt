use Rattle.std.proofs.Common.{take, drop, ap, ◌∙◌, arith}
use Rattle.pipeline.proofs.Fronts.{moved_to_front, drop_most}
use Rattle.pipeline.proofs.states.States.drop_front.Goals as goal

pub returns : goal.returns
returns c =
    let s = c.args.self.now in
    moved_to_front s.cells c.copy_within.new.self c.min-gone.result s.len (omega arith) c.copy_within.ensures.after
    ∙ ap (λ k. drop k (take s.len s.cells)) c.min-gone.ensures ∙ drop_most s.cells c.args.rows s.len
