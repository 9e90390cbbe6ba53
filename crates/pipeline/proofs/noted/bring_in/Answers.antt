use Rattle.std.proofs.Common.{◌+◌, ◌-◌, length, refl, arith}
use Rattle.pipeline.proofs.Moves.{brought_in}
use Rattle.pipeline.proofs.noted.bring_in.Goals as goal

pub returns : goal.returns
returns c =
    let b = c.args.block.now in
    let f = c.args.frozen in
    let u = c.args.unfrozen in
    let n = c.args.noted in
    brought_in b f u n c.requires c.copy_within.new.self _ _ c.reverse.new.self c.reverse-2.new.self
    (length b - (length b - n)) (f + u + n - f) (f + u + n - (f + n)) (omega arith) (omega arith) (omega arith)
    c.copy_within.ensures.after c.reverse.ensures.after refl c.reverse-2.ensures.after refl
