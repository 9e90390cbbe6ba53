use Rattle.std.proofs.Common.{◌+◌, ◌-◌, length, refl, arith}
use Rattle.pipeline.proofs.Moves.{brought_oldest}
use Rattle.pipeline.proofs.noted.bring_oldest.Goals as goal

pub returns : goal.returns
returns c =
    let b = c.args.block.now in
    let f = c.args.frozen in
    let n = c.args.noted in
    let m = c.args.count in
    let both = brought_oldest b f n m (omega arith) (omega arith) c.copy_within.new.self _ _ c.copy_within-2.new.self c.reverse.new.self c.reverse-2.new.self
    (length b - (length b - n)) (f + n - f) (f + n - (f + m)) (f + n - (f + m)) (omega arith) (omega arith) (omega arith) (omega arith)
    c.copy_within.ensures.after c.reverse.ensures.after refl c.reverse-2.ensures.after refl c.copy_within-2.ensures.after in
    record { front = both.0; back = both.1 }
