use Rattle.std.proofs.Common.{Bool, is_ok, sym, refl, subst, ◌∙◌}
use Rattle.pipeline.specs.Block.{queued}
use Rattle.machine.specs.Machine.{flush}
use Rattle.join.specs.Settled.{Settled, asked}
use Rattle.join.proofs.Settling.{froze_now, idle_then, freeze_all_settles, release_settles, correct_settles, settled_then, settled_numbers, marked}
use Rattle.join.proofs.settle.flush_all.Goals as goal

pub returns-then-defers : goal.returns-then-defers
returns-then-defers g c =
    let judge = c.args.judge.now in
    let asks = asked g.F.Filter.says judge in
    let all = freeze_all_settles c.requires asks c.freeze_all.ensures.block in
    let s = settled_then all (correct_settles (idle_then c.requires c.freeze_all.ensures.block refl) all.unfrozen judge.kind c.correct.ensures) in
    record {
      queue = subst (λ (b : Bool). Settled (flush b judge.kind asks) c.args.queue.now c.args.block.now c.correct.new.self c.correct.new.block) (sym c.if-defers.true ∙ c.defers.ensures) s;
      states = marked g.F.Filter.says judge (queued c.args.queue.now c.args.block.now) c.args.states.now c.freeze_all.new.states (is_ok c.freeze_all.result) (froze_now c.requires c.freeze_all.ensures.block).answers c.freeze_all.ensures.states;
      numbers = settled_numbers s;
    }

pub returns-else-defers : goal.returns-else-defers
returns-else-defers g c =
    let judge = c.args.judge.now in
    let asks = asked g.F.Filter.says judge in
    let all = freeze_all_settles c.requires asks c.freeze_all.ensures.block in
    let s = settled_then all (release_settles (idle_then c.requires c.freeze_all.ensures.block refl) all.unfrozen c.release.ensures) in
    record {
      queue = subst (λ (b : Bool). Settled (flush b judge.kind asks) c.args.queue.now c.args.block.now c.release.new.self c.release.new.block) (sym c.if-defers.false ∙ c.defers.ensures) s;
      states = marked g.F.Filter.says judge (queued c.args.queue.now c.args.block.now) c.args.states.now c.freeze_all.new.states (is_ok c.freeze_all.result) (froze_now c.requires c.freeze_all.ensures.block).answers c.freeze_all.ensures.states;
      numbers = settled_numbers s;
    }
