use Rattle.std.proofs.Common.{◌≡◌, ◌<◌, false, is_some, Some, Ok, sym, refl, arith}
use Rattle.sources.specs.Meaning.{upcoming}
use Rattle.join.specs.Loads.{checked}
use Rattle.machine.specs.Machine.{let_go}
use Rattle.pipeline.specs.Block.{queued, freeze}
use Rattle.pipeline.specs.Freezing.{asking}
use Rattle.pipeline.specs.States.{states_of}
use Rattle.join.specs.Shows.{memory, setting, streamed_of}
use Rattle.join.specs.Settled.{defers, asked}
use Rattle.join.proofs.Settling.{settled_as, marked_as}
use Rattle.join.proofs.Fetching.{checked_fits, fetch_stops, fetch_froze, fetch_used, read_is}
use Rattle.join.proofs.state.Join.fetch.Goals as goal

pub returns-in-Err : goal.returns-in-Err
returns-in-Err g c =
    let o = c.args.order.now in
    let f = c.args.filter.now in
    let j = c.args.self.now in
    let sl = g.S.Source.batches c.args.source.now in
    let sc = g.S.Source.closing c.args.source.now in
    record {
      does = λ bl bc bt.
          let m = memory sl sc bl bc c.args.table.now bt c.args.block.now in
          fetch_stops (setting j.limits (g.O.KeyOrder.within o) (g.O.KeyOrder.across o) (asking g.F.Filter.says f) (is_some f)) j c.args.first m c.read-read.result c.requires.phase c.requires.table c.read-read.ensures
          c.in-Err.fault c.streamed_side-side.result c.on.result c.stop.result _
          c.in-Err.ensures c.streamed_side-side.ensures c.on.ensures c.stop.ensures.says (c.stop.ensures.does m);
      limits = c.stop.ensures.limits;
    }

pub returns-then-self-gt0 : goal.returns-then-self-gt0
returns-then-self-gt0 g c =
    let o = c.args.order.now in
    let f = c.args.filter.now in
    let j = c.args.self.now in
    let sl = g.S.Source.batches c.args.source.now in
    let sc = g.S.Source.closing c.args.source.now in
    let n = c.in-Ok-Some.n in
    let some : 0 < n = omega (arith, c.in-Ok-Some.n-test) in
    let told = c.in-Ok-Some.ensures in
    let says : Ok (Some n) ≡ checked (upcoming sl sc) c.read-read.result false j.limits.streamed = cc in
    record {
      does = λ bl bc bt.
          fetch_froze (setting j.limits (g.O.KeyOrder.within o) (g.O.KeyOrder.across o) (asking g.F.Filter.says f) (is_some f)) j c.args.first (memory sl sc bl bc c.args.table.now bt c.args.block.now) c.read-read.result c.requires.phase c.requires.table c.read-read.ensures
          n (states_of c.freeze_unfrozen.new.states) (queued c.freeze_unfrozen.new.queue c.freeze_unfrozen.new.block)
          says some c.if-self-gt0.true c.requires.ready.block_length
          (marked_as g.F.Filter.says c.judge-judge.ensures c.freeze_unfrozen.ensures.states).marks (settled_as g.F.Filter.says c.judge-judge.ensures (λ judge q. let_go (defers judge) (freeze (asked g.F.Filter.says judge) q)) c.freeze_unfrozen.ensures.queue).holds;
      limits = refl;
    }

pub returns : goal.returns
returns g c =
    let o = c.args.order.now in
    let f = c.args.filter.now in
    let j = c.args.self.now in
    let sl = g.S.Source.batches c.args.source.now in
    let sc = g.S.Source.closing c.args.source.now in
    let sl' = g.S.Source.batches c.take-2.new.self in
    let sc' = g.S.Source.closing c.take-2.new.self in
    let table' = c.take-2.new.memory in
    let block = c.args.block.now in
    let n = c.in-Ok-Some.n in
    let some : 0 < n = omega (arith, c.in-Ok-Some.n-test) in
    let told = c.in-Ok-Some.ensures in
    let says : Ok (Some n) ≡ checked (upcoming sl sc) c.read-read.result false j.limits.streamed = cc in
    record {
      does = λ bl bc bt.
          let m = memory sl sc bl bc c.args.table.now bt block in
          fetch_used (setting j.limits (g.O.KeyOrder.within o) (g.O.KeyOrder.across o) (asking g.F.Filter.says f) (is_some f)) j c.args.first m c.read-read.result c.requires.phase c.requires.table c.read-read.ensures
          n sl' sc' table' c.use_streamed.result _
          says some (omega (arith, c.if-self-gt0.false)) (omega (arith, checked_fits (upcoming sl sc) c.read-read.result j.limits.streamed n says, c.requires.table)) c.take-2.ensures.left c.take-2.ensures.memory
          (c.use_streamed.ensures.does (setting j.limits (g.O.KeyOrder.within o) (g.O.KeyOrder.across o) (asking g.F.Filter.says f) (is_some f)) (memory sl' sc' bl bc table' bt block) (streamed_of j m) refl refl
          (record {
            closing_same = sym c.take-2.ensures.closes;
            read_same = read_is (setting j.limits (g.O.KeyOrder.within o) (g.O.KeyOrder.across o) (asking g.F.Filter.says f) (is_some f)) j c.args.first m c.read-read.result c.requires.phase c.requires.table c.read-read.ensures;
            last_same = refl;
          }));
      limits = c.use_streamed.ensures.limits;
    }
