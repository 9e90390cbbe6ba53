use Rattle.std.proofs.Common.{◌≡◌, ◌≤◌, refl, ap, arith}
use Rattle.pipeline.specs.Held.{Holding, holding, matching}
use Rattle.join.proofs.Writing.{Scanned, scan_long, scan_left, scan_room, scan_ends, scan_goes_on}
use Rattle.join.proofs.state.Join.write_pairs.Goals as goal

pub returns-then-stop-eq0 : goal.returns-then-stop-eq0
returns-then-stop-eq0 g c =
    let j = c.args.self.now in
    let k = c.pair_into-stop.result.count in
    let w : Scanned j c.args.pairs c.args.streamed.now c.args.buffered.now c.args.block.now c.pair_into-stop.new.out c.min-most.result k c.index-streamed-at.result = record {
      phase = c.requires.phase;
      ready = c.requires.ready;
      tables = c.requires.tables;
      within = c.if-at-self.false;
      is_row = c.index-streamed-at.is;
      is_most = c.min-most.ensures;
      count = c.pair_into-stop.ensures.count;
      written = c.pair_into-stop.ensures.written;
    } in
    let matched : holding c.mark_matched.new.self ≡ matching (holding j.buffered) = c.mark_matched.ensures in
    record {
      limits = refl;
      queue = refl;
      states = refl;
      held = ap (λ (h : Holding). h.held) matched;
      long = scan_long j c.args.pairs c.args.streamed.now c.args.buffered.now c.args.block.now c.pair_into-stop.new.out c.min-most.result k c.index-streamed-at.result w;
      few = omega arith;
      room = omega arith;
      none = λ none s kind size m. scan_ends j c.args.pairs c.args.streamed.now c.args.buffered.now c.args.block.now c.pair_into-stop.new.out c.min-most.result k c.index-streamed-at.result w s kind size m c.if-stop-eq0.true c.mark_matched.new.self matched;
      some = λ some. absurd (omega arith);
    }

pub returns : goal.returns
returns g c =
    let j = c.args.self.now in
    let k = c.pair_into-stop.result.count in
    let w : Scanned j c.args.pairs c.args.streamed.now c.args.buffered.now c.args.block.now c.pair_into-stop.new.out c.min-most.result k c.index-streamed-at.result = record {
      phase = c.requires.phase;
      ready = c.requires.ready;
      tables = c.requires.tables;
      within = c.if-at-self.false;
      is_row = c.index-streamed-at.is;
      is_most = c.min-most.ensures;
      count = c.pair_into-stop.ensures.count;
      written = c.pair_into-stop.ensures.written;
    } in
    let more : 1 ≤ k = omega (arith, c.if-stop-eq0.false) in
    record {
      limits = refl;
      queue = refl;
      states = refl;
      held = refl;
      long = scan_long j c.args.pairs c.args.streamed.now c.args.buffered.now c.args.block.now c.pair_into-stop.new.out c.min-most.result k c.index-streamed-at.result w;
      few = scan_left j c.args.pairs c.args.streamed.now c.args.buffered.now c.args.block.now c.pair_into-stop.new.out c.min-most.result k c.index-streamed-at.result w;
      room = scan_room j c.args.pairs c.args.streamed.now c.args.buffered.now c.args.block.now c.pair_into-stop.new.out c.min-most.result k c.index-streamed-at.result w;
      none = λ none. absurd (omega (arith, more, none));
      some = λ some s kind size m.
          scan_goes_on j c.args.pairs c.args.streamed.now c.args.buffered.now c.args.block.now c.pair_into-stop.new.out c.min-most.result k c.index-streamed-at.result w s kind size m some
          c.pair_into-stop.result.position.batch c.pair_into-stop.result.position.row c.pair_into-stop.ensures.left;
    }
