use Rattle.std.proofs.Common.{◌≡◌, ◌-◌, length, take, drop, ap, ◌∙◌, arith, length-take-le}
use Rattle.pipeline.specs.Batches.{rows_of}
use Rattle.pipeline.specs.Held.{holding}
use Rattle.pipeline.proofs.Fronts.{moved_to_front}
use Rattle.pipeline.proofs.Ranges.{with_rows_gone, can_dequeue_yes, rows_behind}
use Rattle.pipeline.proofs.held.BufferedData.dequeue.Goals as goal

pub invariant_of-self : goal.invariant_of-self
invariant_of-self c =
    let s = c.args.self.now in
    let left : take (s.count - c.args.k) c.copy_within.new.self ≡ drop c.args.k (take s.count s.batches) = moved_to_front s.batches c.copy_within.new.self c.args.k s.count (omega arith) c.copy_within.ensures.after in record {
      room = c.copy_within.ensures.len ∙ s.room;
      few = omega arith;
      run = omega arith;
      within = omega arith;
      places = omega arith;
      together = ap rows_of left ∙ rows_behind c.args.k c.rows_of-rows.result s.held (take s.count s.batches) c.rows_of-rows.ensures s.together;
    }

pub returns : goal.returns
returns c =
    let s = c.args.self.now in
    let k = c.args.k in
    let rows : c.rows_of-rows.result ≡ rows_of (take k (take s.count s.batches)) = c.rows_of-rows.ensures in
    let left : take (s.count - k) c.copy_within.new.self ≡ drop k (take s.count s.batches) = moved_to_front s.batches c.copy_within.new.self k s.count (omega arith) c.copy_within.ensures.after in
    let len : length (take s.count s.batches) ≡ s.count = length-take-le s.count s.batches (omega arith) in
    record {
      answer = can_dequeue_yes (holding s) k (omega arith) (omega arith);
      left = ap (with_rows_gone (holding s) c.rows_of-rows.result) left ∙ ap (λ r. with_rows_gone (holding s) r (drop k (take s.count s.batches))) rows;
    }
