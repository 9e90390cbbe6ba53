use Rattle.std.proofs.Common.{◌+◌, take, ap, ◌∙◌, arith}
use Rattle.std.proofs.lemmas.List.{length-set, take_more_set}
use Rattle.pipeline.specs.declared.batch.BufferedBatch.{BufferedBatch}
use Rattle.pipeline.specs.Batches.{rows_of}
use Rattle.pipeline.proofs.Ranges.{rows_of_push}
use Rattle.pipeline.proofs.held.BufferedData.push.Goals as goal

pub invariant_of-self : goal.invariant_of-self
invariant_of-self c =
    let s = c.args.self.now in
    let more = take_more_set s.batches s.count c.new.result (omega arith) in record {
      room = length-set s.batches _ _ ∙ s.room;
      few = omega arith;
      run = s.run;
      within = omega arith;
      places = omega arith;
      together = ap rows_of more ∙ rows_of_push (take s.count s.batches) c.new.result ∙ ap (λ n. n + c.new.result.rows) s.together ∙ ap (λ (b : BufferedBatch). s.held + b.rows) c.new.ensures;
    }
