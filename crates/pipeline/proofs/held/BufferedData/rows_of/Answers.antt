use Rattle.std.proofs.Common.{take, ◌∙◌, rules, arith}
use borrow.Author.Tests.{tests}
use Rattle.std.proofs.lemmas.Iterator.{YieldsList-from_slice, YieldsList-from_map}
use Rattle.std.proofs.lemmas.Iterator.Consumers.{sum_by_from_yields_List, fits_by_from_yields_list}
use Rattle.pipeline.specs.declared.batch.BufferedBatch.{BufferedBatch}
use Rattle.pipeline.proofs.Ranges.{rows_of_split, rows_of_least}
use Rattle.pipeline.proofs.held.BufferedData.rows_of.Goals as goal

pub sum-requires-clause-fits : goal.sum-requires-clause-fits
sum-requires-clause-fits c =
    let s = c.args.self.now in
    let first = take c.min.result s.batches in
    let is = rows_of_least s c.args.k c.min.result c.min.ensures in
    let split = rows_of_split c.args.k (take s.count s.batches) in
    fits_by_from_yields_list (λ (b : BufferedBatch). b.rows) first c.map.result _
    (YieldsList-from_map _ (λ (b : BufferedBatch). b.rows) (YieldsList-from_slice first cc) c.map.ensures.closure (λ x r q k. search (rules, tests)))
    (omega (arith, is, split, s.together, s.places))

pub returns : goal.returns
returns c =
    let s = c.args.self.now in
    let first = take c.min.result s.batches in
    sum_by_from_yields_List (λ (b : BufferedBatch). b.rows) first c.map.result _ c.sum.ensures.ran
    (YieldsList-from_map _ (λ (b : BufferedBatch). b.rows) (YieldsList-from_slice first cc) c.map.ensures.closure (λ x r q k. search (rules, tests)))
    ∙ rows_of_least s c.args.k c.min.result c.min.ensures
