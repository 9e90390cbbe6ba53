use Rattle.std.proofs.Common.{arith}
use Rattle.sources.proofs.Cuts.{first}
use Rattle.sources.proofs.memory.MemorySource.take.Goals as goal

pub returns-clause-left : goal.returns-clause-left
returns-clause-left g c =
    let f = first c.args.self.now.every c.args.self.now.rows.now c.in-Some.n c.in-Some.ensures in
    grind (arith, f.cuts, f.within)

pub returns-clause-memory : goal.returns-clause-memory
returns-clause-memory g c =
    let f = first c.args.self.now.every c.args.self.now.rows.now c.in-Some.n c.in-Some.ensures in
    grind (arith, f.cuts, f.within)
