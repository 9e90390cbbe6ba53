use Rattle.law.proofs.Holds.{lawful}
use Rattle.law.proofs.law_of_runs_stands.Goals as goal

pub returns : goal.returns
returns g c = λ s laws fair sl sc bl bc v. lawful s laws sl sc bl bc v fair
