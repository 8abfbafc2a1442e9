use Rattle.runs.proofs.Guards.{sealed_within}
use Rattle.runs.proofs.sealed_samples_are_within.Goals as goal

pub returns : goal.returns
returns g c = sealed_within g.row.N.Denot
