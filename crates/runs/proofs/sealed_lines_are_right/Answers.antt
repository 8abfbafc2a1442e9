use Rattle.runs.proofs.Guards.{sealed_lines}
use Rattle.runs.proofs.sealed_lines_are_right.Goals as goal

pub returns : goal.returns
returns g c = sealed_lines g.row.N.Denot
