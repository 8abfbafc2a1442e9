use Rattle.runs.proofs.Guards.{reaches}
use Rattle.runs.proofs.histories_are_reached.Goals as goal

pub returns : goal.returns
returns g c = reaches g.row.N.Denot
