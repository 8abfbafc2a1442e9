use Rattle.lines.proofs.Runs.{runs_exist_lem}
use Rattle.lines.proofs.runs_exist.Goals as goal

pub returns : goal.returns
returns c = runs_exist_lem
