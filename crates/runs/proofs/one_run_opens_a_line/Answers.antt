use Rattle.runs.proofs.Guards.{one_run}
use Rattle.runs.proofs.one_run_opens_a_line.Goals as goal

pub returns : goal.returns
returns c = one_run
