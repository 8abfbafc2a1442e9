use Rattle.secrecy.proofs.Guards.{secrecy_speaks}
use Rattle.secrecy.proofs.secrecy_speaks_of_runs.Goals as goal

pub returns : goal.returns
returns c = secrecy_speaks
