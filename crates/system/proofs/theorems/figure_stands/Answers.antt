use Rattle.system.proofs.Owed.{figure}
use Rattle.system.proofs.theorems.figure_stands.Goals as goal

pub returns : goal.returns
returns c = figure
