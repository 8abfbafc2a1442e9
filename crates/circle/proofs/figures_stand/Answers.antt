use Rattle.circle.proofs.Figures.{figures}
use Rattle.circle.proofs.figures_stand.Goals as goal

pub returns : goal.returns
returns c = figures
