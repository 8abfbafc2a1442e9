use Rattle.plan.proofs.Worked.{worked_figures}
use Rattle.plan.proofs.laws.worked_figures_stand.Goals as goal

pub returns : goal.returns
returns c = worked_figures
