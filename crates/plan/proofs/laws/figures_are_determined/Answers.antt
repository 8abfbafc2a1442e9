use Rattle.plan.proofs.Rules.{one_meaning}
use Rattle.plan.proofs.laws.figures_are_determined.Goals as goal

pub returns : goal.returns
returns c = one_meaning
