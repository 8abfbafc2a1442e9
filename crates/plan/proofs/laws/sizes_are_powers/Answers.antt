use Rattle.plan.proofs.Powers.{sizes_are_powers_lem}
use Rattle.plan.proofs.laws.sizes_are_powers.Goals as goal

pub returns : goal.returns
returns c = sizes_are_powers_lem
