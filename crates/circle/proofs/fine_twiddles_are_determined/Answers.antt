use Rattle.circle.proofs.Fine.{determined}
use Rattle.circle.proofs.fine_twiddles_are_determined.Goals as goal

pub returns : goal.returns
returns c = determined
