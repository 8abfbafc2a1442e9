use Rattle.circle.proofs.Twiddles.{determined}
use Rattle.circle.proofs.twiddles_are_determined.Goals as goal

pub returns : goal.returns
returns c = determined
