use Rattle.circle.proofs.Circle.{determined}
use Rattle.circle.proofs.circle_is_determined.Goals as goal

pub returns : goal.returns
returns c = determined
