use Rattle.right.proofs.Right.{opened_right}
use Rattle.right.proofs.opened_lines_are_right.Goals as goal

pub returns : goal.returns
returns g c = opened_right _
