use Rattle.lines.proofs.Rules.{one_transform}
use Rattle.lines.proofs.lines_are_determined.Goals as goal

pub returns : goal.returns
returns c = one_transform
