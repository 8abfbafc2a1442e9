use Rattle.lines.proofs.Bounds.{lines_bounded}
use Rattle.lines.proofs.lines_are_bounded.Goals as goal

pub returns : goal.returns
returns c = lines_bounded
