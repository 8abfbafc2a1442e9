use Rattle.lines.proofs.Bounds.{lines_meant}
use Rattle.lines.proofs.lines_are_meant.Goals as goal

pub returns : goal.returns
returns c = lines_meant
