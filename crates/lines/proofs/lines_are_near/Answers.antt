use Rattle.lines.proofs.Distances.{lines_near}
use Rattle.lines.proofs.lines_are_near.Goals as goal

pub returns : goal.returns
returns c = lines_near
