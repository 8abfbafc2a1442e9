use Rattle.runs.proofs.Guards.{one_wrong}
use Rattle.runs.proofs.a_wrong_line_is_not_right.Goals as goal

pub returns : goal.returns
returns c = one_wrong
