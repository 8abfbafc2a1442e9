use Rattle.command.proofs.Splitting.{one_split}
use Rattle.command.proofs.input.input_lines_are_determined.Goals as goal

pub returns : goal.returns
returns c = one_split
