use Rattle.system.proofs.Owed.{one_is_hidden}
use Rattle.system.proofs.theorems.residues_hide_one_number.Goals as goal

pub returns : goal.returns
returns c = one_is_hidden
