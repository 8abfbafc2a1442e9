use Rattle.integers.proofs.Residues.{centred_within, centred_back, centred_only}
use Rattle.integers.proofs.meanings_stand.Goals as goal

pub returns : goal.returns
returns c = record { within = centred_within; back = λ r n o h. centred_back r n h; only = centred_only }
