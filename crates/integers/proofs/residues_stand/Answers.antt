use Rattle.integers.proofs.Residues.{residue_is, residue_only}
use Rattle.integers.proofs.residues_stand.Goals as goal

pub returns : goal.returns
returns c = record { is = residue_is; only = residue_only }
