use Rattle.integers.proofs.Residues.{sum_of_remainders}
use Rattle.integers.proofs.modulus.Modulus.sum.Goals as goal

pub returns : goal.returns
returns c = search sum_of_remainders
