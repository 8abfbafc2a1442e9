use Rattle.std.proofs.Common.{ap, ◌∙◌}
use Rattle.integers.specs.Residue.{centred}
use Rattle.integers.proofs.Residues.{centred_only}
use Rattle.scheme.proofs.sealing.sealed_opens.Goals as goal

pub returns : goal.returns
returns g c = λ s k m word x h. ap (λ r. centred r s.modulus) h.hidden ∙ centred_only m s.modulus k.odd h.within
