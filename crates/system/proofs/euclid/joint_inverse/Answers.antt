use Rattle.std.proofs.Common.{mod-lt, arith}
use Rattle.system.proofs.Congruence.{joint_inverse_lem}
use Rattle.system.proofs.euclid.joint_inverse.Goals as goal

pub returns : goal.returns
returns c =
    record {
      below = mod-lt _ (omega (arith, c.args.small.modulus.least));
      inverts = joint_inverse_lem _ _ _ _ _ c.requires.inverts.0 c.requires.inverts.1;
    }
