use Rattle.std.proofs.Common.{refl}
use Rattle.system.proofs.Owed.{pair_most}
use Rattle.system.proofs.residues.System.pair.Goals as goal

pub returns : goal.returns
returns c = record { value = refl; small = pair_most c.args.self.now }
