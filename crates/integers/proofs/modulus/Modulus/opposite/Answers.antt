use Rattle.std.proofs.Common.{◌<◌, mod-lt, arith}
use Rattle.integers.proofs.Residues.{lack_cancels}
use Rattle.integers.proofs.modulus.Modulus.opposite.Goals as goal

pub returns : goal.returns
returns c =
    let z : 0 < c.args.self.n = omega arith in
    record { below = search mod-lt; cancels = search lack_cancels }
