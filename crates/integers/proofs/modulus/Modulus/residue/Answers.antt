use Rattle.std.proofs.Common.{◌^◌, ◌<◌, arith, w64, SFits}
use Rattle.integers.proofs.Residues.{residue_read}
use Rattle.integers.proofs.modulus.Modulus.residue.Goals as goal

pub returns : goal.returns
returns c =
    let f : SFits w64 c.rem_euclid.result = record { sfits = c.rem_euclid.type_inv } in
    let n : c.args.self.n < 2 ^ 63 = omega arith in
    search residue_read
