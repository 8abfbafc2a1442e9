use Rattle.std.proofs.Common.{◌*◌, ◌^◌, ◌<◌, refl, arith, rules}
use Rattle.std.proofs.lemmas.Nat.{mul-lt}
use Rattle.system.specs.Hidden.{raised}
use Rattle.system.specs.Laws.{raised_below}
use Rattle.system.proofs.arithmetic.raise.Goals as goal

pub overflow_add-result : goal.overflow_add-result
unfolding raised
overflow_add-result c =
    let filled =
    raised_below c.args.base c.args.factor c.args.small.modulus.n c.args.inverse c.args.residue
    c.requires.digits.0 (omega arith) in
    let room : c.args.factor * c.args.small.modulus.n < 2 ^ 40 * 2 ^ 20 =
    mul-lt c.args.factor c.args.small.modulus.n (2 ^ 40) (2 ^ 20) c.requires.fits (omega (arith, c.args.small.most)) in
    search rules

pub returns : goal.returns
unfolding raised
returns c =
    record {
      value = refl;
      below =
          raised_below c.args.base c.args.factor c.args.small.modulus.n c.args.inverse c.args.residue
          c.requires.digits.0 (omega arith);
    }
