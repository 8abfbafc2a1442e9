use Rattle.std.proofs.Common.{◌%◌, mod-lt, arith, rules}
use borrow.Author.Differences.{ints}
use Rattle.integers.proofs.Residues.{centred_low, centred_high}
use Rattle.integers.proofs.modulus.Modulus.centred.Goals as goal

pub returns-then-r-half : goal.returns-then-r-half
returns-then-r-half c =
    rw (centred_low (c.args.r % c.args.self.n) c.args.self.n (search rules)) (omega (arith, ints, mod-lt c.args.r {m = c.args.self.n} (search rules)))

pub returns-else-r-half : goal.returns-else-r-half
returns-else-r-half c =
    rw (centred_high (c.args.r % c.args.self.n) c.args.self.n (search rules)) (omega (arith, ints, mod-lt c.args.r {m = c.args.self.n} (search rules)))
