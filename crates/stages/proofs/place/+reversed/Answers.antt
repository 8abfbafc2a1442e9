use Rattle.std.proofs.Common.{arith}
use Rattle.stages.proofs.Reversal.{no_digits, one_digit}
use Rattle.stages.proofs.place.+reversed.Goals as goal

pub returns-then-size-le1-clause-value : goal.returns-then-size-le1-clause-value
returns-then-size-le1-clause-value t c = λ u e. no_digits c.args.radix c.args.size c.args.n u c.requires (omega arith) e

pub returns-clause-value : goal.returns-clause-value
returns-clause-value t c = λ u e. one_digit c.args.radix c.args.size c.args.n u c.reversed.result c.requires (omega arith) e c.reversed.ensures.value
