use Rattle.std.proofs.Common.{refl, arith}
use Rattle.rerandomised.proofs.Remainders.{sum_number, sum_number_above}
use Rattle.rerandomised.proofs.RerandomisedScheme.sum.Goals as goal

pub returns-then-self-eq0 : goal.returns-then-self-eq0
returns-then-self-eq0 c = record { value = λ p q. sum_number c.args.self.now.modulus.n c.args.a c.args.b c.sum-sum.result (omega arith) c.sum-sum.ensures; frame = refl }

pub returns-else-self-eq0 : goal.returns-else-self-eq0
returns-else-self-eq0 c = record { value = λ p q. sum_number_above c.args.self.now.modulus.n c.args.a c.args.b c.sum-sum.result (omega arith) c.sum-sum.ensures; frame = refl }
