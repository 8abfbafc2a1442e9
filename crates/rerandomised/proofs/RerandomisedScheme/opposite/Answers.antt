use Rattle.std.proofs.Common.{refl}
use Rattle.rerandomised.proofs.Remainders.{opposite_number}
use Rattle.rerandomised.proofs.RerandomisedScheme.opposite.Goals as goal

pub returns : goal.returns
returns c = record { value = λ w. opposite_number c.args.self.now.modulus.n c.args.a c.opposite.result c.opposite.ensures.below c.opposite.ensures.cancels; frame = refl }
