use Rattle.std.proofs.Common.{◌≡◌, ◌*◌, ◌/◌, ap}
use Rattle.integers.specs.Complex.{◌⊗◌}
use Rattle.circle.specs.Twiddle.{twiddle}
use Rattle.stages.proofs.Carrying.{stands_as, carried_product}
use Rattle.stages.proofs.direct.Line.product.Goals as goal

pub returns-clause-value : goal.returns-clause-value
returns-clause-value g c =
    let m = g.S.Scheme.meaning c.args.s.now in
    let sound = g.met.S.Scheme.sound c.args.s.now in
    let r = c.product.result in
    let w = c.twiddle-factor.result in
    let u = c.args.n * c.args.self.k * (256 / c.args.self.size) in
    let e : w ≡ twiddle c.args.self.scale u = c.twiddle-factor.ensures.value in
    λ v z h. stands_as m sound v (w ⊗ z) (twiddle c.args.self.scale u ⊗ z) r (ap (λ x. x ⊗ z) e) (carried_product m sound w c.args.sample r c.product.ensures.value v z h)
