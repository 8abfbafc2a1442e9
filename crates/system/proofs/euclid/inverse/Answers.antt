use Rattle.std.proofs.Common.{sym, subst, arith}
use Rattle.system.specs.Moduli.{Inverse}
use Rattle.system.proofs.Bezout.{begins, turns, answers}
use Rattle.system.proofs.euclid.inverse.Goals as goal

pub loop-next-init : goal.loop-next-init
loop-next-init c = begins c.args.number.modulus.n c.args.small.modulus.n (omega (arith, c.args.small.modulus.least))

pub loop-next-preserved : goal.loop-next-preserved
loop-next-preserved c = turns _ _ _ _ _ _ c.loop-next.invariant (omega arith)

pub returns : goal.returns
returns c =
    subst (λ o. Inverse c.args.number.modulus.n c.args.small.modulus.n o) (sym c.then_some.ensures)
    (answers _ _ _ _ _ _ (omega (arith, c.args.small.modulus.least)) c.loop-next.invariant c.loop-next-test.false)
