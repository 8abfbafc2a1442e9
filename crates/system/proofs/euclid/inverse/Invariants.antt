use Rattle.system.proofs.Bezout.{Going}
use Rattle.system.proofs.euclid.inverse.Given as goal

abbrev pub invariant-loop-next : goal.invariant-loop-next
invariant-loop-next l = Going l.fn.number.modulus.n l.fn.small.modulus.n l.row.rest l.next.rest l.row.factor l.next.factor

abbrev pub decreases-loop-next : goal.decreases-loop-next
decreases-loop-next l = l.next.rest
