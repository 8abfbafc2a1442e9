use Rattle.std.proofs.Common.{arith, rules}
use Rattle.system.specs.Laws.{product_odd, product_least, product_most}
use Rattle.system.proofs.residues.System.whole.Goals as goal

pub overflow_mul-result-2 : goal.overflow_mul-result-2
overflow_mul-result-2 c = let h = product_most c.args.self.now in search rules

pub invariant_of-result : goal.invariant_of-result
invariant_of-result c =
    let s = c.args.self.now in
    record { odd = product_odd s; least = product_least s; most = omega (arith, product_most s) }
