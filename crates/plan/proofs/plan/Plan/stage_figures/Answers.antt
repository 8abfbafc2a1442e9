-- Every product and the sum fit 128 bits.
use Rattle.std.proofs.Common.{◌^◌, rules}
use Rattle.std.proofs.lemmas.Nat.{mul-lt}
use Rattle.plan.proofs.Limits.{room, product_fits, sum_fits}
use Rattle.plan.proofs.plan.Plan.stage_figures.Goals as goal

pub overflow_mul-rounding : goal.overflow_mul-rounding
overflow_mul-rounding c =
    let r = room _ _ _ _ _ _ _ c.args.self.size_lawful c.args.self.sample_limited c.args.self.twiddle_limited c.requires c.growth-growth.ensures c.rounding.ensures in
    product_fits _ _ (2 ^ 76) (2 ^ 9) (search rules) (search rules) tt

pub overflow_mul-rounding-2 : goal.overflow_mul-rounding-2
overflow_mul-rounding-2 c =
    let r = room _ _ _ _ _ _ _ c.args.self.size_lawful c.args.self.sample_limited c.args.self.twiddle_limited c.requires c.growth-growth.ensures c.rounding.ensures in
    product_fits _ _ (2 ^ 85) (2 ^ 32) (mul-lt _ _ (2 ^ 76) (2 ^ 9) (search rules) (search rules)) (search rules) tt

pub overflow_mul-result : goal.overflow_mul-result
overflow_mul-result c =
    let r = room _ _ _ _ _ _ _ c.args.self.size_lawful c.args.self.sample_limited c.args.self.twiddle_limited c.requires c.growth-growth.ensures c.rounding.ensures in
    product_fits _ _ (2 ^ 32) (2 ^ 76) (search rules) (search rules) tt

pub overflow_mul-result-2 : goal.overflow_mul-result-2
overflow_mul-result-2 c =
    let r = room _ _ _ _ _ _ _ c.args.self.size_lawful c.args.self.sample_limited c.args.self.twiddle_limited c.requires c.growth-growth.ensures c.rounding.ensures in
    product_fits _ _ (2 ^ 18) (2 ^ 100) (search rules) (search rules) tt

pub overflow_mul-result-3 : goal.overflow_mul-result-3
overflow_mul-result-3 c =
    let r = room _ _ _ _ _ _ _ c.args.self.size_lawful c.args.self.sample_limited c.args.self.twiddle_limited c.requires c.growth-growth.ensures c.rounding.ensures in
    product_fits _ _ (2 ^ 18) (2 ^ 103) (search rules) (search rules) tt

pub overflow_add-result : goal.overflow_add-result
overflow_add-result c =
    let r = room _ _ _ _ _ _ _ c.args.self.size_lawful c.args.self.sample_limited c.args.self.twiddle_limited c.requires c.growth-growth.ensures c.rounding.ensures in
    sum_fits _ _ (mul-lt _ _ (2 ^ 18) (2 ^ 103) (search rules) (search rules)) (mul-lt _ _ (2 ^ 85) (2 ^ 32) (mul-lt _ _ (2 ^ 76) (2 ^ 9) (search rules) (search rules)) (search rules)) tt
