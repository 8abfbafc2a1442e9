use Rattle.std.proofs.Common.{◌≡◌, ℕ, ◌*◌, ◌/◌, ◌%◌, ◌^◌, sym, ap, ◌∙◌, arith}
use Rattle.std.proofs.lemmas.Nat.{mul-mod_first}
use Rattle.circle.specs.Fine.{fine}
use Rattle.circle.proofs.Fine.{fine_mod}
use Rattle.report.proofs.fine.factor.Goals as goal

-- a wrapped place has the same fine twiddle
fine_wrapped : (u : ℕ) → fine (u % 2 ^ 64) ≡ fine u
fine_wrapped u = let e : u % 2 ^ 64 % 256 ≡ u % 256 = omega arith in sym (fine_mod (u % 2 ^ 64)) ∙ ap fine e ∙ fine_mod u

pub returns-clause-value : goal.returns-clause-value
returns-clause-value c = c.fine_twiddle.ensures.value ∙ ap fine (mul-mod_first (c.args.n * c.args.k) (256 / c.args.size) (2 ^ 64)) ∙ fine_wrapped (c.args.n * c.args.k * (256 / c.args.size))
