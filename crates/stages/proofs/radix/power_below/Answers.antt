use Rattle.std.proofs.Common.{◌≡◌, ◌^◌, ◌<◌, ◌≤◌, Some, None, sym, ap, ◌∙◌, subst, arith}
use Rattle.std.specs.Result.{result_ok}
use Rattle.std.proofs.lemmas.Result.{Ok-from_Ok_iff}
use native.Mathlib.Decide.{dec_lt}
use Rattle.stages.specs.Stage.{PowerBelow}
use Rattle.stages.proofs.Shapes.{power_large}
use Rattle.stages.proofs.radix.power_below.Goals as goal

pub returns-in_err-ok : goal.returns-in_err-ok
returns-in_err-ok c = subst (λ o. PowerBelow c.args.radix c.args.t c.args.size o) (sym c.from_residual.ensures) (go (dec_lt c.args.t 4294967296))
  where
    go : Dec (c.args.t < 4294967296) → c.args.size ≤ c.args.radix ^ c.args.t
    go (yes a) = let e : None ≡ Some c.args.t = sym c.in_err-ok.was ∙ c.ok.ensures.value ∙ ap result_ok (Ok-from_Ok_iff c.try_from.result (c.args.t < 4294967296) c.args.t c.try_from.ensures a) in cc
    go (no a) = power_large c.args.radix c.args.t c.args.size c.requires.0 (omega arith) c.requires.1
