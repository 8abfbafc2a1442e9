-- The rule of the radix gives the figures from those of the size below.
use Rattle.std.proofs.Common.{◌≡◌, ◌/◌, sym, ◌∙◌, rules}
use Rattle.plan.specs.Methods.{base}
use Rattle.plan.specs.Meaning.{radix}
use Rattle.plan.proofs.Rules.{radix_from, small}
use Rattle.plan.proofs.plan.Plan.+radix_figures.Goals as goal

pub returns-in-None : goal.returns-in-None
returns-in-None t c = c.exact_figures.ensures ∙ sym (small _ _ _ _ c.in-None.ensures)

pub returns-in-Some : goal.returns-in-Some
returns-in-Some t c =
    let p = c.args.self in
    let e : c.radix_figures.result ≡ radix p.method 6 (p.size / base p.method) p.sample_scale p.twiddle_scale = search rules in
    c.stage_figures.ensures ∙ radix_from _ _ _ _ _ p.size_lawful c.in-Some.ensures.0 e
