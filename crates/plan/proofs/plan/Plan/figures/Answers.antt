-- The figures of a lawful plan are representable.
use Rattle.std.proofs.Common.{◌≡◌, rules}
use Rattle.plan.specs.Making.{meaning_of}
use Rattle.plan.proofs.Limits.{representable}
use Rattle.plan.proofs.plan.Plan.figures.Goals as goal

pub returns-in-Radix2 : goal.returns-in-Radix2
returns-in-Radix2 c =
    let p = c.args.self.now in
    let v : c.radix_figures.result ≡ meaning_of p = search rules in
    record { value = v; limits = rw v (representable p.method p.size p.sample_scale p.twiddle_scale p.size_lawful p.sample_limited p.twiddle_limited) }
