use Rattle.std.proofs.Common.{◌≡◌, ◌^◌, true, sym, ap, ◌∙◌}
use Rattle.plan.specs.declared.method.Method.TheVariants.{Radix2, Radix4}
use Rattle.plan.specs.Methods.{sized}
use Rattle.lines.specs.Lines.{stage_count}
use Rattle.lines.proofs.Sizes.{size2, size4}
use Rattle.stages.proofs.radix.stage.Goals as goal

pub stage_of_radix-requires-clause-powers : goal.stage_of_radix-requires-clause-powers
stage_of_radix-requires-clause-powers g c =
    let p = c.args.plan.now in
    let k : p.method ≡ Radix2 = sym c.in-Radix2.ensures in
    let l : sized Radix2 p.size ≡ true = rw k at p.size_lawful in
    sym (size2 p.size l) ∙ ap (λ x. 2 ^ stage_count x p.size) (sym k)

pub stage_of_radix-requires-in-Radix4-clause-powers : goal.stage_of_radix-requires-in-Radix4-clause-powers
stage_of_radix-requires-in-Radix4-clause-powers g c =
    let p = c.args.plan.now in
    let k : p.method ≡ Radix4 = sym c.in-Radix4.ensures in
    let l : sized Radix4 p.size ≡ true = rw k at p.size_lawful in
    sym (size4 p.size l) ∙ ap (λ x. 4 ^ stage_count x p.size) (sym k)
