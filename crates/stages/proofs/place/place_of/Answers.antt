use Rattle.std.proofs.Common.{◌≡◌, true, sym, ap, ◌∙◌, arith}
use Rattle.plan.specs.declared.method.Method.TheVariants.{Radix2, Radix4}
use Rattle.plan.specs.Methods.{sized}
use Rattle.lines.specs.Places.{place_of}
use Rattle.lines.proofs.Sizes.{size2, size4}
use Rattle.stages.proofs.place.place_of.Goals as goal

pub returns-in-Radix2 : goal.returns-in-Radix2
returns-in-Radix2 c =
    let p = c.args.plan.now in
    let k : p.method ≡ Radix2 = sym c.in-Radix2.ensures in
    let l : sized Radix2 p.size ≡ true = rw k at p.size_lawful in
    let v = c.reversed.ensures.value _ (c.size-in-Radix2.ensures ∙ sym (size2 p.size l)) in
    (omega arith, v ∙ ap (λ m. place_of m p.size c.args.n) (sym k), omega arith)

pub returns-in-Radix4 : goal.returns-in-Radix4
returns-in-Radix4 c =
    let p = c.args.plan.now in
    let k : p.method ≡ Radix4 = sym c.in-Radix4.ensures in
    let l : sized Radix4 p.size ≡ true = rw k at p.size_lawful in
    let v = c.reversed-in-Radix4.ensures.value _ (c.size-in-Radix4.ensures ∙ sym (size4 p.size l)) in
    (omega arith, v ∙ ap (λ m. place_of m p.size c.args.n) (sym k), omega arith)
