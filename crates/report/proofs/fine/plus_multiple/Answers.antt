use Rattle.std.proofs.Common.{◌≡◌, ℤ, pos, ◌+ℤ◌, ◌-ℤ◌, ◌*ℤ◌, w64, SFits, rules, arith}
use Rattle.std.proofs.lemmas.Int.{ints, to_z-of_z}
use Rattle.integers.proofs.ComplexRing.{complex_same}
use Rattle.report.proofs.fine.plus_multiple.Goals as goal

real_part : (s a b x r : ℤ) → r ≡ s +ℤ a *ℤ x → r ≡ s +ℤ (a *ℤ x -ℤ b *ℤ pos 0)
real_part s a b x r e = omega (arith, ints)

imaginary_part : (s a b x r : ℤ) → r ≡ s +ℤ b *ℤ x → r ≡ s +ℤ (a *ℤ pos 0 +ℤ b *ℤ x)
imaginary_part s a b x r e = omega (arith, ints)

pub returns-clause-value : goal.returns-clause-value
returns-clause-value c =
    let s_re : SFits w64 c.args.sum.re = search rules in
    let s_im : SFits w64 c.args.sum.im = search rules in
    let f_re : SFits w64 c.args.factor.re = search rules in
    let f_im : SFits w64 c.args.factor.im = search rules in
    let re : SFits w64 c.in_ok-re.re = search rules in
    let im : SFits w64 c.in_ok-im.im = search rules in
    let x : SFits w64 c.args.sample = c.ranges.sample in
    simp to_z-of_z
    (complex_same
    (real_part c.args.sum.re c.args.factor.re c.args.factor.im c.args.sample c.in_ok-re.re (simp to_z-of_z at c.in_ok-re.ensures.value))
    (imaginary_part c.args.sum.im c.args.factor.re c.args.factor.im c.args.sample c.in_ok-im.im (simp to_z-of_z at c.in_ok-im.ensures.value)))
