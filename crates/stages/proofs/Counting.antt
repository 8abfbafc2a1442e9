-- The number of stages at a lawful size, by the zeros at the end of its binary digits.
use Rattle.std.proofs.Common.{◌≡◌, ℕ, ◌/◌, true, refl, subst}
use lib.Count.{count_trailing_zeros}
use Rattle.plan.specs.declared.method.Method.{Method}
use Rattle.plan.specs.declared.method.Method.TheVariants.{Radix2, Radix4}
use Rattle.plan.specs.Methods.{sizes, sized}
use Rattle.plan.proofs.Powers.{carried}
use Rattle.lines.specs.Lines.{divisions, stage_count}

zeros2 : (m : ℕ) → sized Radix2 m ≡ true → count_trailing_zeros 64 m ≡ stage_count Radix2 m
unfolding divisions count_trailing_zeros
zeros2 = carried (λ m. count_trailing_zeros 64 m ≡ stage_count Radix2 m) (sizes Radix2) (refl, (refl, (refl, (refl, (refl, (refl, (refl, (refl, (refl, tt)))))))))

zeros4 : (m : ℕ) → sized Radix4 m ≡ true → count_trailing_zeros 64 m / 2 ≡ stage_count Radix4 m
unfolding divisions count_trailing_zeros
zeros4 = carried (λ m. count_trailing_zeros 64 m / 2 ≡ stage_count Radix4 m) (sizes Radix4) (refl, (refl, (refl, (refl, (refl, tt)))))

pub stages2 : (k : Method) (m n : ℕ) → Radix2 ≡ k → n ≡ m → sized k m ≡ true → count_trailing_zeros 64 n ≡ stage_count k m
stages2 k m n e f h =
    let P : Method → Type 0 = λ k. sized k m ≡ true → count_trailing_zeros 64 n ≡ stage_count k m in
    subst P e (λ h. rw f (zeros2 m h)) h

pub stages4 : (k : Method) (m n : ℕ) → Radix4 ≡ k → n ≡ m → sized k m ≡ true → count_trailing_zeros 64 n / 2 ≡ stage_count k m
stages4 k m n e f h =
    let P : Method → Type 0 = λ k. sized k m ≡ true → count_trailing_zeros 64 n / 2 ≡ stage_count k m in
    subst P e (λ h. rw f (zeros4 m h)) h
