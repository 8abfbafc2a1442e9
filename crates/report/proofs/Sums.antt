-- Sums of products: one more term, and how much a sum grows by it.
use Rattle.std.proofs.Common.{◌≡◌, ℕ, ◌+◌, ◌*◌, ◌^◌, ◌≤◌, ℤ, pos, ◌+ℤ◌, ◌-ℤ◌, ◌*ℤ◌, nat_abs, ◌∙◌, ap, add-one, mul-le-mul, arith}
use Rattle.std.proofs.lemmas.Int.{ints, unsigned_abs-mul}
use Rattle.integers.specs.declared.Complex.{Complex}
use Rattle.integers.specs.Complex.{◌⊕◌, ◌⊗◌, real}
use Rattle.lines.specs.Lines.{sum_below}

pub one_more : (x : ℕ → Complex) (n : ℕ) (s r : Complex) → s ≡ sum_below n x → r ≡ s ⊕ x n → r ≡ sum_below (n + 1) x
unfolding sum_below
one_more x n s r e f = rw add-one (f ∙ ap (λ y. y ⊕ x n) e)

-- a sum of n terms and another, each at most b·m in size
grown : (s p r : ℤ) (n b : ℕ) → nat_abs p ≤ b → nat_abs s ≤ b * n → r ≡ s +ℤ p → nat_abs r ≤ b * (n + 1)
grown s p r n b small old e = let l : nat_abs r ≤ nat_abs s + nat_abs p = omega (arith, ints) in omega arith

product_size : (a x : ℤ) → nat_abs a ≤ 3 * 2 ^ 29 → nat_abs x ≤ 2 ^ 24 → nat_abs (a *ℤ x) ≤ 3 * 2 ^ 53
product_size a x p q = let l : nat_abs a * nat_abs x ≤ 3 * 2 ^ 29 * 2 ^ 24 = mul-le-mul p q in omega (arith, unsigned_abs-mul a x)

pub grown_re : (s f r : Complex) (x : ℤ) (n : ℕ) → nat_abs f.re + nat_abs f.im ≤ 3 * 2 ^ 29 → nat_abs x ≤ 2 ^ 24 → nat_abs s.re ≤ 3 * 2 ^ 53 * n → r ≡ s ⊕ f ⊗ real x → nat_abs r.re ≤ 3 * 2 ^ 53 * (n + 1)
grown_re s f r x n small sample old e =
    let g : r.re ≡ s.re +ℤ (f.re *ℤ x -ℤ f.im *ℤ pos 0) = ap (λ (y : Complex). y.re) e in
    grown s.re (f.re *ℤ x) r.re n (3 * 2 ^ 53) (product_size f.re x (omega arith) sample) old (omega (arith, ints))

pub grown_im : (s f r : Complex) (x : ℤ) (n : ℕ) → nat_abs f.re + nat_abs f.im ≤ 3 * 2 ^ 29 → nat_abs x ≤ 2 ^ 24 → nat_abs s.im ≤ 3 * 2 ^ 53 * n → r ≡ s ⊕ f ⊗ real x → nat_abs r.im ≤ 3 * 2 ^ 53 * (n + 1)
grown_im s f r x n small sample old e =
    let g : r.im ≡ s.im +ℤ (f.re *ℤ pos 0 +ℤ f.im *ℤ x) = ap (λ (y : Complex). y.im) e in
    grown s.im (f.im *ℤ x) r.im n (3 * 2 ^ 53) (product_size f.im x (omega arith) sample) old (omega (arith, ints))
