-- Numbers that lie near one another: sums, products and multiples of them.
use mathlib.Core.Path.{◌≡◌, refl, sym, ◌∙◌, ap, subst}
use Prim.Native.Nat.{ℕ, zero, suc, ◌+◌, ◌*◌, ◌<◌, ◌≤◌}
use native.Mathlib.Nat.{suc-mul, le_trans, le_of_mul-le-mul_left, mul-le-mul_left}
use native.Mathlib.Omega.{arith}
use borrow.Author.Differences.{ints}
use lib.IntN.{ℤ, pos, nat_abs, ◌+ℤ◌, ◌-ℤ◌, ◌*ℤ◌}
use Rattle.integers.specs.declared.Complex.{Complex}
use Rattle.integers.specs.Complex.{complex, ◌⊕◌, ◌⊖◌, ◌⊗◌}
use Rattle.integers.proofs.Ring.{abs_times, distrib_difference, ring}
use Rattle.integers.proofs.ComplexRing.{complex_same, ⊗-⊖}
use Rattle.circle.specs.Near.{Near, multiple, sizes}
use Rattle.lines.specs.Lines.{sum_below}
use Rattle.lines.specs.Laws.{Within}
use Rattle.lines.proofs.Bounds.{within_product}

-- near means that the difference is small
pub near_within : (b : ℕ) (x y : Complex) → Near b x y → Within b (x ⊖ y)
near_within b x y h = record { re = h.re; im = h.im }

pub within_near : (b : ℕ) (x y : Complex) → Within b (x ⊖ y) → Near b x y
within_near b x y h = record { re = h.re; im = h.im }

pub near_same : (b : ℕ) (x y : Complex) → x ≡ y → Near b x y
near_same b x y e = rw e (record { re = omega (arith, ints); im = omega (arith, ints) })

pub near_more : (a b : ℕ) (x y : Complex) → a ≤ b → Near a x y → Near b x y
near_more a b x y h w = record { re = le_trans w.re h; im = le_trans w.im h }

via : (a b : ℕ) (x y z : ℤ) → nat_abs (x -ℤ y) ≤ a → nat_abs (y -ℤ z) ≤ b → nat_abs (x -ℤ z) ≤ a + b
via a b x y z h w = omega (arith, ints)

pub near_via : (a b : ℕ) (x y z : Complex) → Near a x y → Near b y z → Near (a + b) x z
near_via a b x y z h w = record { re = via a b x.re y.re z.re h.re w.re; im = via a b x.im y.im z.im h.im w.im }

aside : (a b : ℕ) (x y z w : ℤ) → nat_abs (x -ℤ y) ≤ a → nat_abs (z -ℤ w) ≤ b → nat_abs ((x +ℤ z) -ℤ (y +ℤ w)) ≤ a + b
aside a b x y z w h v = omega (arith, ints)

pub near_sum : (a b : ℕ) (x y z w : Complex) → Near a x y → Near b z w → Near (a + b) (x ⊕ z) (y ⊕ w)
near_sum a b x y z w h v = record { re = aside a b x.re y.re z.re w.re h.re v.re; im = aside a b x.im y.im z.im w.im h.im v.im }

pub near_sums : (n b : ℕ) (x y : ℕ → Complex) → ((i : ℕ) → i < n → Near b (x i) (y i)) → Near (n * b) (sum_below n x) (sum_below n y)
unfolding sum_below
near_sums zero b x y h = near_same (0 * b) _ _ refl
near_sums (suc n) b x y h = rw suc-mul (near_sum (n * b) b _ _ _ _ (near_sums n b x y (λ i l. h i (omega arith))) (h n (omega arith)))

-- the first terms near by a, the others by b
pub near_first : (n a b : ℕ) (x y : ℕ → Complex) → Near a (x 0) (y 0) → ((i : ℕ) → suc i < suc n → Near b (x (suc i)) (y (suc i))) → Near (a + n * b) (sum_below (suc n) x) (sum_below (suc n) y)
unfolding sum_below
near_first zero a b x y h w = near_more (0 + a) (a + 0 * b) _ _ (omega arith) (near_sum 0 a (complex (pos 0) (pos 0)) (complex (pos 0) (pos 0)) (x 0) (y 0) (near_same 0 _ _ refl) h)
near_first (suc n) a b x y h w =
    let e : a + n * b + b ≡ a + suc n * b = rw suc-mul (omega arith) in
    subst (λ (z : ℕ). Near z (sum_below (suc (suc n)) x) (sum_below (suc (suc n)) y)) e (near_sum (a + n * b) b _ _ _ _ (near_first n a b x y h (λ i l. w i (omega arith))) (w n (omega arith)))

-- products: the factor's sizes together, times the distance
pub near_product : (w b : ℕ) (g x y : Complex) → sizes g ≤ w → Near b x y → Near (w * b) (g ⊗ x) (g ⊗ y)
near_product w b g x y h v =
    within_near (w * b) _ _ (subst (Within (w * b)) (⊗-⊖ g x y) (within_product w b g (x ⊖ y) h (near_within b x y v)))

⊖-⊗ : (g h x : Complex) → (g ⊖ h) ⊗ x ≡ g ⊗ x ⊖ h ⊗ x
⊖-⊗ g h x = complex_same (simp ring (omega (arith, ints))) (simp ring (omega (arith, ints)))

-- factors near by b, times a number within c
pub near_factor : (b c : ℕ) (g h x : Complex) → Near b g h → Within c x → Near (2 * b * c) (g ⊗ x) (h ⊗ x)
near_factor b c g h x v w =
    let p = v.re in
    let q = v.im in
    let n : sizes (g ⊖ h) ≤ 2 * b = omega arith in
    within_near (2 * b * c) _ _ (subst (Within (2 * b * c)) (⊖-⊗ g h x) (within_product (2 * b) c (g ⊖ h) x n w))

times_apart : (n : ℕ) (x y : ℤ) → nat_abs (pos n *ℤ x -ℤ pos n *ℤ y) ≡ n * nat_abs (x -ℤ y)
times_apart n x y = ap nat_abs (sym (distrib_difference (pos n) x y)) ∙ abs_times (pos n) (x -ℤ y)

pub near_multiple : (n b : ℕ) (x y : Complex) → Near b x y → Near (n * b) (multiple n x) (multiple n y)
near_multiple n b x y h = record {
  re = rw times_apart (mul-le-mul_left n h.re);
  im = rw times_apart (mul-le-mul_left n h.im);
}

-- a common factor cancels
pub near_cancel : (n b : ℕ) (x y : Complex) → 0 < n → Near (n * b) (multiple n x) (multiple n y) → Near b x y
near_cancel n b x y p h = record {
  re = le_of_mul-le-mul_left (rw times_apart at h.re) p;
  im = le_of_mul-le-mul_left (rw times_apart at h.im) p;
}
