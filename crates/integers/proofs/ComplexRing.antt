-- The ring of complex whole numbers.
use Rattle.std.proofs.Common.{◌≡◌, ℤ, pos, negsuc, ◌+ℤ◌, ◌-ℤ◌, ◌*ℤ◌, refl, ◌∙◌, ap₂, arith}
use borrow.Author.Differences.{ints}
use lib.IntN.{*ℤ_comm, +ℤ_comm, +ℤ_assoc}
use Rattle.integers.specs.declared.Complex.{Complex}
use Rattle.integers.specs.Complex.{complex, ◌⊕◌, ◌⊖◌, ◌⊗◌, ◌⊙◌, real, quarter_turn_of}
use Rattle.integers.proofs.Ring.{ring}

-- equal components make equal numbers
pub complex_same : {a b c d : ℤ} → a ≡ c → b ≡ d → complex a b ≡ complex c d
complex_same p q = ap₂ complex p q

pub ⊕-comm : (x y : Complex) → x ⊕ y ≡ y ⊕ x
⊕-comm x y = complex_same (+ℤ_comm x.re y.re) (+ℤ_comm x.im y.im)

pub ⊕-assoc : (x y z : Complex) → (x ⊕ y) ⊕ z ≡ x ⊕ (y ⊕ z)
⊕-assoc x y z = complex_same (+ℤ_assoc x.re y.re z.re) (+ℤ_assoc x.im y.im z.im)

-- (a + b) − b = a
pub ⊕-⊖ : (x y : Complex) → (x ⊕ y) ⊖ y ≡ x
⊕-⊖ x y = complex_same {c = x.re} {d = x.im} (omega (arith, ints)) (omega (arith, ints))

-- (a − b) + b = a
pub ⊖-⊕ : (x y : Complex) → (x ⊖ y) ⊕ y ≡ x
⊖-⊕ x y = complex_same {c = x.re} {d = x.im} (omega (arith, ints)) (omega (arith, ints))

pub ⊗-comm : (x y : Complex) → x ⊗ y ≡ y ⊗ x
⊗-comm x y =
    complex_same (ap₂ (λ p q. p -ℤ q) (*ℤ_comm x.re y.re) (*ℤ_comm x.im y.im))
    (ap₂ (λ p q. p +ℤ q) (*ℤ_comm x.re y.im) (*ℤ_comm x.im y.re) ∙ +ℤ_comm (y.im *ℤ x.re) (y.re *ℤ x.im))

pub ⊗-assoc : (x y z : Complex) → (x ⊗ y) ⊗ z ≡ x ⊗ (y ⊗ z)
⊗-assoc x y z = complex_same (simp ring (omega (arith, ints))) (simp ring (omega (arith, ints)))

pub ⊗-⊕ : (x y z : Complex) → x ⊗ (y ⊕ z) ≡ x ⊗ y ⊕ x ⊗ z
⊗-⊕ x y z = complex_same (simp ring (omega (arith, ints))) (simp ring (omega (arith, ints)))

pub ⊗-⊖ : (x y z : Complex) → x ⊗ (y ⊖ z) ≡ x ⊗ y ⊖ x ⊗ z
⊗-⊖ x y z = complex_same (simp ring (omega (arith, ints))) (simp ring (omega (arith, ints)))

pub ⊕-⊗ : (x y z : Complex) → (x ⊕ y) ⊗ z ≡ x ⊗ z ⊕ y ⊗ z
⊕-⊗ x y z = complex_same (simp ring (omega (arith, ints))) (simp ring (omega (arith, ints)))

-- the product by a whole number is the multiple
pub real-⊗ : (a : ℤ) (x : Complex) → real a ⊗ x ≡ a ⊙ x
real-⊗ a x = complex_same {c = a *ℤ x.re} {d = a *ℤ x.im} (omega (arith, ints)) (omega (arith, ints))

pub one-⊗ : (x : Complex) → real (pos 1) ⊗ x ≡ x
one-⊗ x = complex_same {c = x.re} {d = x.im} (omega (arith, ints)) (omega (arith, ints))

pub ⊙-⊕ : (a : ℤ) (x y : Complex) → a ⊙ (x ⊕ y) ≡ a ⊙ x ⊕ a ⊙ y
⊙-⊕ a x y = complex_same (simp ring (omega (arith, ints))) (simp ring (omega (arith, ints)))

pub ⊙-⊗ : (a : ℤ) (x y : Complex) → (a ⊙ x) ⊗ y ≡ a ⊙ (x ⊗ y)
⊙-⊗ a x y = complex_same (simp ring (omega (arith, ints))) (simp ring (omega (arith, ints)))

-- the factor −j is the product by −j
pub turn_is : (x : Complex) → quarter_turn_of x ≡ complex (pos 0) (negsuc 0) ⊗ x
turn_is x = complex_same (omega (arith, ints)) (omega (arith, ints))

pub turn-⊕ : (x y : Complex) → quarter_turn_of (x ⊕ y) ≡ quarter_turn_of x ⊕ quarter_turn_of y
turn-⊕ x y = complex_same refl (omega (arith, ints))

-- four turns lead back
pub turn_four : (x : Complex) → quarter_turn_of (quarter_turn_of (quarter_turn_of (quarter_turn_of x))) ≡ x
turn_four x = complex_same {c = x.re} {d = x.im} (omega (arith, ints)) (omega (arith, ints))
