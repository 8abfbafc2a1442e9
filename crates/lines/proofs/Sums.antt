-- Sums of complex whole numbers: what passes through them, and how they split by remainders.
use mathlib.Core.Path.{◌≡◌, refl, sym, ◌∙◌, ap, ap₂}
use Prim.Native.Nat.{ℕ, zero, suc, ◌+◌, ◌*◌}
use native.Mathlib.Nat.{zero-mul, suc-mul, add-suc, add-zero, mul_comm}
use native.Mathlib.Omega.{arith}
use borrow.Author.Differences.{ints}
use lib.IntN.{ℤ, pos, *ℤ-zero, ◌+ℤ◌, +ℤ_idr}
use Rattle.integers.specs.declared.Complex.{Complex}
use Rattle.integers.specs.Complex.{complex, ◌⊕◌, ◌⊗◌, ◌⊙◌, quarter_turn_of}
use Rattle.integers.proofs.ComplexRing.{complex_same, ⊗-⊕, ⊙-⊕, ⊕-assoc, turn-⊕}
use Rattle.integers.proofs.Ring.{ring}
use Rattle.circle.specs.Near.{turned}
use Rattle.lines.specs.Lines.{sum_below}

pub sum_product : (g : Complex) (n : ℕ) (x : ℕ → Complex) → g ⊗ sum_below n x ≡ sum_below n (λ i. g ⊗ x i)
unfolding sum_below
sum_product g zero x = complex_same {c = pos 0} {d = pos 0} (simp ring) (simp ring)
sum_product g (suc n) x = ⊗-⊕ g (sum_below n x) (x n) ∙ ap (λ (y : Complex). y ⊕ g ⊗ x n) (sum_product g n x)

pub sum_multiple : (a : ℤ) (n : ℕ) (x : ℕ → Complex) → a ⊙ sum_below n x ≡ sum_below n (λ i. a ⊙ x i)
unfolding sum_below
sum_multiple a zero x = complex_same {c = pos 0} {d = pos 0} (*ℤ-zero a) (*ℤ-zero a)
sum_multiple a (suc n) x = ⊙-⊕ a (sum_below n x) (x n) ∙ ap (λ (y : Complex). y ⊕ a ⊙ x n) (sum_multiple a n x)

turned_sum : (k : ℕ) (x y : Complex) → turned k (x ⊕ y) ≡ turned k x ⊕ turned k y
unfolding turned
turned_sum zero x y = refl
turned_sum (suc k) x y = ap quarter_turn_of (turned_sum k x y) ∙ turn-⊕ (turned k x) (turned k y)

turned_none : (k : ℕ) → turned k (complex (pos 0) (pos 0)) ≡ complex (pos 0) (pos 0)
unfolding turned
turned_none zero = refl
turned_none (suc k) = ap quarter_turn_of (turned_none k)

pub sum_turned : (k n : ℕ) (x : ℕ → Complex) → turned k (sum_below n x) ≡ sum_below n (λ i. turned k (x i))
unfolding sum_below
sum_turned k zero x = turned_none k
sum_turned k (suc n) x = turned_sum k (sum_below n x) (x n) ∙ ap (λ (y : Complex). y ⊕ turned k (x n)) (sum_turned k n x)

-- (a + b) + (c + d) = (a + c) + (b + d)
pub middle : (a b c d : Complex) → (a ⊕ b) ⊕ (c ⊕ d) ≡ (a ⊕ c) ⊕ (b ⊕ d)
middle a b c d = complex_same (omega (arith, ints)) (omega (arith, ints))

sum_both : (n : ℕ) (x y : ℕ → Complex) → sum_below n x ⊕ sum_below n y ≡ sum_below n (λ i. x i ⊕ y i)
unfolding sum_below
sum_both zero x y = refl
sum_both (suc n) x y = middle (sum_below n x) (x n) (sum_below n y) (y n) ∙ ap (λ (z : Complex). z ⊕ (x n ⊕ y n)) (sum_both n x y)

sum_none : (n : ℕ) → sum_below n (λ i. complex (pos 0) (pos 0)) ≡ complex (pos 0) (pos 0)
unfolding sum_below
sum_none zero = refl
sum_none (suc n) = ap (λ (z : Complex). z ⊕ complex (pos 0) (pos 0)) (sum_none n)

-- the first a terms, and b more
sum_more : (a b : ℕ) (x : ℕ → Complex) → sum_below (a + b) x ≡ sum_below a x ⊕ sum_below b (λ i. x (a + i))
unfolding sum_below
sum_more a zero x =
    ap (λ (n : ℕ). sum_below n x) (add-zero a) ∙ complex_same {c = (sum_below a x).re +ℤ pos 0} {d = (sum_below a x).im +ℤ pos 0} (sym (+ℤ_idr (sum_below a x).re)) (sym (+ℤ_idr (sum_below a x).im))
sum_more a (suc b) x =
    ap (λ (n : ℕ). sum_below n x) (add-suc a b) ∙ ap (λ (z : Complex). z ⊕ x (a + b)) (sum_more a b x) ∙ ⊕-assoc (sum_below a x) (sum_below b (λ i. x (a + i))) (x (a + b))

-- r·m terms, by their remainders modulo r
pub sum_parts : (r m : ℕ) (x : ℕ → Complex) → sum_below (m * r) x ≡ sum_below r (λ i. sum_below m (λ n. x (r * n + i)))
unfolding sum_below
sum_parts r zero x = ap (λ (n : ℕ). sum_below n x) (zero-mul r) ∙ sym (sum_none r)
sum_parts r (suc m) x =
    ap (λ (n : ℕ). sum_below n x) (suc-mul m r) ∙ sum_more (m * r) r x
    ∙ ap₂ ◌⊕◌ (sum_parts r m x) (ap (λ (a : ℕ). sum_below r (λ i. x (a + i))) (mul_comm m r))
    ∙ sum_both r (λ i. sum_below m (λ n. x (r * n + i))) (λ i. x (r * m + i))
