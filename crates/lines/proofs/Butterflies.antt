-- Butterflies and weights written out, radix by radix.
use mathlib.Core.Path.{◌≡◌, refl, ap, ap₂}
use Prim.Native.Nat.{ℕ, zero, suc, ◌*◌, ◌/◌, ◌<◌, ◌≤◌}
use native.Mathlib.Nat.{mul-one}
use native.Mathlib.Omega.{arith}
use borrow.Author.Differences.{ints}
use borrow.Author.Tests.{le-leb, lt-leb}
use lib.IntN.{pos}
use Rattle.integers.specs.declared.Complex.{Complex}
use Rattle.integers.specs.Complex.{◌⊕◌, ◌⊖◌, real, quarter_turn_of}
use Rattle.integers.proofs.ComplexRing.{complex_same}
use Rattle.circle.specs.Near.{turned}
use Rattle.circle.specs.Twiddle.{twiddle}
use Rattle.lines.specs.Lines.{sum_below, butterfly, weight}

-- radix 2: a + b and a − b

pub butterfly_sum : (x : ℕ → Complex) → butterfly 2 x 0 ≡ x 0 ⊕ x 1
unfolding butterfly sum_below turned
butterfly_sum x = complex_same {c = (x 0 ⊕ x 1).re} {d = (x 0 ⊕ x 1).im} (omega (arith, ints)) (omega (arith, ints))

pub butterfly_difference : (x : ℕ → Complex) → butterfly 2 x 1 ≡ x 0 ⊖ x 1
unfolding butterfly sum_below turned
butterfly_difference x = complex_same {c = (x 0 ⊖ x 1).re} {d = (x 0 ⊖ x 1).im} (omega (arith, ints)) (omega (arith, ints))

-- radix 4: from a + c, b + d, a − c and −j (b − d)

pub butterfly_first : (x : ℕ → Complex) → butterfly 4 x 0 ≡ (x 0 ⊕ x 2) ⊕ (x 1 ⊕ x 3)
unfolding butterfly sum_below turned
butterfly_first x = let y = (x 0 ⊕ x 2) ⊕ (x 1 ⊕ x 3) in complex_same {c = y.re} {d = y.im} (omega (arith, ints)) (omega (arith, ints))

pub butterfly_second : (x : ℕ → Complex) → butterfly 4 x 1 ≡ (x 0 ⊖ x 2) ⊕ quarter_turn_of (x 1 ⊖ x 3)
unfolding butterfly sum_below turned
butterfly_second x = let y = (x 0 ⊖ x 2) ⊕ quarter_turn_of (x 1 ⊖ x 3) in complex_same {c = y.re} {d = y.im} (omega (arith, ints)) (omega (arith, ints))

pub butterfly_third : (x : ℕ → Complex) → butterfly 4 x 2 ≡ (x 0 ⊕ x 2) ⊖ (x 1 ⊕ x 3)
unfolding butterfly sum_below turned
butterfly_third x = let y = (x 0 ⊕ x 2) ⊖ (x 1 ⊕ x 3) in complex_same {c = y.re} {d = y.im} (omega (arith, ints)) (omega (arith, ints))

pub butterfly_fourth : (x : ℕ → Complex) → butterfly 4 x 3 ≡ (x 0 ⊖ x 2) ⊖ quarter_turn_of (x 1 ⊖ x 3)
unfolding butterfly sum_below turned
butterfly_fourth x = let y = (x 0 ⊖ x 2) ⊖ quarter_turn_of (x 1 ⊖ x 3) in complex_same {c = y.re} {d = y.im} (omega (arith, ints)) (omega (arith, ints))

-- weights: up to size 4, and above

pub weight_first_small : (q m k : ℕ) → m ≤ 4 → weight q m 0 k ≡ real (pos 1)
unfolding weight
weight_first_small q m k h = rw (le-leb m 4 h) refl

pub weight_small : (q m i k : ℕ) → m ≤ 4 → weight q m (suc i) k ≡ turned (suc i * k * (4 / m)) (real (pos 1))
unfolding weight
weight_small q m i k h = rw (le-leb m 4 h) refl

pub weight_first : (q m k : ℕ) → 4 < m → weight q m 0 k ≡ real (pos q)
unfolding weight
weight_first q m k h = rw (lt-leb m 4 h) refl

pub weight_next : (q m i k : ℕ) → 4 < m → weight q m (suc i) k ≡ twiddle q (suc i * k * (256 / m))
unfolding weight
weight_next q m i k h = rw (lt-leb m 4 h) refl

-- sums of equal terms, and the radix-4 butterfly as the sum of turns

pub sum_same : (n : ℕ) (x y : ℕ → Complex) → ((i : ℕ) → i < n → x i ≡ y i) → sum_below n x ≡ sum_below n y
unfolding sum_below
sum_same zero x y h = refl
sum_same (suc n) x y h = ap₂ ◌⊕◌ (sum_same n x y (λ i l. h i (omega arith))) (h n (omega arith))

pub butterfly_turns : (x : ℕ → Complex) (l : ℕ) → butterfly 4 x l ≡ sum_below 4 (λ i. turned (i * l) (x i))
unfolding butterfly
butterfly_turns x l = sum_same 4 _ _ (λ i h. ap (λ (n : ℕ). turned n (x i)) (mul-one (i * l)))
