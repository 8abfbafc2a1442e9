-- Quarter turns: four of them change nothing; they pass through products and multiples, and keep sizes and distances.
use Rattle.std.proofs.Common.{◌≡◌, ℕ, zero, suc, ◌+◌, ◌*◌, ◌/◌, ◌%◌, ◌≤◌, pos, ◌-ℤ◌, nat_abs, sym, refl, ap, ◌∙◌, suc-add, zero-add, add-one, arith}
use borrow.Author.Differences.{ints}
use lib.IntN.{neg_ℤ-neg_ℤ}
use Rattle.integers.specs.declared.Complex.{Complex}
use Rattle.integers.specs.Complex.{quarter_turn_of, ◌⊗◌}
use Rattle.integers.proofs.Ring.{neg_left, neg_right}
use Rattle.integers.proofs.ComplexRing.{complex_same}
use Rattle.circle.specs.Near.{Near, sizes, multiple, turned}

pub turned_add : (j k : ℕ) (x : Complex) → turned (j + k) x ≡ turned j (turned k x)
unfolding turned
turned_add zero k x = ap (λ (n : ℕ). turned n x) (zero-add k)
turned_add (suc j) k x = ap (λ (n : ℕ). turned n x) (suc-add j k) ∙ ap quarter_turn_of (turned_add j k x)

pub turned_next : (k : ℕ) (x : Complex) → quarter_turn_of (turned k x) ≡ turned (k + 1) x
unfolding turned
turned_next k x = rw add-one

pub turned_four : (x : Complex) → turned 4 x ≡ x
unfolding turned
turned_four x = complex_same (neg_ℤ-neg_ℤ x.re) (neg_ℤ-neg_ℤ x.im)

turned_fours : (q r : ℕ) (x : Complex) → turned (4 * q + r) x ≡ turned r x
turned_fours zero r x = ap (λ (n : ℕ). turned n x) (omega arith)
turned_fours (suc q) r x =
    let e : 4 * suc q + r ≡ 4 + (4 * q + r) = omega arith in
    ap (λ (n : ℕ). turned n x) e ∙ turned_add 4 (4 * q + r) x ∙ turned_four (turned (4 * q + r) x) ∙ turned_fours q r x

pub turned_mod : (k : ℕ) (x : Complex) → turned (k % 4) x ≡ turned k x
turned_mod k x =
    let e : 4 * (k / 4) + k % 4 ≡ k = omega arith in
    sym (turned_fours (k / 4) (k % 4) x) ∙ ap (λ (n : ℕ). turned n x) e

turn_mul : (x y : Complex) → quarter_turn_of x ⊗ y ≡ quarter_turn_of (x ⊗ y)
turn_mul x y =
    let e = neg_left x.re y.re in
    let f = neg_left x.re y.im in
    complex_same (omega (arith, ints)) (omega (arith, ints))

mul_turn : (x y : Complex) → x ⊗ quarter_turn_of y ≡ quarter_turn_of (x ⊗ y)
mul_turn x y =
    let e = neg_right x.re y.re in
    let f = neg_right x.im y.re in
    complex_same (omega (arith, ints)) (omega (arith, ints))

pub turned_mul : (k : ℕ) (x y : Complex) → turned k x ⊗ y ≡ turned k (x ⊗ y)
unfolding turned
turned_mul zero x y = refl
turned_mul (suc k) x y = turn_mul (turned k x) y ∙ ap quarter_turn_of (turned_mul k x y)

pub mul_turned : (k : ℕ) (x y : Complex) → x ⊗ turned k y ≡ turned k (x ⊗ y)
unfolding turned
mul_turned zero x y = refl
mul_turned (suc k) x y = mul_turn x (turned k y) ∙ ap quarter_turn_of (mul_turned k x y)

pub multiple_turned : (n k : ℕ) (x : Complex) → multiple n (turned k x) ≡ turned k (multiple n x)
unfolding turned
multiple_turned n zero x = refl
multiple_turned n (suc k) x =
    complex_same refl (neg_right (pos n) (turned k x).re) ∙ ap quarter_turn_of (multiple_turned n k x)

pub sizes_turned : (k : ℕ) (x : Complex) → sizes (turned k x) ≡ sizes x
unfolding turned
sizes_turned zero x = refl
sizes_turned (suc k) x =
    let e : sizes (quarter_turn_of (turned k x)) ≡ sizes (turned k x) = omega (arith, ints) in
    e ∙ sizes_turned k x

near_turn : (b : ℕ) (x y : Complex) → Near b x y → Near b (quarter_turn_of x) (quarter_turn_of y)
near_turn b x y h =
    let p : nat_abs (x.re -ℤ y.re) ≤ b = h.re in
    record { re = h.im; im = omega (arith, ints) }

pub near_turned : (b k : ℕ) (x y : Complex) → Near b x y → Near b (turned k x) (turned k y)
unfolding turned
near_turned b zero x y h = h
near_turned b (suc k) x y h = near_turn b _ _ (near_turned b k x y h)
