-- The twiddles of a scale: their rule has exactly one solution; distance to the fine twiddles, sizes, period.
use Rattle.std.proofs.Common.{◌≡◌, ℕ, zero, suc, ◌+◌, ◌*◌, ◌/◌, ◌%◌, ◌^◌, ◌<◌, ◌≤◌, ℤ, pos, negsuc, ◌-ℤ◌, ◌*ℤ◌, neg_ℤ, nat_abs, ◌≤ℤ◌, ◌<ℤ◌, sym, refl, ap, ◌∙◌, subst, inl, inr, mul_comm, mul-le-mul, mul-le-mul_left, mul-add, arith}
use borrow.Author.Differences.{ints}
use lib.IntN.{pos-*ℤ-negsuc, neg_ℤ-neg_ℤ}
use Rattle.integers.specs.declared.Complex.{Complex}
use Rattle.integers.specs.Complex.{complex, quarter_turn_of}
use Rattle.circle.specs.Nearest.{NearestQuotient, NearestSigned}
use Rattle.circle.specs.Near.{Near, sizes, multiple, turned}
use Rattle.circle.specs.Fine.{fine}
use Rattle.circle.specs.Twiddle.{Twiddles, TwiddlesDetermined, rounded, twiddle}
use Rattle.circle.specs.Spread.{spread}
use Rattle.circle.proofs.Unique.{signed_unique}
use Rattle.circle.proofs.Fine.{fine_period, fine_mod, fine_turn, fine_sizes}
use Rattle.integers.proofs.Ring.{neg_right, abs_times}
use Rattle.integers.proofs.ComplexRing.{complex_same}

pub rounded_nearest : (a : ℤ) → NearestSigned a (2 ^ 30) (rounded a)
unfolding rounded
rounded_nearest (pos n) =
    record { size = record { positive = omega arith; above = omega arith; below = omega arith }; sign = inl (omega (arith, ints), omega (arith, ints)) }
rounded_nearest (negsuc n) =
    let m = (suc n + 2 ^ 29) / 2 ^ 30 in
    let e : nat_abs (neg_ℤ (pos m)) ≡ m = omega (arith, ints) in
    record { size = record { positive = omega arith; above = omega arith; below = omega arith }; sign = inr (omega (arith, ints), omega (arith, ints)) }

-- what is nearest is within a half
pub rounded_near : (a r : ℤ) → NearestSigned a (2 ^ 30) r → nat_abs (pos (2 ^ 30) *ℤ r -ℤ a) ≤ 2 ^ 29
rounded_near a r h =
    let p : 2 * 2 ^ 30 * nat_abs r ≤ 2 * nat_abs a + 2 ^ 30 = h.size.above in
    let q : 2 * nat_abs a + 2 ^ 30 < 2 * 2 ^ 30 * (nat_abs r + 1) = h.size.below in
    elim h.sign [ inl s ↦ omega (arith, ints) | inr s ↦ omega (arith, ints) ]

pub abs_multiple : (q : ℕ) (x : ℤ) → nat_abs (pos q *ℤ x) ≡ q * nat_abs x
abs_multiple q x = abs_times (pos q) x

never_positive : (q : ℕ) (x : ℤ) → x <ℤ pos 0 → (pos q *ℤ x) ≤ℤ pos 0
never_positive q (pos n) h = let z : ◌≡◌ {A = ℕ} 0 1 = omega (arith, ints) in absurd (omega arith)
never_positive q (negsuc n) h = rw (pos-*ℤ-negsuc q n) (omega (arith, ints))

never_negative : (q : ℕ) (x : ℤ) → pos 0 ≤ℤ x → pos 0 ≤ℤ (pos q *ℤ x)
never_negative q (pos n) h = omega (arith, ints)
never_negative q (negsuc n) h = let z : ◌≡◌ {A = ℕ} 0 1 = omega (arith, ints) in absurd (omega arith)

pub product_fits : (a q : ℕ) → a ≤ 3 * 2 ^ 29 → q < 2 ^ 32 → a * q ≤ 2 ^ 63
product_fits a q h k =
    let l : q ≤ 2 ^ 32 = omega arith in
    let m : a * q ≤ 3 * 2 ^ 29 * 2 ^ 32 = mul-le-mul h l in
    omega arith

-- what has the nearest size and the sign of x is nearest
pub nearest_negative : (q n : ℕ) (x r : ℤ) → x <ℤ pos 0 → r ≡ neg_ℤ (pos n) → NearestQuotient (nat_abs x * q) (2 ^ 30) n → NearestSigned (pos q *ℤ x) (2 ^ 30) r
nearest_negative q n x r h e p =
    let f : nat_abs x * q ≡ nat_abs (pos q *ℤ x) = mul_comm (nat_abs x) q ∙ sym (abs_multiple q x) in
    let g : n ≡ nat_abs r = omega (arith, ints) in
    record { size = rw (f, g) at p; sign = inr (never_positive q x h, omega (arith, ints)) }

pub nearest_positive : (q n : ℕ) (x r : ℤ) → pos 0 ≤ℤ x → r ≡ pos n → NearestQuotient (nat_abs x * q) (2 ^ 30) n → NearestSigned (pos q *ℤ x) (2 ^ 30) r
nearest_positive q n x r h e p =
    let f : nat_abs x * q ≡ nat_abs (pos q *ℤ x) = mul_comm (nat_abs x) q ∙ sym (abs_multiple q x) in
    let g : n ≡ nat_abs r = omega (arith, ints) in
    record { size = rw (f, g) at p; sign = inl (never_negative q x h, omega (arith, ints)) }

pub solves : (scale : ℕ) → Twiddles scale (twiddle scale)
unfolding twiddle
solves scale = record { re = λ u. rounded_nearest (pos scale *ℤ (fine u).re); im = λ u. rounded_nearest (pos scale *ℤ (fine u).im) }

only : (scale : ℕ) (g : ℕ → Complex) → Twiddles scale g → (u : ℕ) → g u ≡ twiddle scale u
only scale g p u =
    complex_same (signed_unique _ _ _ _ (p.re u) ((solves scale).re u)) (signed_unique _ _ _ _ (p.im u) ((solves scale).im u))

pub determined : TwiddlesDetermined
determined = record { solves = solves; only = only }

-- a twiddle lies within half a unit of its scale's part of the fine twiddle
pub twiddle_near : (scale u : ℕ) → Near (2 ^ 29) (multiple (2 ^ 30) (twiddle scale u)) (multiple scale (fine u))
twiddle_near scale u =
    record { re = rounded_near _ _ ((solves scale).re u); im = rounded_near _ _ ((solves scale).im u) }

-- both sizes together are within the spread
within_spread : (scale a b r t : ℕ) → scale * a + scale * b ≤ scale * (3 * 2 ^ 29) → 2 * 2 ^ 30 * r ≤ 2 * (scale * a) + 2 ^ 30 → 2 * 2 ^ 30 * t ≤ 2 * (scale * b) + 2 ^ 30 → r + t ≤ spread scale
within_spread scale a b r t h p q = omega arith

pub twiddle_sizes : (scale u : ℕ) → sizes (twiddle scale u) ≤ spread scale
twiddle_sizes scale u =
    let a = nat_abs (fine u).re in
    let b = nat_abs (fine u).im in
    let h : scale * a + scale * b ≤ scale * (3 * 2 ^ 29) = rw (← mul-add scale a b) (mul-le-mul_left scale (fine_sizes u)) in
    within_spread scale a b _ _ h
    (rw abs_multiple at ((solves scale).re u).size.above)
    (rw abs_multiple at ((solves scale).im u).size.above)

-- what is nearest in both components is the twiddle
pub twiddle_found : (scale u : ℕ) (f : Complex) (a b : ℤ) → f ≡ fine u → NearestSigned (pos scale *ℤ f.re) (2 ^ 30) a → NearestSigned (pos scale *ℤ f.im) (2 ^ 30) b → record { value : complex a b ≡ twiddle scale u; size : sizes (complex a b) ≤ spread scale; near : Near (2 ^ 29) (multiple (2 ^ 30) (complex a b)) (multiple scale (fine u)) }
twiddle_found scale u f a b e p q =
    let x : a ≡ (twiddle scale u).re = signed_unique _ _ _ _ (rw e at p) ((solves scale).re u) in
    let y : b ≡ (twiddle scale u).im = signed_unique _ _ _ _ (rw e at q) ((solves scale).im u) in
    let h : complex a b ≡ twiddle scale u = complex_same x y in
    record {
      value = h;
      size = subst (λ (z : Complex). sizes z ≤ spread scale) (sym h) (twiddle_sizes scale u);
      near = subst (λ (z : Complex). Near (2 ^ 29) (multiple (2 ^ 30) z) (multiple scale (fine u))) (sym h) (twiddle_near scale u);
    }

pub twiddle_period : (scale u : ℕ) → twiddle scale (u + 256) ≡ twiddle scale u
unfolding twiddle
twiddle_period scale u = rw (fine_period u) refl

pub twiddle_mod : (scale u : ℕ) → twiddle scale (u % 256) ≡ twiddle scale u
unfolding twiddle
twiddle_mod scale u = rw (fine_mod u) refl

rounded_neg : (a : ℤ) → rounded (neg_ℤ a) ≡ neg_ℤ (rounded a)
unfolding rounded
rounded_neg (pos zero) = refl
rounded_neg (pos (suc n)) = refl
rounded_neg (negsuc n) = sym (neg_ℤ-neg_ℤ (pos ((suc n + 2 ^ 29) / 2 ^ 30)))

pub twiddle_turn : (scale u : ℕ) → twiddle scale (u + 64) ≡ quarter_turn_of (twiddle scale u)
unfolding twiddle
twiddle_turn scale u =
    rw (fine_turn u) (complex_same refl (ap rounded (neg_right (pos scale) (fine u).re) ∙ rounded_neg (pos scale *ℤ (fine u).re)))

-- 64·k further on stands what was turned k quarter turns
pub twiddle_turned : (scale u k : ℕ) → twiddle scale (u + 64 * k) ≡ turned k (twiddle scale u)
unfolding turned
twiddle_turned scale u zero = ap (twiddle scale) (omega arith)
twiddle_turned scale u (suc k) =
    ap (twiddle scale) (omega arith) ∙ twiddle_turn scale (u + 64 * k) ∙ ap quarter_turn_of (twiddle_turned scale u k)
