-- The bound: each component of a line is at most the bound in size; so the meaning of its residue is the line itself.
use mathlib.Core.Path.{◌≡◌, refl, sym, ◌∙◌, ap, subst}
use mathlib.Core.Bool.{true}
use Prim.Native.Nat.{ℕ, zero, suc, ◌+◌, ◌*◌, ◌/◌, ◌%◌, ◌^◌, ◌<◌, ◌≤◌}
use native.Mathlib.Nat.{mul-le-mul_left, add-mul, mul_comm, mul_assoc, suc-mul, one-mul, le_trans, mul-le-mul_right, pow-suc, pow-zero, one-le-pow, mod-lt}
use native.Mathlib.Omega.{arith}
use borrow.Author.Differences.{ints}
use lib.Arith.{digits_lt}
use lib.Dec.{lit<, lit≤}
use lib.IntN.{ℤ, pos, nat_abs, ◌*ℤ◌}
use Rattle.integers.specs.declared.Complex.{Complex}
use Rattle.integers.specs.Complex.{◌⊕◌, ◌⊗◌, real}
use Rattle.integers.specs.Residue.{half}
use Rattle.integers.proofs.Ring.{abs_times, abs_sum, abs_difference}
use Rattle.integers.proofs.ComplexRing.{complex_same}
use Rattle.integers.proofs.Residues.{centred_only}
use Rattle.circle.specs.Near.{turned, sizes as together}
use Rattle.circle.specs.Spread.{spread}
use Rattle.circle.specs.Twiddle.{twiddle}
use Rattle.circle.proofs.Turns.{sizes_turned}
use Rattle.circle.proofs.Twiddles.{twiddle_sizes}
use Rattle.plan.specs.declared.method.Method.{Method}
use Rattle.plan.specs.declared.method.Method.TheVariants.{Direct, Radix2, Radix4}
use Rattle.plan.specs.Methods.{sizes, sized}
use Rattle.plan.specs.Meaning.{figures_of, radix}
use Rattle.plan.proofs.Powers.{carried}
use Rattle.lines.specs.Lines.{sum_below, part, weight, butterfly, mix, radix_line_of, direct_line_of, divisions, line_of}
use Rattle.lines.specs.Laws.{Within, Samples, LinesBounded, LinesMeant, meant}
use Rattle.lines.proofs.Butterflies.{weight_first, weight_next, weight_first_small, weight_small}

-- what lies within b

pub within_more : (a b : ℕ) (x : Complex) → a ≤ b → Within a x → Within b x
within_more a b x h w = record { re = le_trans w.re h; im = le_trans w.im h }

pub within_sum : (a b : ℕ) (x y : Complex) → Within a x → Within b y → Within (a + b) (x ⊕ y)
within_sum a b x y v w =
    let p = v.re in
    let q = v.im in
    let p' = w.re in
    let q' = w.im in
    record { re = omega (arith, abs_sum x.re y.re); im = omega (arith, abs_sum x.im y.im) }

pub within_turned : (b k : ℕ) (x : Complex) → Within b x → Within b (turned k x)
unfolding turned
within_turned b zero x w = w
within_turned b (suc k) x w =
    let v = within_turned b k x w in
    let p : nat_abs (turned k x).re ≤ b = v.re in
    record { re = v.im; im = omega (arith, ints) }

-- |a c| + |b d| is at most (|a| + |b|) times a bound of |c| and |d|
two_products : (a b c d : ℤ) (w n : ℕ) → nat_abs a + nat_abs b ≤ w → nat_abs c ≤ n → nat_abs d ≤ n → nat_abs (a *ℤ c) + nat_abs (b *ℤ d) ≤ w * n
two_products a b c d w n h p q =
    let e : nat_abs (a *ℤ c) ≤ nat_abs a * n = rw abs_times (mul-le-mul_left (nat_abs a) p) in
    let f : nat_abs (b *ℤ d) ≤ nat_abs b * n = rw abs_times (mul-le-mul_left (nat_abs b) q) in
    let g : (nat_abs a + nat_abs b) * n ≤ w * n = mul-le-mul_right n h in
    let i : (nat_abs a + nat_abs b) * n ≡ nat_abs a * n + nat_abs b * n = add-mul (nat_abs a) (nat_abs b) n in
    omega arith

pub within_product : (w b : ℕ) (g x : Complex) → together g ≤ w → Within b x → Within (w * b) (g ⊗ x)
within_product w b g x h v = record {
  re = le_trans (abs_difference (g.re *ℤ x.re) (g.im *ℤ x.im)) (two_products g.re g.im x.re x.im w b h v.re v.im);
  im = le_trans (abs_sum (g.re *ℤ x.im) (g.im *ℤ x.re)) (two_products g.re g.im x.im x.re w b h v.im v.re);
}

-- a sum of n terms, each within b
pub within_sums : (n b : ℕ) (x : ℕ → Complex) → ((i : ℕ) → i < n → Within b (x i)) → Within (n * b) (sum_below n x)
unfolding sum_below
within_sums zero b x h = record { re = omega arith; im = omega arith }
within_sums (suc n) b x h = rw suc-mul (within_sum (n * b) b _ _ (within_sums n b x (λ i l. h i (omega arith))) (h n (omega arith)))

-- and one where the first term is within a, the others within b
pub within_first : (n a b : ℕ) (x : ℕ → Complex) → Within a (x 0) → ((i : ℕ) → suc i < suc n → Within b (x (suc i))) → Within (a + n * b) (sum_below (suc n) x)
unfolding sum_below
within_first zero a b x h w =
    let p = h.re in
    let q = h.im in
    record { re = omega (arith, ints); im = omega (arith, ints) }
within_first (suc n) a b x h w =
    let e : a + n * b + b ≡ a + suc n * b = rw suc-mul (omega arith) in
    subst (λ (z : ℕ). Within z (sum_below (suc (suc n)) x)) e (within_sum (a + n * b) b _ _ (within_first n a b x h (λ i l. w i (omega arith))) (w n (omega arith)))

-- the factors of a part together: 1 up to size 4; above, the scale for part 0 and the spread for the others
small_sizes : (q m i k : ℕ) → m ≤ 4 → together (weight q m i k) ≤ 1
small_sizes q m zero k h = rw (weight_first_small q m k h) (lit≤ tt)
small_sizes q m (suc i) k h = rw (weight_small q m i k h, sizes_turned (suc i * k * (4 / m)) (real (pos 1))) (lit≤ tt)

first_sizes : (q m k : ℕ) → 4 < m → together (weight q m 0 k) ≤ q
first_sizes q m k h = rw (weight_first q m k h) (omega (arith, ints))

pub next_sizes : (q m i k : ℕ) → 4 < m → together (weight q m (suc i) k) ≤ spread q
next_sizes q m i k h = rw (weight_next q m i k h) (twiddle_sizes q (suc i * k * (256 / m)))

-- every line of size r^t over samples within q1 is within b
abbrev pub Bounded : ℕ → ℕ → ℕ → ℕ → ℕ → Type 0
Bounded q r t q1 b = (s : ℕ → Complex) → Samples (r ^ t) q1 s → (j : ℕ) → j < r ^ t → Within b (radix_line_of q r t s j)

pub part_samples : (r t q1 : ℕ) (s : ℕ → Complex) (i : ℕ) → i < r → Samples (r ^ suc t) q1 s → Samples (r ^ t) q1 (part r i s)
part_samples r t q1 s i h w n l =
    w (r * n + i) (rw (pow-suc r t, mul_comm r n) (digits_lt l h))

pub bounded_one : (q r q1 : ℕ) → Bounded q r 0 q1 q1
unfolding radix_line_of
bounded_one q r q1 s w j h = w 0 (rw pow-zero (lit< tt))

-- up to size 4 the bound grows by the radix
pub bounded_small : (q r t q1 b : ℕ) → 1 ≤ r → r ^ suc t ≤ 4 → Bounded q r t q1 b → Bounded q r (suc t) q1 (r * b)
unfolding radix_line_of mix butterfly
bounded_small q r t q1 b one le ih s w j h =
    let k = j % r ^ t in
    let l = j / r ^ t in
    let c : k < r ^ t = mod-lt j (one-le-pow t r one) in
    within_sums r b _ (λ i m. within_turned b (i * l * (4 / r)) _
    (subst (λ (z : ℕ). Within z (weight q (r ^ suc t) i k ⊗ radix_line_of q r t (part r i s) k)) (one-mul b)
    (within_product 1 b _ _ (small_sizes q (r ^ suc t) i k le) (ih (part r i s) (part_samples r t q1 s i m w) k c))))

-- above it grows by the scale for part 0 and the spread for each other part
pub bounded_large : (q n t q1 b g : ℕ) → 4 < suc n ^ suc t → q + n * spread q ≡ g → Bounded q (suc n) t q1 b → Bounded q (suc n) (suc t) q1 (g * b)
unfolding radix_line_of mix butterfly
bounded_large q n t q1 b g more e ih s w j h =
    let r = suc n in
    let k = j % r ^ t in
    let l = j / r ^ t in
    let c : k < r ^ t = mod-lt j (one-le-pow t r (omega arith)) in
    let d : q * b + n * (spread q * b) ≡ g * b = ap (λ (x : ℕ). q * b + x) (sym (mul_assoc n (spread q) b)) ∙ sym (add-mul q (n * spread q) b) ∙ ap (λ (x : ℕ). x * b) e in
    subst (λ (z : ℕ). Within z (sum_below r (λ i. turned (i * l * (4 / r)) (weight q (r ^ suc t) i k ⊗ radix_line_of q r t (part r i s) k)))) d
    (within_first n (q * b) (spread q * b) _
    (within_turned (q * b) (0 * l * (4 / r)) _ (within_product q b _ _ (first_sizes q (r ^ suc t) k more) (ih (part r 0 s) (part_samples r t q1 s 0 (omega arith) w) k c)))
    (λ i m. within_turned (spread q * b) (suc i * l * (4 / r)) _ (within_product (spread q) b _ _ (next_sizes q (r ^ suc t) i k more) (ih (part r (suc i) s) (part_samples r t q1 s (suc i) m w) k c))))

bounded_as : (q r t q1 b c : ℕ) → b ≤ c → Bounded q r t q1 b → Bounded q r t q1 c
bounded_as q r t q1 b c h w s v j l = within_more b c _ h (w s v j l)

-- the bound at each lawful size

abbrev BoundAt : Method → ℕ → ℕ → ℕ → Type 0
BoundAt k q1 q2 m = (s : ℕ → Complex) → Samples m q1 s → (j : ℕ) → j < m → Within (figures_of k m q1 q2).bound (line_of k m q2 s j)

direct_bound : (q1 q2 m : ℕ) → BoundAt Direct q1 q2 m
unfolding direct_line_of
direct_bound q1 q2 m s w j h =
    let e : m * (spread q2 * q1) ≡ m * q1 * spread q2 = ap (λ (x : ℕ). m * x) (mul_comm (spread q2) q1) ∙ sym (mul_assoc m q1 (spread q2)) in
    subst (λ (z : ℕ). Within z (sum_below m (λ n. twiddle q2 (n * j * (256 / m)) ⊗ s n))) e
    (within_sums m (spread q2 * q1) _ (λ n l. within_product (spread q2) q1 _ _ (twiddle_sizes q2 (n * j * (256 / m))) (w n l)))

bound : (k : Method) (q1 q2 m : ℕ) → sized k m ≡ true → BoundAt k q1 q2 m
unfolding radix divisions
bound Direct q1 q2 m h = direct_bound q1 q2 m
bound Radix2 q1 q2 m h =
    let e : q2 + 1 * spread q2 ≡ q2 + spread q2 = omega arith in
    let b : ℕ → ℕ = λ n. (figures_of Radix2 n q1 q2).bound in
    let s0 : Bounded q2 2 0 q1 (b 1) = bounded_as q2 2 0 q1 q1 (1 * q1) (omega arith) (bounded_one q2 2 q1) in
    let s1 : Bounded q2 2 1 q1 (b 2) = bounded_as q2 2 1 q1 (2 * (1 * q1)) (2 * q1) (omega arith) (bounded_small q2 2 0 q1 (1 * q1) (lit≤ tt) (lit≤ tt) s0) in
    let s2 : Bounded q2 2 2 q1 (b 4) = bounded_as q2 2 2 q1 (2 * (2 * q1)) (4 * q1) (omega arith) (bounded_small q2 2 1 q1 (2 * q1) (lit≤ tt) (lit≤ tt) s1) in
    let s3 : Bounded q2 2 3 q1 (b 8) = bounded_large q2 1 2 q1 (b 4) _ (lit< tt) e s2 in
    let s4 : Bounded q2 2 4 q1 (b 16) = bounded_large q2 1 3 q1 (b 8) _ (lit< tt) e s3 in
    let s5 : Bounded q2 2 5 q1 (b 32) = bounded_large q2 1 4 q1 (b 16) _ (lit< tt) e s4 in
    let s6 : Bounded q2 2 6 q1 (b 64) = bounded_large q2 1 5 q1 (b 32) _ (lit< tt) e s5 in
    let s7 : Bounded q2 2 7 q1 (b 128) = bounded_large q2 1 6 q1 (b 64) _ (lit< tt) e s6 in
    let s8 : Bounded q2 2 8 q1 (b 256) = bounded_large q2 1 7 q1 (b 128) _ (lit< tt) e s7 in
    carried (BoundAt Radix2 q1 q2) (sizes Radix2) (s0, (s1, (s2, (s3, (s4, (s5, (s6, (s7, (s8, tt))))))))) m h
bound Radix4 q1 q2 m h =
    let b : ℕ → ℕ = λ n. (figures_of Radix4 n q1 q2).bound in
    let s0 : Bounded q2 4 0 q1 (b 1) = bounded_as q2 4 0 q1 q1 (1 * q1) (omega arith) (bounded_one q2 4 q1) in
    let s1 : Bounded q2 4 1 q1 (b 4) = bounded_as q2 4 1 q1 (4 * (1 * q1)) (4 * q1) (omega arith) (bounded_small q2 4 0 q1 (1 * q1) (lit≤ tt) (lit≤ tt) s0) in
    let s2 : Bounded q2 4 2 q1 (b 16) = bounded_large q2 3 1 q1 (b 4) _ (lit< tt) refl s1 in
    let s3 : Bounded q2 4 3 q1 (b 64) = bounded_large q2 3 2 q1 (b 16) _ (lit< tt) refl s2 in
    let s4 : Bounded q2 4 4 q1 (b 256) = bounded_large q2 3 3 q1 (b 64) _ (lit< tt) refl s3 in
    carried (BoundAt Radix4 q1 q2) (sizes Radix4) (s0, (s1, (s2, (s3, (s4, tt))))) m h

pub lines_bounded : LinesBounded
lines_bounded k m q1 q2 s h = bound k q1 q2 m h s

-- the meaning of the residue of what lies within the half of n
pub meant_within : (n b : ℕ) (x : Complex) → n % 2 ≡ 1 → 2 * b + 1 ≤ n → Within b x → meant n x ≡ x
meant_within n b x odd fits w =
    let p : nat_abs x.re ≤ half n = le_trans w.re (omega arith) in
    let q : nat_abs x.im ≤ half n = le_trans w.im (omega arith) in
    complex_same {c = x.re} {d = x.im} (centred_only x.re n odd p) (centred_only x.im n odd q)

pub lines_meant : LinesMeant
lines_meant k m q1 q2 s h w n odd fits j l =
    meant_within n (figures_of k m q1 q2).bound (line_of k m q2 s j) odd fits (lines_bounded k m q1 q2 s h w j l)
