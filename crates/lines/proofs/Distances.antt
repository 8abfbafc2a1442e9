-- The distance: how far a line lies from its scale's part of the fine transform.
use mathlib.Core.Path.{◌≡◌, refl, sym, ◌∙◌, ap, ap₂, subst, subst₂}
use mathlib.Core.Bool.{true}
use Prim.Native.Nat.{ℕ, zero, suc, ◌+◌, ◌*◌, ◌/◌, ◌%◌, ◌^◌, ◌<◌, ◌≤◌}
use native.Mathlib.Nat.{add-zero, zero-mul, pow-zero, add_comm, mul_comm, mul_assoc, mul_left_comm, add-mul, mul-add, mul-le-mul_right, mul-le-mul_left, one-le-pow, mod-lt, div-add-mod', div-lt_iff_lt-mul, pow-succ'}
use native.Mathlib.Omega.{arith}
use lib.Dec.{lit<, lit≤}
use lib.IntN.{ℤ, pos, nat_abs, ◌*ℤ◌, +ℤ_idl}
use Rattle.integers.specs.declared.Complex.{Complex}
use Rattle.integers.specs.Complex.{complex, ◌⊕◌, ◌⊗◌, ◌⊙◌, real}
use Rattle.integers.proofs.Ring.{one_left, times_assoc}
use Rattle.integers.proofs.ComplexRing.{complex_same, ⊗-comm, ⊗-assoc, ⊙-⊗, real-⊗, one-⊗}
use Rattle.circle.specs.Near.{Near, multiple, turned, sizes as together}
use Rattle.circle.specs.Spread.{spread}
use Rattle.circle.specs.Circle.{circle, point}
use Rattle.circle.specs.Fine.{fine}
use Rattle.circle.specs.Twiddle.{twiddle}
use Rattle.circle.proofs.Fine.{fine_turned, fine_sizes, fine_product}
use Rattle.circle.proofs.Turns.{turned_mul, multiple_turned, near_turned}
use Rattle.circle.proofs.Twiddles.{twiddle_sizes, twiddle_near, abs_multiple}
use Rattle.plan.specs.declared.method.Method.{Method}
use Rattle.plan.specs.declared.method.Method.TheVariants.{Direct, Radix2, Radix4}
use Rattle.plan.specs.Methods.{sizes, sized}
use Rattle.plan.specs.Meaning.{figures_of, radix}
use Rattle.plan.proofs.Powers.{carried}
use Rattle.lines.specs.Lines.{sum_below, part, weight, butterfly, mix, radix_line_of, direct_line_of, divisions, line_of, fine_line_of}
use Rattle.lines.specs.Laws.{Within, Samples, LinesNear}
use Rattle.lines.proofs.Butterflies.{sum_same, weight_first, weight_next, weight_first_small, weight_small}
use Rattle.lines.proofs.Places.{line_step}
use Rattle.lines.proofs.Sums.{sum_product, sum_multiple, sum_turned}
use Rattle.lines.proofs.Bounds.{within_sums, within_product, part_samples}
use Rattle.lines.proofs.Nears.{near_same, near_more, near_via, near_sums, near_first, near_product, near_factor, near_multiple, near_cancel}
use Rattle.lines.proofs.Fine.{fine_part, fine_step}

-- multiples and products

⊗-⊙ : (a : ℤ) (x y : Complex) → x ⊗ (a ⊙ y) ≡ a ⊙ (x ⊗ y)
⊗-⊙ a x y = ⊗-comm x (a ⊙ y) ∙ ⊙-⊗ a y x ∙ ap (λ (z : Complex). a ⊙ z) (⊗-comm y x)

⊙-⊙ : (a b : ℤ) (x : Complex) → a ⊙ (b ⊙ x) ≡ (a *ℤ b) ⊙ x
⊙-⊙ a b x = complex_same (sym (times_assoc a b x.re)) (sym (times_assoc a b x.im))

-- a (b x) = b (a x)
⊙-swap : (a b : ℕ) (x : Complex) → multiple a (multiple b x) ≡ multiple b (multiple a x)
⊙-swap a b x = ⊙-⊙ (pos a) (pos b) x ∙ ap (λ (n : ℕ). multiple n x) (mul_comm a b) ∙ sym (⊙-⊙ (pos b) (pos a) x)

multiples : (a b : ℕ) (x y : Complex) → multiple a x ⊗ multiple b y ≡ multiple (a * b) (x ⊗ y)
multiples a b x y = ⊙-⊗ (pos a) x (multiple b y) ∙ ap (multiple a) (⊗-⊙ (pos b) x y) ∙ ⊙-⊙ (pos a) (pos b) (x ⊗ y)

multiple_one : (x : Complex) → x ≡ multiple 1 x
multiple_one x = complex_same {a = x.re} {b = x.im} (sym (one_left x.re)) (sym (one_left x.im))

within_multiple : (n b : ℕ) (x : Complex) → Within b x → Within (n * b) (multiple n x)
within_multiple n b x h = record {
  re = rw abs_multiple (mul-le-mul_left n h.re);
  im = rw abs_multiple (mul-le-mul_left n h.im);
}

sizes_multiple : (n : ℕ) (x : Complex) → together (multiple n x) ≡ n * together x
sizes_multiple n x = ap₂ ◌+◌ (abs_multiple n x.re) (abs_multiple n x.im) ∙ sym (mul-add n (nat_abs x.re) (nat_abs x.im))

none-⊕ : (x : Complex) → complex (pos 0) (pos 0) ⊕ x ≡ x
none-⊕ x = complex_same {c = x.re} {d = x.im} (+ℤ_idl x.re) (+ℤ_idl x.im)

-- up to size 4 lines are exact

-- 2^30 times each line of size r^t is the fine line
abbrev Exactly : ℕ → ℕ → ℕ → Type 0
Exactly q r t = (s : ℕ → Complex) (j : ℕ) → j < r ^ t → multiple (2 ^ 30) (radix_line_of q r t s j) ≡ fine_line_of (r ^ t) s j

-- how the gaps of two sizes, r^t and r^(t + 1), and the turns of the radix go together
pub record Gaps (r t : ℕ) : Type 0 where
  pub turns : r * (4 / r) ≡ 4
  pub quarter : r ^ t * (256 / r ^ suc t) ≡ 64 * (4 / r)
  pub next : 256 / r ^ t ≡ r * (256 / r ^ suc t)

fine_start : fine 0 ≡ real (pos (2 ^ 30))
unfolding fine turned circle point
fine_start = refl

exact_one : (q r : ℕ) → Exactly q r 0
unfolding radix_line_of fine_line_of sum_below
exact_one q r s j h =
    let e : r ^ 0 ≡ 1 = pow-zero r in
    let z : 0 * j * 256 ≡ 0 = omega arith in
    let f : fine (0 * j * 256) ⊗ s 0 ≡ multiple (2 ^ 30) (s 0) = ap (λ (x : Complex). x ⊗ s 0) (ap fine z ∙ fine_start) ∙ real-⊗ (pos (2 ^ 30)) (s 0) in
    let w : fine_line_of 1 s j ≡ multiple (2 ^ 30) (s 0) = none-⊕ (fine (0 * j * 256) ⊗ s 0) ∙ f in
    sym w ∙ ap (λ (n : ℕ). fine_line_of n s j) (sym e)

weight_turn : (q m i k : ℕ) → m ≤ 4 → weight q m i k ≡ turned (i * k * (4 / m)) (real (pos 1))
unfolding turned
weight_turn q m zero k h =
    let e : 0 ≡ 0 * k * (4 / m) = rw zero-mul (sym (zero-mul (4 / m))) in
    weight_first_small q m k h ∙ ap (λ (n : ℕ). turned n (real (pos 1))) e
weight_turn q m (suc i) k h = weight_small q m i k h

exact_part : (q r t i k : ℕ) (s : ℕ → Complex) → r ^ suc t ≤ 4 → Gaps r t → 256 / r ^ suc t ≡ 64 * (4 / r ^ suc t) → Exactly q r t → k < r ^ t → multiple (2 ^ 30) (weight q (r ^ suc t) i k ⊗ radix_line_of q r t (part r i s) k) ≡ fine_part r (r ^ t) (256 / r ^ suc t) i k s
unfolding fine_line_of fine_part
exact_part q r t i k s le gaps e ih h =
    let m = r ^ suc t in
    let c = 256 / m in
    let a = i * k * (4 / m) in
    let x = radix_line_of q r t (part r i s) k in
    let w : weight q m i k ⊗ x ≡ turned a x = ap (λ (y : Complex). y ⊗ x) (weight_turn q m i k le) ∙ turned_mul a (real (pos 1)) x ∙ ap (turned a) (one-⊗ x) in
    let u : 64 * a ≡ i * k * c = mul_left_comm 64 (i * k) (4 / m) ∙ ap (λ (y : ℕ). i * k * y) (sym e) in
    let term : (n : ℕ) → turned a (fine (n * k * (256 / r ^ t)) ⊗ part r i s n) ≡ fine (n * k * (r * c) + i * k * c) ⊗ part r i s n = λ n. sym (turned_mul a (fine (n * k * (256 / r ^ t))) (part r i s n)) ∙ ap (λ (y : Complex). y ⊗ part r i s n) (sym (fine_turned (n * k * (256 / r ^ t)) a) ∙ ap fine (ap₂ ◌+◌ (ap (λ (y : ℕ). n * k * y) gaps.next) u)) in
    ap (multiple (2 ^ 30)) w ∙ multiple_turned (2 ^ 30) a x ∙ ap (turned a) (ih (part r i s) k h)
    ∙ sum_turned a (r ^ t) (λ n. fine (n * k * (256 / r ^ t)) ⊗ part r i s n) ∙ sum_same (r ^ t) _ _ (λ n b. term n)

-- the parts of a line, each times a multiple
split_line : (a q r t : ℕ) (s : ℕ → Complex) (l k : ℕ) → k < r ^ t → multiple a (radix_line_of q r (suc t) s (l * r ^ t + k)) ≡ sum_below r (λ i. turned (i * l * (4 / r)) (multiple a (weight q (r ^ suc t) i k ⊗ radix_line_of q r t (part r i s) k)))
unfolding mix butterfly
split_line a q r t s l k h =
    ap (multiple a) (line_step q r t s k l h) ∙ sum_multiple (pos a) r (λ i. turned (i * l * (4 / r)) (weight q (r ^ suc t) i k ⊗ radix_line_of q r t (part r i s) k))
    ∙ sum_same r _ _ (λ i b. multiple_turned a (i * l * (4 / r)) (weight q (r ^ suc t) i k ⊗ radix_line_of q r t (part r i s) k))

split_fine : (a r t : ℕ) (s : ℕ → Complex) (l k : ℕ) → Gaps r t → multiple a (fine_line_of (r ^ suc t) s (l * r ^ t + k)) ≡ sum_below r (λ i. turned (i * l * (4 / r)) (multiple a (fine_part r (r ^ t) (256 / r ^ suc t) i k s)))
split_fine a r t s l k gaps =
    ap (multiple a) (fine_step r t (4 / r) s l k gaps.quarter gaps.turns) ∙ sum_multiple (pos a) r (λ i. turned (i * l * (4 / r)) (fine_part r (r ^ t) (256 / r ^ suc t) i k s))
    ∙ sum_same r _ _ (λ i b. multiple_turned a (i * l * (4 / r)) (fine_part r (r ^ t) (256 / r ^ suc t) i k s))

-- a fact of each l·r^t + k is a fact of each number below r^(t + 1)
by_digits : (P : ℕ → Type 0) (r t : ℕ) → 1 ≤ r → ((l k : ℕ) → l < r → k < r ^ t → P (l * r ^ t + k)) → (j : ℕ) → j < r ^ suc t → P j
by_digits P r t one w j h =
    let p : 1 ≤ r ^ t = one-le-pow t r one in
    subst P (div-add-mod' j (r ^ t)) (w (j / r ^ t) (j % r ^ t) ((div-lt_iff_lt-mul p).1 (rw pow-succ' at h)) (mod-lt j p))

exact_step : (q r t : ℕ) → 1 ≤ r → r ^ suc t ≤ 4 → Gaps r t → 256 / r ^ suc t ≡ 64 * (4 / r ^ suc t) → Exactly q r t → Exactly q r (suc t)
exact_step q r t one le gaps e ih s =
    by_digits (λ j. multiple (2 ^ 30) (radix_line_of q r (suc t) s j) ≡ fine_line_of (r ^ suc t) s j) r t one
    (λ l k b h. split_line (2 ^ 30) q r t s l k h ∙ sum_same r _ _ (λ i c. ap (turned (i * l * (4 / r))) (exact_part q r t i k s le gaps e ih h))
    ∙ sym (fine_step r t (4 / r) s l k gaps.quarter gaps.turns))

-- above size 4

-- every line of size r^t over samples within q1 is near the fine line times d
abbrev pub Nearby : ℕ → ℕ → ℕ → ℕ → ℕ → ℕ → Type 0
Nearby q r t q1 d e = (s : ℕ → Complex) → Samples (r ^ t) q1 s → (j : ℕ) → j < r ^ t → Near (2 ^ 30 * e) (multiple (2 ^ 30) (radix_line_of q r t s j)) (multiple d (fine_line_of (r ^ t) s j))

near_exact : (q r t q1 : ℕ) → Exactly q r t → Nearby q r t q1 1 0
near_exact q r t q1 h s w j l = near_same 0 _ _ (h s j l ∙ multiple_one (fine_line_of (r ^ t) s j))

fine_within : (m q1 k : ℕ) (x : ℕ → Complex) → Samples m q1 x → Within (m * (3 * 2 ^ 29 * q1)) (fine_line_of m x k)
unfolding fine_line_of
fine_within m q1 k x w = within_sums m (3 * 2 ^ 29 * q1) _ (λ n l. within_product (3 * 2 ^ 29) q1 (fine (n * k * (256 / m))) (x n) (fine_sizes (n * k * (256 / m))) (w n l))

-- a fine twiddle times a fine line is, but for rounding, the line turned on by its angle
fine_times : (m q1 k u : ℕ) (x : ℕ → Complex) → Samples m q1 x → Near (m * (2 * (8 * 2 ^ 30) * q1)) (fine u ⊗ fine_line_of m x k) (multiple (2 ^ 30) (sum_below m (λ n. fine (n * k * (256 / m) + u) ⊗ x n)))
unfolding fine_line_of
fine_times m q1 k u x w =
    let v : ℕ → ℕ = λ n. n * k * (256 / m) in
    let e : fine u ⊗ sum_below m (λ n. fine (v n) ⊗ x n) ≡ sum_below m (λ n. (fine u ⊗ fine (v n)) ⊗ x n) = sum_product (fine u) m (λ n. fine (v n) ⊗ x n) ∙ sum_same m _ _ (λ n b. sym (⊗-assoc (fine u) (fine (v n)) (x n))) in
    let f : multiple (2 ^ 30) (sum_below m (λ n. fine (v n + u) ⊗ x n)) ≡ sum_below m (λ n. multiple (2 ^ 30) (fine (u + v n)) ⊗ x n) = sum_multiple (pos (2 ^ 30)) m (λ n. fine (v n + u) ⊗ x n) ∙ sum_same m _ _ (λ n b. sym (⊙-⊗ (pos (2 ^ 30)) (fine (v n + u)) (x n)) ∙ ap (λ (a : ℕ). multiple (2 ^ 30) (fine a) ⊗ x n) (add_comm (v n) u)) in
    rw (e, f) (near_sums m (2 * (8 * 2 ^ 30) * q1) _ _ (λ n b. near_factor (8 * 2 ^ 30) q1 (fine u ⊗ fine (v n)) (multiple (2 ^ 30) (fine (u + v n))) (x n) (fine_product u (v n)) (w n b)))

costs : (a v w : ℕ) → w ≤ 32768 * v → 2 ^ 30 * a + (2 * 2 ^ 29 * (3 * 2 ^ 29 * v) + 2 * (8 * 2 ^ 30) * w) ≤ 2 ^ 30 * (a + (3 * 2 ^ 29 + 2 ^ 19) * v)
costs a v w h = omega arith

-- what a part with a twiddle costs, times 2^30
part_cost : (t e d m q1 q : ℕ) → q ≤ 32768 → 2 ^ 30 * t * (2 ^ 30 * e) + (2 * 2 ^ 29 * (d * (m * (3 * 2 ^ 29 * q1))) + q * d * (m * (2 * (8 * 2 ^ 30) * q1))) ≤ 2 ^ 30 * (t * (2 ^ 30 * e) + (3 * 2 ^ 29 + 2 ^ 19) * (d * (m * q1)))
part_cost t e d m q1 q h =
    let v = d * (m * q1) in
    let a : 2 ^ 30 * t * (2 ^ 30 * e) ≡ 2 ^ 30 * (t * (2 ^ 30 * e)) = mul_assoc (2 ^ 30) t (2 ^ 30 * e) in
    let b : d * (m * (3 * 2 ^ 29 * q1)) ≡ 3 * 2 ^ 29 * v = ap (λ (x : ℕ). d * x) (mul_left_comm m (3 * 2 ^ 29) q1) ∙ mul_left_comm d (3 * 2 ^ 29) (m * q1) in
    let c : q * d * (m * (2 * (8 * 2 ^ 30) * q1)) ≡ 2 * (8 * 2 ^ 30) * (q * v) = ap (λ (x : ℕ). q * d * x) (mul_left_comm m (2 * (8 * 2 ^ 30)) q1) ∙ mul_left_comm (q * d) (2 * (8 * 2 ^ 30)) (m * q1) ∙ ap (λ (x : ℕ). 2 * (8 * 2 ^ 30) * x) (mul_assoc q d (m * q1)) in
    let f : q * v ≤ 32768 * v = mul-le-mul_right v h in
    rw (a, b, c) (costs (t * (2 ^ 30 * e)) v (q * v) f)

-- part i of a line with the factor g, a twiddle
near_part : (q m r c i k q1 d e : ℕ) (g a : Complex) (s : ℕ → Complex) → q ≤ 32768 → together g ≤ spread q → Near (2 ^ 29) (multiple (2 ^ 30) g) (multiple q (fine (i * k * c))) → Samples m q1 (part r i s) → 256 / m ≡ r * c → Near (2 ^ 30 * e) (multiple (2 ^ 30) a) (multiple d (fine_line_of m (part r i s) k)) → Near (spread q * (2 ^ 30 * e) + (3 * 2 ^ 29 + 2 ^ 19) * (d * (m * q1))) (multiple (2 ^ 30) (g ⊗ a)) (multiple (q * d) (fine_part r m c i k s))
unfolding fine_part
near_part q m r c i k q1 d e g a s hq hg ng w gap ih =
    let u = i * k * c in
    let x = part r i s in
    let f = fine_line_of m x k in
    let y = fine_part r m c i k s in
    let g' = multiple (2 ^ 30) g in
    let a' = multiple (2 ^ 30) a in
    let size : together g' ≤ 2 ^ 30 * spread q = rw sizes_multiple (mul-le-mul_left (2 ^ 30) hg) in
    let n1 : Near (2 ^ 30 * spread q * (2 ^ 30 * e)) (g' ⊗ a') (g' ⊗ multiple d f) = near_product (2 ^ 30 * spread q) (2 ^ 30 * e) g' a' (multiple d f) size ih in
    let n2 : Near (2 * 2 ^ 29 * (d * (m * (3 * 2 ^ 29 * q1)))) (g' ⊗ multiple d f) (multiple q (fine u) ⊗ multiple d f) = near_factor (2 ^ 29) (d * (m * (3 * 2 ^ 29 * q1))) g' (multiple q (fine u)) (multiple d f) ng (within_multiple d (m * (3 * 2 ^ 29 * q1)) f (fine_within m q1 k x w)) in
    let e2 : multiple q (fine u) ⊗ multiple d f ≡ multiple (q * d) (fine u ⊗ f) = multiples q d (fine u) f in
    let same : sum_below m (λ n. fine (n * k * (256 / m) + u) ⊗ x n) ≡ y = sum_same m _ _ (λ n b. ap (λ (z : ℕ). fine (n * k * z + u) ⊗ x n) gap) in
    let n3 : Near (q * d * (m * (2 * (8 * 2 ^ 30) * q1))) (multiple (q * d) (fine u ⊗ f)) (multiple (q * d) (multiple (2 ^ 30) y)) = near_multiple (q * d) (m * (2 * (8 * 2 ^ 30) * q1)) (fine u ⊗ f) (multiple (2 ^ 30) y) (rw same at (fine_times m q1 k u x w)) in
    let e0 : g' ⊗ a' ≡ multiple (2 ^ 30) (multiple (2 ^ 30) (g ⊗ a)) = multiples (2 ^ 30) (2 ^ 30) g a ∙ sym (⊙-⊙ (pos (2 ^ 30)) (pos (2 ^ 30)) (g ⊗ a)) in
    let e3 : multiple (q * d) (multiple (2 ^ 30) y) ≡ multiple (2 ^ 30) (multiple (q * d) y) = ⊙-swap (q * d) (2 ^ 30) y in
    let b1 = 2 ^ 30 * spread q * (2 ^ 30 * e) in
    let b2 = 2 * 2 ^ 29 * (d * (m * (3 * 2 ^ 29 * q1))) in
    let b3 = q * d * (m * (2 * (8 * 2 ^ 30) * q1)) in
    let n23 : Near (b2 + b3) (g' ⊗ multiple d f) (multiple (2 ^ 30) (multiple (q * d) y)) = near_via b2 b3 _ (multiple (q * d) (fine u ⊗ f)) _ (subst (Near b2 (g' ⊗ multiple d f)) e2 n2) (subst (Near b3 (multiple (q * d) (fine u ⊗ f))) e3 n3) in
    let n123 : Near (b1 + (b2 + b3)) (multiple (2 ^ 30) (multiple (2 ^ 30) (g ⊗ a))) (multiple (2 ^ 30) (multiple (q * d) y)) = near_via b1 (b2 + b3) _ (g' ⊗ multiple d f) _ (subst (λ (z : Complex). Near b1 z (g' ⊗ multiple d f)) e0 n1) n23 in
    near_cancel (2 ^ 30) _ _ _ (lit< tt) (near_more _ _ _ _ (part_cost (spread q) e d m q1 q hq) n123)

-- part 0, with the scale as its factor
near_untouched : (q m r c k d e : ℕ) (a : Complex) (s : ℕ → Complex) → 256 / m ≡ r * c → Near (2 ^ 30 * e) (multiple (2 ^ 30) a) (multiple d (fine_line_of m (part r 0 s) k)) → Near (q * (2 ^ 30 * e)) (multiple (2 ^ 30) (real (pos q) ⊗ a)) (multiple (q * d) (fine_part r m c 0 k s))
unfolding fine_part fine_line_of
near_untouched q m r c k d e a s gap ih =
    let f = fine_line_of m (part r 0 s) k in
    let e1 : multiple q (multiple (2 ^ 30) a) ≡ multiple (2 ^ 30) (real (pos q) ⊗ a) = ⊙-swap q (2 ^ 30) a ∙ ap (multiple (2 ^ 30)) (sym (real-⊗ (pos q) a)) in
    let z : 0 * k * c ≡ 0 = rw zero-mul (zero-mul c) in
    let same : f ≡ fine_part r m c 0 k s = sum_same m _ _ (λ n b. ap (λ (x : ℕ). fine x ⊗ part r 0 s n) (ap (λ (x : ℕ). n * k * x) gap ∙ sym (add-zero (n * k * (r * c))) ∙ ap (λ (x : ℕ). n * k * (r * c) + x) (sym z))) in
    let e2 : multiple q (multiple d f) ≡ multiple (q * d) (fine_part r m c 0 k s) = ⊙-⊙ (pos q) (pos d) f ∙ ap (multiple (q * d)) same in
    subst₂ (Near (q * (2 ^ 30 * e))) e1 e2 (near_multiple q (2 ^ 30 * e) (multiple (2 ^ 30) a) (multiple d f) ih)

together_costs : (a b c v : ℕ) → c ≤ 2 ^ 30 * v → 2 ^ 30 * a + (2 ^ 30 * b + c) ≤ 2 ^ 30 * (a + b + v)
together_costs a b c v h = omega arith

-- what the parts of a stage cost together
stage_cost : (q n t e d m q1 g p w : ℕ) → n * (3 * 2 ^ 29 + 2 ^ 19) ≤ 2 ^ 30 * p → p * m ≡ w → q + n * t ≡ g → q * (2 ^ 30 * e) + n * (t * (2 ^ 30 * e) + (3 * 2 ^ 29 + 2 ^ 19) * (d * (m * q1))) ≤ 2 ^ 30 * (g * e + d * w * q1)
stage_cost q n t e d m q1 g p w h ew eg =
    let v = d * (m * q1) in
    let a : q * (2 ^ 30 * e) ≡ 2 ^ 30 * (q * e) = mul_left_comm q (2 ^ 30) e in
    let b : n * (t * (2 ^ 30 * e) + (3 * 2 ^ 29 + 2 ^ 19) * v) ≡ 2 ^ 30 * (n * t * e) + n * (3 * 2 ^ 29 + 2 ^ 19) * v =
    mul-add n (t * (2 ^ 30 * e)) ((3 * 2 ^ 29 + 2 ^ 19) * v) ∙ ap₂ ◌+◌ (ap (λ (x : ℕ). n * x) (mul_left_comm t (2 ^ 30) e) ∙ mul_left_comm n (2 ^ 30) (t * e) ∙ ap (λ (x : ℕ). 2 ^ 30 * x) (sym (mul_assoc n t e))) (sym (mul_assoc n (3 * 2 ^ 29 + 2 ^ 19) v)) in
    let c : g * e ≡ q * e + n * t * e = ap (λ (x : ℕ). x * e) (sym eg) ∙ add-mul q (n * t) e in
    let f : d * w * q1 ≡ p * v = ap (λ (x : ℕ). d * x * q1) (sym ew) ∙ mul_assoc d (p * m) q1 ∙ ap (λ (x : ℕ). d * x) (mul_assoc p m q1) ∙ mul_left_comm d p (m * q1) in
    let i : n * (3 * 2 ^ 29 + 2 ^ 19) * v ≤ 2 ^ 30 * (p * v) = rw (← mul_assoc (2 ^ 30) p v) (mul-le-mul_right v h) in
    rw (a, b, c, f) (together_costs (q * e) (n * t * e) (n * (3 * 2 ^ 29 + 2 ^ 19) * v) (p * v) i)

-- a stage above size 4, with n twiddles in a butterfly; p is the room for their rounding
near_large : (q n t q1 d e g p w : ℕ) → 4 < suc n ^ suc t → q ≤ 32768 → Gaps (suc n) t → n * (3 * 2 ^ 29 + 2 ^ 19) ≤ 2 ^ 30 * p → p * suc n ^ t ≡ w → q + n * spread q ≡ g → Nearby q (suc n) t q1 d e → Nearby q (suc n) (suc t) q1 (q * d) (g * e + d * w * q1)
near_large q n t q1 d e g p w more hq gaps room ew eg ih s v =
    let r = suc n in
    let m = r ^ t in
    let c = 256 / r ^ suc t in
    let b = 2 ^ 30 * (g * e + d * w * q1) in
    let first = q * (2 ^ 30 * e) in
    let other = spread q * (2 ^ 30 * e) + (3 * 2 ^ 29 + 2 ^ 19) * (d * (m * q1)) in
    by_digits (λ j. Near b (multiple (2 ^ 30) (radix_line_of q r (suc t) s j)) (multiple (q * d) (fine_line_of (r ^ suc t) s j))) r t (omega arith)
    (λ l k hl hk.
    subst₂ (Near b) (sym (split_line (2 ^ 30) q r t s l k hk)) (sym (split_fine (q * d) r t s l k gaps))
    (near_more (first + n * other) b _ _ (stage_cost q n (spread q) e d m q1 g p w room ew eg)
    (near_first n first other _ _
    (near_turned first (0 * l * (4 / r)) _ _
    (subst (λ (x : Complex). Near first (multiple (2 ^ 30) (x ⊗ radix_line_of q r t (part r 0 s) k)) (multiple (q * d) (fine_part r m c 0 k s))) (sym (weight_first q (r ^ suc t) k more))
    (near_untouched q m r c k d e (radix_line_of q r t (part r 0 s) k) s gaps.next (ih (part r 0 s) (part_samples r t q1 s 0 (omega arith) v) k hk))))
    (λ i hi. near_turned other (suc i * l * (4 / r)) _ _
    (subst (λ (x : Complex). Near other (multiple (2 ^ 30) (x ⊗ radix_line_of q r t (part r (suc i) s) k)) (multiple (q * d) (fine_part r m c (suc i) k s))) (sym (weight_next q (r ^ suc t) i k more))
    (near_part q m r c (suc i) k q1 d e (twiddle q (suc i * k * c)) (radix_line_of q r t (part r (suc i) s) k) s hq (twiddle_sizes q (suc i * k * c)) (twiddle_near q (suc i * k * c)) (part_samples r t q1 s (suc i) hi v) gaps.next (ih (part r (suc i) s) (part_samples r t q1 s (suc i) hi v) k hk)))))))

-- the distance at each lawful size

abbrev NearAt : Method → ℕ → ℕ → ℕ → Type 0
NearAt k q1 q2 m = (s : ℕ → Complex) → Samples m q1 s → (j : ℕ) → j < m → Near (2 ^ 30 * (figures_of k m q1 q2).distance) (multiple (2 ^ 30) (line_of k m q2 s j)) (multiple (figures_of k m q1 q2).scale (fine_line_of m s j))

direct_near : (q1 q2 m : ℕ) → NearAt Direct q1 q2 m
unfolding direct_line_of fine_line_of
direct_near q1 q2 m s w j h =
    let u : ℕ → ℕ = λ n. n * j * (256 / m) in
    let e1 : multiple (2 ^ 30) (sum_below m (λ n. twiddle q2 (u n) ⊗ s n)) ≡ sum_below m (λ n. multiple (2 ^ 30) (twiddle q2 (u n)) ⊗ s n) = sum_multiple (pos (2 ^ 30)) m (λ n. twiddle q2 (u n) ⊗ s n) ∙ sum_same m _ _ (λ n b. sym (⊙-⊗ (pos (2 ^ 30)) (twiddle q2 (u n)) (s n))) in
    let e2 : multiple q2 (sum_below m (λ n. fine (u n) ⊗ s n)) ≡ sum_below m (λ n. multiple q2 (fine (u n)) ⊗ s n) = sum_multiple (pos q2) m (λ n. fine (u n) ⊗ s n) ∙ sum_same m _ _ (λ n b. sym (⊙-⊗ (pos q2) (fine (u n)) (s n))) in
    let e3 : m * (2 * 2 ^ 29 * q1) ≡ 2 ^ 30 * (m * q1) = mul_left_comm m (2 * 2 ^ 29) q1 in
    subst (λ (b : ℕ). Near b (multiple (2 ^ 30) (sum_below m (λ n. twiddle q2 (u n) ⊗ s n))) (multiple q2 (sum_below m (λ n. fine (u n) ⊗ s n)))) e3
    (subst₂ (Near (m * (2 * 2 ^ 29 * q1))) (sym e1) (sym e2)
    (near_sums m (2 * 2 ^ 29 * q1) _ _ (λ n b. near_factor (2 ^ 29) q1 (multiple (2 ^ 30) (twiddle q2 (u n))) (multiple q2 (fine (u n))) (s n) (twiddle_near q2 (u n)) (w n b))))

near : (k : Method) (q1 q2 m : ℕ) → sized k m ≡ true → q2 ≤ 32768 → NearAt k q1 q2 m
unfolding radix divisions
near Direct q1 q2 m h hq = direct_near q1 q2 m
near Radix2 q1 q2 m h hq =
    let e : q2 + 1 * spread q2 ≡ q2 + spread q2 = omega arith in
    let d : ℕ → ℕ = λ n. (figures_of Radix2 n q1 q2).scale in
    let f : ℕ → ℕ = λ n. (figures_of Radix2 n q1 q2).distance in
    let x0 : Exactly q2 2 0 = exact_one q2 2 in
    let x1 : Exactly q2 2 1 = exact_step q2 2 0 (lit≤ tt) (lit≤ tt) (record { turns = refl; quarter = refl; next = refl }) refl x0 in
    let x2 : Exactly q2 2 2 = exact_step q2 2 1 (lit≤ tt) (lit≤ tt) (record { turns = refl; quarter = refl; next = refl }) refl x1 in
    let s2 : Nearby q2 2 2 q1 (d 4) (f 4) = near_exact q2 2 2 q1 x2 in
    let s3 : Nearby q2 2 3 q1 (d 8) (f 8) = near_large q2 1 2 q1 (d 4) (f 4) _ 2 8 (lit< tt) hq (record { turns = refl; quarter = refl; next = refl }) (lit≤ tt) refl e s2 in
    let s4 : Nearby q2 2 4 q1 (d 16) (f 16) = near_large q2 1 3 q1 (d 8) (f 8) _ 2 16 (lit< tt) hq (record { turns = refl; quarter = refl; next = refl }) (lit≤ tt) refl e s3 in
    let s5 : Nearby q2 2 5 q1 (d 32) (f 32) = near_large q2 1 4 q1 (d 16) (f 16) _ 2 32 (lit< tt) hq (record { turns = refl; quarter = refl; next = refl }) (lit≤ tt) refl e s4 in
    let s6 : Nearby q2 2 6 q1 (d 64) (f 64) = near_large q2 1 5 q1 (d 32) (f 32) _ 2 64 (lit< tt) hq (record { turns = refl; quarter = refl; next = refl }) (lit≤ tt) refl e s5 in
    let s7 : Nearby q2 2 7 q1 (d 128) (f 128) = near_large q2 1 6 q1 (d 64) (f 64) _ 2 128 (lit< tt) hq (record { turns = refl; quarter = refl; next = refl }) (lit≤ tt) refl e s6 in
    let s8 : Nearby q2 2 8 q1 (d 256) (f 256) = near_large q2 1 7 q1 (d 128) (f 128) _ 2 256 (lit< tt) hq (record { turns = refl; quarter = refl; next = refl }) (lit≤ tt) refl e s7 in
    carried (NearAt Radix2 q1 q2) (sizes Radix2) (near_exact q2 2 0 q1 x0, (near_exact q2 2 1 q1 x1, (s2, (s3, (s4, (s5, (s6, (s7, (s8, tt))))))))) m h
near Radix4 q1 q2 m h hq =
    let d : ℕ → ℕ = λ n. (figures_of Radix4 n q1 q2).scale in
    let f : ℕ → ℕ = λ n. (figures_of Radix4 n q1 q2).distance in
    let x0 : Exactly q2 4 0 = exact_one q2 4 in
    let x1 : Exactly q2 4 1 = exact_step q2 4 0 (lit≤ tt) (lit≤ tt) (record { turns = refl; quarter = refl; next = refl }) refl x0 in
    let s1 : Nearby q2 4 1 q1 (d 4) (f 4) = near_exact q2 4 1 q1 x1 in
    let s2 : Nearby q2 4 2 q1 (d 16) (f 16) = near_large q2 3 1 q1 (d 4) (f 4) _ 5 20 (lit< tt) hq (record { turns = refl; quarter = refl; next = refl }) (lit≤ tt) refl refl s1 in
    let s3 : Nearby q2 4 3 q1 (d 64) (f 64) = near_large q2 3 2 q1 (d 16) (f 16) _ 5 80 (lit< tt) hq (record { turns = refl; quarter = refl; next = refl }) (lit≤ tt) refl refl s2 in
    let s4 : Nearby q2 4 4 q1 (d 256) (f 256) = near_large q2 3 3 q1 (d 64) (f 64) _ 5 320 (lit< tt) hq (record { turns = refl; quarter = refl; next = refl }) (lit≤ tt) refl refl s3 in
    carried (NearAt Radix4 q1 q2) (sizes Radix4) (near_exact q2 4 0 q1 x0, (s1, (s2, (s3, (s4, tt))))) m h

pub lines_near : LinesNear
lines_near k m q1 q2 s h hq = near k q1 q2 m h hq s
