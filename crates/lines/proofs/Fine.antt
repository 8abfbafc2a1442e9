-- The fine transform of size r·m, from its parts of size m.
use mathlib.Core.Path.{◌≡◌, sym, ◌∙◌, ap, ap₂}
use Prim.Native.Nat.{ℕ, suc, ◌+◌, ◌*◌, ◌/◌, ◌%◌, ◌^◌}
use native.Mathlib.Nat.{mul_comm, mul_assoc, mul_left_comm, mul-mul-mul_comm, add-mul, mul-add, pow-suc}
use native.Mathlib.Omega.{arith}
use Rattle.integers.specs.declared.Complex.{Complex}
use Rattle.integers.specs.Complex.{◌⊗◌}
use Rattle.circle.specs.Near.{turned}
use Rattle.circle.specs.Fine.{fine}
use Rattle.circle.proofs.Fine.{fine_turned}
use Rattle.circle.proofs.Turns.{turned_mod, turned_mul}
use Rattle.lines.specs.Lines.{sum_below, part, fine_line_of}
use Rattle.lines.proofs.Butterflies.{sum_same}
use Rattle.lines.proofs.Sums.{sum_turned, sum_parts}

-- turns by four more for each n·l change nothing
turned_more : (a b : ℕ) (x : Complex) → turned (a + 4 * b) x ≡ turned a x
turned_more a b x =
    let e : (a + 4 * b) % 4 ≡ a % 4 = omega arith in
    sym (turned_mod (a + 4 * b) x) ∙ ap (λ (n : ℕ). turned n x) e ∙ turned_mod a x

-- the angle of sample r·n + i in line l·m + k, at gap c of size r·m: that of sample n in line k at gap r·c, that of part i, and quarter turns
angle : (r n i l m k c d : ℕ) → m * c ≡ 64 * d → r * d ≡ 4 → (r * n + i) * (l * m + k) * c ≡ (n * k * (r * c) + i * k * c) + 64 * (i * l * d + 4 * (n * l))
angle r n i l m k c d h g =
    let a : i * (l * m) * c ≡ 64 * (i * l * d) =
    ap (λ (x : ℕ). x * c) (sym (mul_assoc i l m)) ∙ mul_assoc (i * l) m c ∙ ap (λ (x : ℕ). i * l * x) h ∙ mul_left_comm (i * l) 64 d in
    let b : r * n * (l * m) * c ≡ n * l * 256 =
    mul_assoc (r * n) (l * m) c ∙ ap (λ (x : ℕ). r * n * x) (mul_assoc l m c ∙ ap (λ (x : ℕ). l * x) h) ∙ ap (λ (x : ℕ). x * (l * (64 * d))) (mul_comm r n) ∙ mul-mul-mul_comm n r l (64 * d)
    ∙ ap (λ (x : ℕ). n * l * x) (mul_left_comm r 64 d ∙ ap (λ (x : ℕ). 64 * x) g) in
    let e : r * n * k * c ≡ n * k * (r * c) =
    ap (λ (x : ℕ). x * k * c) (mul_comm r n) ∙ mul_assoc (n * r) k c ∙ mul-mul-mul_comm n r k c in
    let f : (r * n + i) * (l * m + k) * c ≡ (r * n * (l * m) * c + r * n * k * c) + (i * (l * m) * c + i * k * c) =
    ap (λ (x : ℕ). x * c) (add-mul (r * n) i (l * m + k) ∙ ap₂ ◌+◌ (mul-add (r * n) (l * m) k) (mul-add i (l * m) k))
    ∙ add-mul (r * n * (l * m) + r * n * k) (i * (l * m) + i * k) c ∙ ap₂ ◌+◌ (add-mul (r * n * (l * m)) (r * n * k) c) (add-mul (i * (l * m)) (i * k) c) in
    f ∙ omega arith

-- part i of line k: its samples turned on by the angle of the part
unfoldable pub fine_part : ℕ → ℕ → ℕ → ℕ → ℕ → (ℕ → Complex) → Complex
fine_part r m c i k s = sum_below m (λ n. fine (n * k * (r * c) + i * k * c) ⊗ part r i s n)

fine_parts : (r m c d : ℕ) (s : ℕ → Complex) (l k : ℕ) → m * c ≡ 64 * d → r * d ≡ 4 → sum_below (m * r) (λ n. fine (n * (l * m + k) * c) ⊗ s n) ≡ sum_below r (λ i. turned (i * l * d) (fine_part r m c i k s))
unfolding fine_part
fine_parts r m c d s l k h g =
    sum_parts r m (λ n. fine (n * (l * m + k) * c) ⊗ s n)
    ∙ sum_same r _ _ (λ i p. sum_same m _ _ (λ n q. ap (λ (x : Complex). x ⊗ s (r * n + i)) (ap fine (angle r n i l m k c d h g) ∙ fine_turned (n * k * (r * c) + i * k * c) (i * l * d + 4 * (n * l)) ∙ turned_more (i * l * d) (n * l) _) ∙ turned_mul (i * l * d) (fine (n * k * (r * c) + i * k * c)) (s (r * n + i)))
    ∙ sym (sum_turned (i * l * d) m (λ n. fine (n * k * (r * c) + i * k * c) ⊗ part r i s n)))

-- in line l·r^t + k of size r^(t + 1)
pub fine_step : (r t d : ℕ) (s : ℕ → Complex) (l k : ℕ) → r ^ t * (256 / r ^ suc t) ≡ 64 * d → r * d ≡ 4 → fine_line_of (r ^ suc t) s (l * r ^ t + k) ≡ sum_below r (λ i. turned (i * l * d) (fine_part r (r ^ t) (256 / r ^ suc t) i k s))
unfolding fine_line_of
fine_step r t d s l k h g =
    ap (λ (n : ℕ). sum_below n (λ n. fine (n * (l * r ^ t + k) * (256 / r ^ suc t)) ⊗ s n)) (pow-suc r t) ∙ fine_parts r (r ^ t) (256 / r ^ suc t) d s l k h g
