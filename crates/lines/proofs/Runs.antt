-- A run of stages on the numbers themselves.
use mathlib.Core.Path.{◌≡◌, refl, sym, ◌∙◌, ap}
use Prim.Native.Nat.{ℕ, suc, ◌+◌, ◌-◌, ◌*◌, ◌/◌, ◌%◌, ◌^◌, ◌<◌, ◌≤◌}
use native.Mathlib.Nat.{zero-add, zero-mul, pow-zero, pow-succ', div-one}
use native.Mathlib.Omega.{arith}
use lib.Arith.{digits_lt, digits_div, digits_mod}
use Rattle.integers.specs.declared.Complex.{Complex}
use Rattle.integers.specs.Complex.{◌⊗◌}
use Rattle.circle.specs.Near.{turned}
use Rattle.lines.specs.Lines.{part, weight, butterfly, mix, radix_line_of}
use Rattle.lines.specs.Places.{reversed, share, place, Mixed, RunsExist}
use Rattle.lines.proofs.Butterflies.{sum_same}
use Rattle.lines.proofs.Places.{reversed_twice, share_next, line_step, place_as}

-- what stands at place p after t of n stages
blocks_of : ℕ → ℕ → ℕ → (ℕ → Complex) → ℕ → ℕ → Complex
blocks_of q r n s t p = radix_line_of q r t (share r (n - t) (p / r ^ t) s) (p % r ^ t)

block_at : (q r n : ℕ) (s : ℕ → Complex) (t g k : ℕ) → k < r ^ t → blocks_of q r n s t (g * r ^ t + k) ≡ radix_line_of q r t (share r (n - t) g s) k
unfolding blocks_of
block_at q r n s t g k h = rw (digits_div g h, digits_mod g h) refl

-- a butterfly looks at its r entries only
mix_same : (q r t k : ℕ) (x y : ℕ → Complex) (l : ℕ) → ((i : ℕ) → i < r → x i ≡ y i) → mix q r t k x l ≡ mix q r t k y l
unfolding mix butterfly
mix_same q r t k x y l h = sum_same r _ _ (λ i b. ap (λ (z : Complex). turned (i * l * (4 / r)) (weight q (r ^ suc t) i k ⊗ z)) (h i b))

mixed : (q r n : ℕ) (s : ℕ → Complex) (t g k : ℕ) → t < n → k < r ^ t → Mixed (λ x e. x ≡ e) q r t g k (blocks_of q r n s t) (blocks_of q r n s (suc t))
unfolding place
mixed q r n s t g k less h x stood l below =
    let u = n - suc t in
    let e : n - t ≡ suc u = omega arith in
    let entry : (i : ℕ) → i < r → x i ≡ radix_line_of q r t (part r i (share r u g s)) k = λ i b.
    stood i b ∙ ap (blocks_of q r n s t) (place_as r t g k i) ∙ block_at q r n s t (g * r + i) k h
    ∙ ap (λ (v : ℕ). radix_line_of q r t (share r v (g * r + i) s) k) e ∙ ap (λ (z : ℕ → Complex). radix_line_of q r t z k) (share_next r u g i s b) in
    let room : l * r ^ t + k < r ^ suc t = rw pow-succ' (digits_lt below h) in
    mix_same q r t k x (λ i. radix_line_of q r t (part r i (share r u g s)) k) l entry ∙ sym (line_step q r t (share r u g s) k l h) ∙ sym (block_at q r n s (suc t) g (l * r ^ t + k) room)

loaded : (q r n : ℕ) (s : ℕ → Complex) → 1 ≤ r → (i : ℕ) → i < r ^ n → s i ≡ blocks_of q r n s 0 (reversed r n i)
unfolding blocks_of radix_line_of
loaded q r n s one i h =
    let e : n ≡ n - 0 = omega arith in
    let d : reversed r n i ≡ reversed r n i / r ^ 0 = rw (pow-zero r) (sym (div-one (reversed r n i))) in
    let f : i ≡ 0 * r ^ n + reversed r n (reversed r n i) = rw (zero-mul (r ^ n), zero-add (reversed r n (reversed r n i))) (sym (reversed_twice r n i one h)) in
    ap s f ∙ ap (λ (g : ℕ). share r n g s 0) d ∙ ap (λ (u : ℕ). share r u (reversed r n i / r ^ 0) s 0) e

pub runs_exist_lem : RunsExist
runs_exist_lem q r n s one =
    (blocks_of q r n s, record { loaded = loaded q r n s one; staged = λ t less g k hg hk. mixed q r n s t g k less hk })
