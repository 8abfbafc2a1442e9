-- Remainders of products, inverses modulo a number, and the mixed-radix step: pure number theory.
use Rattle.std.specs.Prelude.{◌≡◌, ℕ, ◌+◌, ◌-◌, ◌*◌, ◌/◌, ◌%◌, ◌<◌, ◌≤◌}
use Rattle.std.specs.Int.{◌∣◌}
use Rattle.std.proofs.Math.Path.{sym, ap}
use Rattle.std.proofs.Common.{◌∙◌, ⊎_elim, add-mul, mul_assoc, mul_comm, one-mul, mul_left_comm, eq-zero-or-pos, arith}
use Rattle.std.proofs.Math.Nat.{mul-one, mod-add-div, div-add-mod, add-mul-mod_self_left, add-mod-mod, mod-add-mod, mod-lt, mod-eq_of_lt, add-mod_right, mul-div_cancel', dvd-mul_right, dvd-mul_left_of_dvd, dvd-add_iff_right, mul-dvd-mul_left, dvd-sub, le_of_dvd, mul-mul-mul_comm}
use Rattle.std.proofs.lemmas.Nat.{mul-mod_first, mul-mod_second}
use Rattle.std.proofs.lemmas.Bool.{cases_lt}
use Rattle.system.specs.Hidden.{raised}

-- two numbers with one remainder differ by a multiple
pub differ : (a b m : ℕ) → a ≤ b → a % m ≡ b % m → m ∣ b - a
differ a b m h e =
    let d : b - a ≡ m * (b / m) - m * (a / m) = omega (arith, mod-add-div a m, mod-add-div b m) in
    rw d (dvd-sub m (dvd-mul_right m (b / m)) (dvd-mul_right m (a / m)))

-- a number and one that differs from it by a multiple have one remainder
pub alike : (a b m : ℕ) → a ≤ b → m ∣ b - a → a % m ≡ b % m
alike a b m h d =
    sym (add-mul-mod_self_left a m ((b - a) / m))
    ∙ ap (λ t. t % m) (ap (λ t. a + t) (mul-div_cancel' m d) ∙ (omega arith))

-- a term that stands on both sides of a congruence may be left out
pub cancel : (a b c m : ℕ) → (a + c) % m ≡ (b + c) % m → a % m ≡ b % m
cancel a b c m e =
    ⊎_elim
    (λ (h : a < b). let g : m ∣ (b + c) - (a + c) = differ (a + c) (b + c) m (omega arith) e in
    let s : (b + c) - (a + c) ≡ b - a = omega arith in alike a b m (omega arith) (rw s at g))
    (λ (h : b ≤ a). let g : m ∣ (a + c) - (b + c) = differ (b + c) (a + c) m (omega arith) (sym e) in
    let s : (a + c) - (b + c) ≡ a - b = omega arith in sym (alike b a m h (rw s at g)))
    (cases_lt a b)

-- the product of two inverses is an inverse of the product
pub joint_inverse_lem : (a b m u w : ℕ) → (a * u) % m ≡ 1 → (b * w) % m ≡ 1 → (a * b * (u * w % m)) % m ≡ 1
joint_inverse_lem a b m u w au bw =
    mul-mod_second (a * b) (u * w) m ∙ ap (λ t. t % m) (mul-mul-mul_comm a b u w) ∙ sym (mul-mod_first (a * u) (b * w) m)
    ∙ ap (λ t. (t * (b * w)) % m) au ∙ ap (λ t. t % m) (one-mul (b * w)) ∙ bw

-- u is an inverse of a modulo m: what a divides beside m goes into the other factor
pub joined : (a m u d : ℕ) → (a * u) % m ≡ 1 → a ∣ d → m ∣ d → a * m ∣ d
joined a m u d inv ad md =
    let j : ℕ = d / a in
    let whole : a * j ≡ d = mul-div_cancel' a ad in
    let split : u * d ≡ m * (a * u / m * j) + j =
    ap (λ t. u * t) (sym whole) ∙ sym (mul_assoc u a j) ∙ ap (λ t. t * j) (mul_comm u a ∙ sym (div-add-mod (a * u) m) ∙ ap (λ t. m * (a * u / m) + t) inv)
    ∙ add-mul (m * (a * u / m)) 1 j ∙ ap (λ t. t + 1 * j) (mul_assoc m (a * u / m) j) ∙ ap (λ t. m * (a * u / m * j) + t) (one-mul j) in
    let all : m ∣ u * d = dvd-mul_left_of_dvd m md u in
    let rest : m ∣ j = (dvd-add_iff_right m (dvd-mul_right m (a * u / m * j))).1 (rw split at all) in
    rw (← whole) (mul-dvd-mul_left m a rest)

-- a number below n that n divides is 0
pub none_below : (n d : ℕ) → n ∣ d → d < n → d ≡ 0
none_below n d h lt = ⊎_elim (λ (z : d ≡ 0). z) (λ (p : 0 < d). let le : n ≤ d = le_of_dvd p h in (omega arith)) (eq-zero-or-pos d)

-- the mixed-radix digit keeps what the base leaves modulo a and leaves x modulo m
module _ (base a m u x : ℕ) where
  pub raised_old : raised base a m u x % a ≡ base % a
  unfolding raised
  raised_old = add-mul-mod_self_left base a _

  pub raised_new : (a * u) % m ≡ 1 → x < m → raised base a m u x % m ≡ x
  unfolding raised
  raised_new inv h =
      let t : ℕ = x + (m - base % m) in
      let product : (a * (t * u % m)) % m ≡ t % m =
      mul-mod_second a (t * u) m ∙ ap (λ z. z % m) (mul_left_comm a t u) ∙ sym (mul-mod_second t (a * u) m)
      ∙ ap (λ z. (t * z) % m) inv ∙ ap (λ z. z % m) (mul-one t) in
      let low : base % m < m = mod-lt base (omega arith) in
      sym (add-mod-mod base (a * (t * u % m)) m) ∙ ap (λ z. (base + z) % m) product ∙ add-mod-mod base t m ∙ sym (mod-add-mod base m t)
      ∙ ap (λ z. z % m) (omega arith) ∙ add-mod_right x m ∙ mod-eq_of_lt h
