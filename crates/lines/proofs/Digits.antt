-- Reversed digits, digit by digit, and the places of samples.
use mathlib.Core.Path.{◌≡◌, refl, sym, ◌∙◌, ap, subst}
use mathlib.Core.Bool.{true}
use Prim.Native.Nat.{ℕ, zero, suc, ◌+◌, ◌-◌, ◌*◌, ◌/◌, ◌%◌, ◌^◌, ◌<◌, ◌≤◌}
use native.Mathlib.Nat.{pow-zero, pow-succ', div-one, one-le-pow, mod-mod, mul_assoc, mul-add-div_right, mul-add-mod_self_right, div-div-eq-div-mul}
use native.Mathlib.Decide.{dec_lt}
use native.Mathlib.Omega.{arith}
use lib.Arith.{digits_div}
use lib.Dec.{lit≤}
use lib.Pow.{pow-add}
use Rattle.plan.specs.declared.method.Method.{Method}
use Rattle.plan.specs.declared.method.Method.TheVariants.{Direct, Radix2, Radix4}
use Rattle.plan.specs.Methods.{sized}
use Rattle.lines.specs.Lines.{stage_count}
use Rattle.lines.specs.Places.{reversed, place_of, PlacesStand}
use Rattle.lines.proofs.Places.{reversed_below, reversed_twice}
use Rattle.lines.proofs.Sizes.{size2, size4}

-- a digit below place u does not see what stands from place u on
low_digit : (r u j a b : ℕ) → 1 ≤ r → j < u → (a * r ^ u + b) / r ^ j % r ≡ b / r ^ j % r
low_digit r u j a b one h =
    let p : 1 ≤ r ^ j = one-le-pow j r one in
    let e : u ≡ (u - suc j) + suc j = omega arith in
    let f : r ^ u ≡ r ^ (u - suc j) * r * r ^ j = ap (λ (n : ℕ). r ^ n) e ∙ pow-add r (u - suc j) (suc j) ∙ ap (λ (n : ℕ). r ^ (u - suc j) * n) (pow-succ' r j) ∙ sym (mul_assoc (r ^ (u - suc j)) r (r ^ j)) in
    let g : a * r ^ u ≡ a * r ^ (u - suc j) * r * r ^ j = ap (λ (n : ℕ). a * n) f ∙ sym (mul_assoc a (r ^ (u - suc j) * r) (r ^ j)) ∙ ap (λ (n : ℕ). n * r ^ j) (sym (mul_assoc a (r ^ (u - suc j)) r)) in
    ap (λ (n : ℕ). (n + b) / r ^ j % r) g ∙ ap (λ (n : ℕ). n % r) (mul-add-div_right p (a * r ^ (u - suc j) * r) b) ∙ mul-add-mod_self_right (a * r ^ (u - suc j)) r (b / r ^ j)

digits : (r u g j : ℕ) → 1 ≤ r → j < u → reversed r u g / r ^ j % r ≡ g / r ^ (u - suc j) % r
unfolding reversed
digits r zero g j one h = absurd (omega arith)
digits r (suc u) g j one h = go (dec_lt j u) (digits r u (g / r) j one)
  where
    go : Dec (j < u) → (j < u → reversed r u (g / r) / r ^ j % r ≡ g / r / r ^ (u - suc j) % r) → (g % r * r ^ u + reversed r u (g / r)) / r ^ j % r ≡ g / r ^ (suc u - suc j) % r
    go (yes l) ih =
        let e : suc u - suc j ≡ suc (u - suc j) = omega arith in
        low_digit r u j (g % r) (reversed r u (g / r)) one l ∙ ih l
        ∙ ap (λ (n : ℕ). n % r) (div-div-eq-div-mul g r (r ^ (u - suc j)) ∙ ap (λ (n : ℕ). g / n) (sym (pow-succ' r (u - suc j)) ∙ ap (λ (n : ℕ). r ^ n) (sym e)))
    go (no m) ih =
        let e : j ≡ u = omega arith in
        let z : suc u - suc j ≡ 0 = omega arith in
        let d : (g % r * r ^ u + reversed r u (g / r)) / r ^ j ≡ g % r = ap (λ (n : ℕ). (g % r * r ^ u + reversed r u (g / r)) / r ^ n) e ∙ digits_div (g % r) (reversed_below r u (g / r) one) in
        ap (λ (n : ℕ). n % r) d ∙ mod-mod g r ∙ ap (λ (n : ℕ). n % r) (sym (div-one g) ∙ ap (λ (n : ℕ). g / n) (sym (pow-zero r) ∙ ap (λ (n : ℕ). r ^ n) (sym z)))

below : (k : Method) (m n : ℕ) → sized k m ≡ true → n < m → place_of k m n < m
below Direct m n h l = l
below Radix2 m n h l = subst (λ (x : ℕ). reversed 2 (stage_count Radix2 m) n < x) (size2 m h) (reversed_below 2 (stage_count Radix2 m) n (lit≤ tt))
below Radix4 m n h l = subst (λ (x : ℕ). reversed 4 (stage_count Radix4 m) n < x) (size4 m h) (reversed_below 4 (stage_count Radix4 m) n (lit≤ tt))

back : (k : Method) (m n : ℕ) → sized k m ≡ true → n < m → place_of k m (place_of k m n) ≡ n
back Direct m n h l = refl
back Radix2 m n h l = reversed_twice 2 (stage_count Radix2 m) n (lit≤ tt) (subst (λ (x : ℕ). n < x) (sym (size2 m h)) l)
back Radix4 m n h l = reversed_twice 4 (stage_count Radix4 m) n (lit≤ tt) (subst (λ (x : ℕ). n < x) (sym (size4 m h)) l)

pub places_stand_lem : PlacesStand
places_stand_lem = record { stages2 = size2; stages4 = size4; digits = digits; below = below; back = back }
