-- Digits reversed, from the last digit on.
use Rattle.std.proofs.Common.{◌≡◌, ℕ, zero, suc, ◌+◌, ◌*◌, ◌/◌, ◌%◌, ◌^◌, ◌<◌, ◌≤◌, refl, ap, ◌∙◌, mul-le-mul_right, pow-suc, mul-div_cancel, arith}
use native.Mathlib.Nat.{pow-zero, one-le-pow}
use Rattle.lines.specs.Places.{reversed}

-- a size of 1 has no digits
pub no_digits : (r size n u : ℕ) → 1 < r → size ≤ 1 → size ≡ r ^ u → 0 ≡ reversed r u n
unfolding reversed
no_digits r size n zero h s e = refl
no_digits r size n (suc u) h s e =
    let a : 0 < r ^ u = one-le-pow u r (omega arith) in
    let b : 1 * r ≤ r ^ u * r = mul-le-mul_right r a in
    absurd (omega (arith, pow-suc r u, b))

-- the last digit comes first
pub one_digit : (r size n u rest : ℕ) → 1 < r → 1 < size → size ≡ r ^ u → ((w : ℕ) → size / r ≡ r ^ w → rest ≡ reversed r w (n / r)) → n % r * (size / r) + rest ≡ reversed r u n
unfolding reversed
one_digit r size n zero rest h s e more = absurd (omega (arith, pow-zero r))
one_digit r size n (suc u) rest h s e more =
    let d : size / r ≡ r ^ u = ap (λ x. x / r) (e ∙ pow-suc r u) ∙ mul-div_cancel (r ^ u) (omega arith) in
    ap (λ x. n % r * x + rest) d ∙ ap (λ x. n % r * r ^ u + x) (more u d)
