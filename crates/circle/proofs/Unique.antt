-- There is at most one nearest whole number.
use Rattle.std.proofs.Common.{◌≡◌, ℕ, ◌+◌, ◌-◌, ◌*◌, ◌<◌, ◌≤◌, ℤ, nat_abs, inl, inr, lt_trans, lt_of_le_of_lt, mul-le-mul, lt_of_not-le, not-le_of_lt, arith}
use native.Mathlib.Nat.{lt_of_mul-lt-mul_left}
use borrow.Author.Differences.{ints}
use Rattle.circle.specs.Nearest.{NearestRoot, NearestQuotient, NearestSigned}

-- squares keep the order
root_lt : (a b : ℕ) → a * a < b * b → a < b
root_lt a b h = lt_of_not-le (λ le. not-le_of_lt h (mul-le-mul le le))

root_le : (x r t : ℕ) → NearestRoot x r → NearestRoot x t → r ≤ t
root_le x r t p q =
    let h : 2 * r - 1 < 2 * t + 1 = root_lt (2 * r - 1) (2 * t + 1) (lt_trans p.above q.below) in
    let k : 1 ≤ r = p.positive in
    omega arith

pub root_unique : (x r t : ℕ) → NearestRoot x r → NearestRoot x t → r ≡ t
root_unique x r t p q =
    let h : r ≤ t = root_le x r t p q in
    let k : t ≤ r = root_le x t r q p in
    omega arith

quotient_le : (a b r t : ℕ) → NearestQuotient a b r → NearestQuotient a b t → r ≤ t
quotient_le a b r t p q =
    let h : r < t + 1 = lt_of_mul-lt-mul_left (2 * b) (lt_of_le_of_lt p.above q.below) in
    omega arith

pub quotient_unique : (a b r t : ℕ) → NearestQuotient a b r → NearestQuotient a b t → r ≡ t
quotient_unique a b r t p q =
    let h : r ≤ t = quotient_le a b r t p q in
    let k : t ≤ r = quotient_le a b t r q p in
    omega arith

-- only 0 is nearest to 0
quotient_zero : (b r : ℕ) → NearestQuotient 0 b r → r ≡ 0
quotient_zero b r p =
    let h : 0 < b = p.positive in
    quotient_unique 0 b r 0 p (record { positive = h; above = omega arith; below = omega arith })

same_size : (a : ℤ) (b : ℕ) (r t : ℤ) → NearestSigned a b r → NearestSigned a b t → nat_abs r ≡ nat_abs t
same_size a b r t p q = quotient_unique _ _ _ _ p.size q.size

none : (a : ℤ) (b : ℕ) (r : ℤ) → nat_abs a ≡ 0 → NearestSigned a b r → nat_abs r ≡ 0
none a b r e p = quotient_zero b (nat_abs r) (rw e at p.size)

pub signed_unique : (a : ℤ) (b : ℕ) (r t : ℤ) → NearestSigned a b r → NearestSigned a b t → r ≡ t
signed_unique a b r t p q =
    let e : nat_abs r ≡ nat_abs t = same_size a b r t p q in
    let f : nat_abs a ≡ 0 → nat_abs r ≡ 0 = λ z. none a b r z p in
    elim p.sign [
      | inl x ↦ elim q.sign [
        | inl y ↦ omega (arith, ints)
        | inr y ↦ let z : nat_abs r ≡ 0 = f (omega (arith, ints)) in omega (arith, ints)
      ]
      | inr x ↦ elim q.sign [
        | inl y ↦ let z : nat_abs r ≡ 0 = f (omega (arith, ints)) in omega (arith, ints)
        | inr y ↦ omega (arith, ints)
      ]
    ]
