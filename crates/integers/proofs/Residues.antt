-- The laws of residues: a residue is the one number below n that differs by a multiple of n; sums, opposites, differences and
-- multiples go by residues; the meaning of a residue is the one whole number within half of n.
use Rattle.std.proofs.Common.{◌≡◌, ℕ, zero, suc, ◌+◌, ◌-◌, ◌/◌, ◌%◌, ◌^◌, ◌<◌, ◌≤◌, Bool, true, false, cond, leb, ℤ, pos, negsuc, ◌+ℤ◌, ◌-ℤ◌, ◌*ℤ◌, neg_ℤ, nat_abs, sym, refl, ap, ◌∙◌, ap₂, mod-lt, mod-eq_of_lt, suc-mul, arith, w64, SFits, to_z, of_z, le-leb, leb-false, leb-true}
use native.Mathlib.Nat.{mod-add-div', mod_self, mod-add-mod, add-mod-mod}
use borrow.Author.Differences.{ints}
use borrow.Author.Tests.{lt-leb}
use Rattle.std.proofs.lemmas.Int.{to_z-of_z, to_z_pos}
use Rattle.std.specs.Int.{int_rem_euclid}
use Rattle.integers.specs.Residue.{residue, IsResidue, half, centred}
use Rattle.integers.proofs.Ring.{distrib_right, distrib_left, neg_left, times_assoc}

-- a residue is below n
pub residue_below : (m : ℤ) (n : ℕ) → 0 < n → residue m n < n
unfolding residue
residue_below (pos a) n h = mod-lt a h
residue_below (negsuc a) n h = omega (arith, mod-lt a h)

-- it differs from m by a multiple of n
pub residue_is : (m : ℤ) (n : ℕ) → 0 < n → IsResidue m n (residue m n)
unfolding residue
residue_is (pos a) n h =
    record { below = mod-lt a h; times = pos (a / n); differs = omega (arith, ints, mod-add-div' a n) }
residue_is (negsuc a) n h =
    record { below = residue_below (negsuc a) n h; times = negsuc (a / n); differs = omega (arith, ints, mod-add-div' a n, mod-lt a h, suc-mul (a / n) n) }

-- two numbers below n that differ by a multiple of n are equal
below_apart : (n r t : ℕ) → r < n → t < n → (k : ℤ) → pos r ≡ pos t +ℤ k *ℤ pos n → r ≡ t
below_apart n r t h g (pos zero) e = omega (arith, ints)
below_apart n r t h g (pos (suc j)) e = omega (arith, ints, suc-mul j n)
below_apart n r t h g (negsuc j) e = omega (arith, ints, suc-mul j n)

-- (r + k n) − (t + l n) = 0, regrouped
multiples_apart : (r t k l n : ℤ) → r +ℤ k *ℤ n ≡ t +ℤ l *ℤ n → r ≡ t +ℤ (l -ℤ k) *ℤ n
multiples_apart r t k l n e = rw (distrib_right l (neg_ℤ k) n, neg_left k n) (omega (arith, ints))

-- a number has one residue
pub residue_only : (m : ℤ) (n r : ℕ) → IsResidue m n r → r ≡ residue m n
residue_only m n r h =
    let z : 0 < n = omega (arith, h.below) in
    let s = residue_is m n z in
    below_apart n r (residue m n) h.below s.below (s.times -ℤ h.times)
    (multiples_apart (pos r) (pos (residue m n)) h.times s.times (pos n) (sym h.differs ∙ s.differs))

-- numbers that differ by a multiple of n have the same residue
pub residue_same : (a b : ℤ) (n : ℕ) (k : ℤ) → 0 < n → a ≡ b +ℤ k *ℤ pos n → residue a n ≡ residue b n
residue_same a b n k z e =
    let s = residue_is a n z in
    residue_only b n (residue a n)
    (record { below = s.below; times = s.times -ℤ k; differs = multiples_apart b (pos (residue a n)) k s.times (pos n) (sym e ∙ s.differs) })

-- the residue of a natural number
pub residue_pos : (a n : ℕ) → residue (pos a) n ≡ a % n
unfolding residue
residue_pos a n = refl

-- a number below n is its own residue
pub residue_small : (a n : ℕ) → a < n → residue (pos a) n ≡ a
residue_small a n h = residue_pos a n ∙ mod-eq_of_lt h

-- the residue of a residue
pub residue_twice : (m : ℤ) (n : ℕ) → 0 < n → residue (pos (residue m n)) n ≡ residue m n
residue_twice m n z = residue_small (residue m n) n (residue_below m n z)

-- residues may be taken before a sum
pub residue_sum : (a b : ℤ) (n : ℕ) → 0 < n → residue (a +ℤ b) n ≡ (residue a n + residue b n) % n
residue_sum a b n z =
    let p = residue_is a n z in
    let q = residue_is b n z in
    residue_same (a +ℤ b) (pos (residue a n + residue b n)) n (p.times +ℤ q.times) z
    (rw (distrib_right p.times q.times (pos n)) (omega (arith, ints, p.differs, q.differs)))
    ∙ residue_pos (residue a n + residue b n) n

-- the opposite of a number leaves what n lacks of its residue
pub residue_opposite : (a : ℤ) (n : ℕ) → 0 < n → residue (neg_ℤ a) n ≡ (n - residue a n) % n
residue_opposite a n z =
    let p = residue_is a n z in
    residue_same (neg_ℤ a) (pos (n - residue a n)) n (neg_ℤ p.times -ℤ pos 1) z
    (rw (distrib_right (neg_ℤ p.times) (negsuc 0) (pos n), neg_left p.times (pos n)) (omega (arith, ints, p.differs, p.below, suc-mul 0 n)))
    ∙ residue_pos (n - residue a n) n

-- residues may be taken before a difference
pub residue_difference : (a b : ℤ) (n : ℕ) → 0 < n → residue (a -ℤ b) n ≡ (residue a n + (n - residue b n)) % n
residue_difference a b n z =
    residue_sum a (neg_ℤ b) n z ∙ ap (λ x. (residue a n + x) % n) (residue_opposite b n z) ∙ add-mod-mod (residue a n) (n - residue b n) n

-- residues may be taken before a multiple
pub residue_multiple : (c a : ℤ) (n : ℕ) → 0 < n → residue (c *ℤ a) n ≡ residue (c *ℤ pos (residue a n)) n
residue_multiple c a n z =
    let p = residue_is a n z in
    residue_same (c *ℤ a) (c *ℤ pos (residue a n)) n (c *ℤ p.times) z
    (ap (λ x. c *ℤ x) p.differs ∙ distrib_left c (pos (residue a n)) (p.times *ℤ pos n) ∙ ap (λ x. c *ℤ pos (residue a n) +ℤ x) (sym (times_assoc c p.times (pos n))))

-- ---- the meaning of a residue

centred_by : (r n : ℕ) (P : ℤ → Type 0) (e : Bool) → leb r (half n) ≡ e → (r ≤ half n → P (pos r)) → (half n < r → P (pos r -ℤ pos n)) → P (cond e (pos r) (pos r -ℤ pos n))
centred_by r n P true e yes-p no-p = yes-p (leb-true r (half n) e)
centred_by r n P false e yes-p no-p = no-p (leb-false r (half n) e)

-- it is itself up to the half of n, and less n above it
centred_cases : (r n : ℕ) (P : ℤ → Type 0) → (r ≤ half n → P (pos r)) → (half n < r → P (pos r -ℤ pos n)) → P (centred r n)
unfolding centred
centred_cases r n P p q = centred_by r n P (leb r (half n)) refl p q

pub centred_within : (r n : ℕ) → n % 2 ≡ 1 → r < n → nat_abs (centred r n) ≤ half n
centred_within r n o h = centred_cases r n (λ z. nat_abs z ≤ half n) (λ g. g) (λ g. omega (arith, ints))

pub centred_back : (r n : ℕ) → r < n → residue (centred r n) n ≡ r
centred_back r n h =
    let z : 0 < n = omega arith in
    let e : pos r -ℤ pos n ≡ pos r +ℤ negsuc 0 *ℤ pos n = omega (arith, ints, suc-mul 0 n) in
    centred_cases r n (λ x. residue x n ≡ r) (λ g. residue_small r n h) (λ g. residue_same (pos r -ℤ pos n) (pos r) n (negsuc 0) z e ∙ residue_small r n h)

-- the meaning of a residue of a number within half of n is that number
pub centred_only : (m : ℤ) (n : ℕ) → n % 2 ≡ 1 → nat_abs m ≤ half n → centred (residue m n) n ≡ m
unfolding residue centred
centred_only (pos a) n o h =
    let l : a < n = omega arith in
    let t : leb a (half n) ≡ true = le-leb a (half n) h in
    rw (mod-eq_of_lt l, t)
centred_only (negsuc a) n o h =
    let l : a < n = omega arith in
    let t : leb (n - 1 - a) (half n) ≡ false = lt-leb (n - 1 - a) (half n) (omega arith) in
    rw (mod-eq_of_lt l, t) (omega (arith, ints))

-- two numbers within half of n that have the same residue are equal
pub centred_apart : (a b : ℤ) (n : ℕ) → n % 2 ≡ 1 → nat_abs a ≤ half n → nat_abs b ≤ half n → residue a n ≡ residue b n → a ≡ b
centred_apart a b n o h g e = sym (centred_only a n o h) ∙ ap (λ r. centred r n) e ∙ centred_only b n o g

-- ---- what code computes

pub centred_low : (r n : ℕ) → r ≤ half n → centred r n ≡ pos r
unfolding centred
centred_low r n h = let t = le-leb r (half n) h in rw t

pub centred_high : (r n : ℕ) → half n < r → centred r n ≡ pos r -ℤ pos n
unfolding centred
centred_high r n h = let t = lt-leb r (half n) h in rw t

-- the remainder by Euclid is the residue
pub residue_euclid : (m : ℤ) (n : ℕ) → int_rem_euclid m (pos n) ≡ pos (residue m n)
unfolding residue
residue_euclid (pos a) n = refl
residue_euclid (negsuc a) n = refl

-- remainders may be taken before a sum
pub sum_of_remainders : (a b n : ℕ) → (a % n + b % n) % n ≡ (a + b) % n
sum_of_remainders a b n = mod-add-mod a n (b % n) ∙ add-mod-mod a b n

-- what n lacks of the remainder of a brings the sum with a to 0
pub lack_cancels : (a n : ℕ) → 0 < n → (a + (n - a % n) % n) % n ≡ 0
lack_cancels a n z =
    let e : a % n + (n - a % n) ≡ n = omega (arith, mod-lt a z) in
    add-mod-mod a (n - a % n) n ∙ sym (mod-add-mod a n (n - a % n)) ∙ ap (λ x. x % n) e ∙ mod_self n

-- ---- equal residues are kept

pub same_sum : (a a' b b' : ℤ) (n : ℕ) → 0 < n → residue a n ≡ residue a' n → residue b n ≡ residue b' n → residue (a +ℤ b) n ≡ residue (a' +ℤ b') n
same_sum a a' b b' n z p q = residue_sum a b n z ∙ ap₂ (λ x y. (x + y) % n) p q ∙ sym (residue_sum a' b' n z)

pub same_opposite : (a a' : ℤ) (n : ℕ) → 0 < n → residue a n ≡ residue a' n → residue (neg_ℤ a) n ≡ residue (neg_ℤ a') n
same_opposite a a' n z p = residue_opposite a n z ∙ ap (λ x. (n - x) % n) p ∙ sym (residue_opposite a' n z)

pub same_difference : (a a' b b' : ℤ) (n : ℕ) → 0 < n → residue a n ≡ residue a' n → residue b n ≡ residue b' n → residue (a -ℤ b) n ≡ residue (a' -ℤ b') n
same_difference a a' b b' n z p q = same_sum a a' (neg_ℤ b) (neg_ℤ b') n z p (same_opposite b b' n z q)

pub same_multiple : (c a a' : ℤ) (n : ℕ) → 0 < n → residue a n ≡ residue a' n → residue (c *ℤ a) n ≡ residue (c *ℤ a') n
same_multiple c a a' n z p = residue_multiple c a n z ∙ ap (λ x. residue (c *ℤ pos x) n) p ∙ sym (residue_multiple c a' n z)

-- the number below n that brings the sum with a to 0 is the residue of −a
pub residue_cancels : (a r n : ℕ) → r < n → (a + r) % n ≡ 0 → r ≡ residue (neg_ℤ (pos a)) n
residue_cancels a r n h e =
    residue_only (neg_ℤ (pos a)) n r
    (record { below = h; times = neg_ℤ (pos ((a + r) / n)); differs = rw (neg_left (pos ((a + r) / n)) (pos n)) (omega (arith, ints, mod-add-div' (a + r) n)) })

-- the remainder by Euclid, to its bits and back
pub residue_read : (m q : ℤ) (n : ℕ) → SFits w64 m → SFits w64 q → n < 2 ^ 63 → q ≡ int_rem_euclid (to_z w64 (of_z w64 m)) (to_z w64 n) → nat_abs (to_z w64 (of_z w64 q)) ≡ residue m n
residue_read m q n f g h e =
    ap nat_abs (to_z-of_z w64 q g ∙ e ∙ ap₂ int_rem_euclid (to_z-of_z w64 m f) (to_z_pos w64 n h) ∙ residue_euclid m n)
