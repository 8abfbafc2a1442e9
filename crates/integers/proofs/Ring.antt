-- The ring of whole numbers: what the library of ℤ lacks. Each law is stated once, over all whole numbers.
use Rattle.std.proofs.Common.{◌≡◌, zero, suc, ◌+◌, ◌*◌, ◌≤◌, ℤ, pos, negsuc, ◌+ℤ◌, ◌-ℤ◌, ◌*ℤ◌, neg_ℤ, nat_abs, sym, refl, ap, ◌∙◌, arith}
use borrow.Author.Differences.{ints}
use lib.IntN.{suc_ℤ, pred_ℤ, zero-*ℤ, *ℤ-zero, *ℤ_comm, suc_ℤ-*ℤ, pred_ℤ-*ℤ, suc_ℤ-+ℤ, pred_ℤ-+ℤ, +ℤ_assoc, +ℤ_comm, +ℤ_idl, +ℤ_idr, neg_ℤ-neg_ℤ, neg_ℤ-+ℤ}

swap_last : (x y z : ℤ) → x +ℤ y +ℤ z ≡ x +ℤ z +ℤ y
swap_last x y z = omega (arith, ints)

distrib_suc : (a b c : ℤ) → (a +ℤ b) *ℤ c ≡ a *ℤ c +ℤ b *ℤ c → (suc_ℤ a +ℤ b) *ℤ c ≡ suc_ℤ a *ℤ c +ℤ b *ℤ c
distrib_suc a b c h = rw (suc_ℤ-+ℤ a b, suc_ℤ-*ℤ (a +ℤ b) c, suc_ℤ-*ℤ a c, h) (swap_last (a *ℤ c) (b *ℤ c) c)

distrib_pred : (a b c : ℤ) → (a +ℤ b) *ℤ c ≡ a *ℤ c +ℤ b *ℤ c → (pred_ℤ a +ℤ b) *ℤ c ≡ pred_ℤ a *ℤ c +ℤ b *ℤ c
distrib_pred a b c h = rw (pred_ℤ-+ℤ a b, pred_ℤ-*ℤ (a +ℤ b) c, pred_ℤ-*ℤ a c, h) (swap_last (a *ℤ c) (b *ℤ c) (neg_ℤ c))

distrib_none : (b c : ℤ) → (pos 0 +ℤ b) *ℤ c ≡ pos 0 *ℤ c +ℤ b *ℤ c
distrib_none b c = rw (+ℤ_idl b, zero-*ℤ c, +ℤ_idl (b *ℤ c))

-- (a + b) c = a c + b c
pub distrib_right : (a b c : ℤ) → (a +ℤ b) *ℤ c ≡ a *ℤ c +ℤ b *ℤ c
distrib_right (pos zero) b c = distrib_none b c
distrib_right (pos (suc n)) b c = distrib_suc (pos n) b c (distrib_right (pos n) b c)
distrib_right (negsuc zero) b c = distrib_pred (pos 0) b c (distrib_none b c)
distrib_right (negsuc (suc n)) b c = distrib_pred (negsuc n) b c (distrib_right (negsuc n) b c)

-- a (b + c) = a b + a c
pub distrib_left : (a b c : ℤ) → a *ℤ (b +ℤ c) ≡ a *ℤ b +ℤ a *ℤ c
distrib_left a b c = *ℤ_comm a (b +ℤ c) ∙ distrib_right b c a ∙ ap (λ x. x +ℤ c *ℤ a) (*ℤ_comm b a) ∙ ap (λ x. a *ℤ b +ℤ x) (*ℤ_comm c a)

-- 0 = x + y only where y is the opposite of x
opposite_of : (x y : ℤ) → pos 0 ≡ x +ℤ y → x ≡ neg_ℤ y
opposite_of x y e = omega (arith, ints)

-- (−a) b = −(a b)
pub neg_left : (a b : ℤ) → neg_ℤ a *ℤ b ≡ neg_ℤ (a *ℤ b)
neg_left a b =
    let z : neg_ℤ a +ℤ a ≡ pos 0 = omega (arith, ints) in
    opposite_of (neg_ℤ a *ℤ b) (a *ℤ b) (sym (sym (distrib_right (neg_ℤ a) a b) ∙ ap (λ x. x *ℤ b) z ∙ zero-*ℤ b))

-- a (−b) = −(a b)
pub neg_right : (a b : ℤ) → a *ℤ neg_ℤ b ≡ neg_ℤ (a *ℤ b)
neg_right a b = *ℤ_comm a (neg_ℤ b) ∙ neg_left b a ∙ ap neg_ℤ (*ℤ_comm b a)

-- a (b − c) = a b − a c
pub distrib_difference : (a b c : ℤ) → a *ℤ (b -ℤ c) ≡ a *ℤ b -ℤ a *ℤ c
distrib_difference a b c = distrib_left a b (neg_ℤ c) ∙ ap (λ x. a *ℤ b +ℤ x) (neg_right a c)

pub one_left : (a : ℤ) → pos 1 *ℤ a ≡ a
one_left a = suc_ℤ-*ℤ (pos 0) a ∙ ap (λ x. x +ℤ a) (zero-*ℤ a) ∙ +ℤ_idl a

pub one_right : (a : ℤ) → a *ℤ pos 1 ≡ a
one_right a = *ℤ_comm a (pos 1) ∙ one_left a

assoc_suc : (a b c : ℤ) → (a *ℤ b) *ℤ c ≡ a *ℤ (b *ℤ c) → (suc_ℤ a *ℤ b) *ℤ c ≡ suc_ℤ a *ℤ (b *ℤ c)
assoc_suc a b c h = rw (suc_ℤ-*ℤ a b, distrib_right (a *ℤ b) b c, suc_ℤ-*ℤ a (b *ℤ c), h)

assoc_pred : (a b c : ℤ) → (a *ℤ b) *ℤ c ≡ a *ℤ (b *ℤ c) → (pred_ℤ a *ℤ b) *ℤ c ≡ pred_ℤ a *ℤ (b *ℤ c)
assoc_pred a b c h = rw (pred_ℤ-*ℤ a b, distrib_right (a *ℤ b) (neg_ℤ b) c, pred_ℤ-*ℤ a (b *ℤ c), h, neg_left b c)

assoc_none : (b c : ℤ) → (pos 0 *ℤ b) *ℤ c ≡ pos 0 *ℤ (b *ℤ c)
assoc_none b c = rw (zero-*ℤ b, zero-*ℤ c, zero-*ℤ (b *ℤ c))

-- (a b) c = a (b c)
pub times_assoc : (a b c : ℤ) → (a *ℤ b) *ℤ c ≡ a *ℤ (b *ℤ c)
times_assoc (pos zero) b c = assoc_none b c
times_assoc (pos (suc n)) b c = assoc_suc (pos n) b c (times_assoc (pos n) b c)
times_assoc (negsuc zero) b c = assoc_pred (pos 0) b c (assoc_none b c)
times_assoc (negsuc (suc n)) b c = assoc_pred (negsuc n) b c (times_assoc (negsuc n) b c)

-- a (b c) = b (a c)
pub times_left_comm : (a b c : ℤ) → a *ℤ (b *ℤ c) ≡ b *ℤ (a *ℤ c)
times_left_comm a b c = sym (times_assoc a b c) ∙ ap (λ x. x *ℤ c) (*ℤ_comm a b) ∙ times_assoc b a c

-- −(−a) = a, −(a + b) = −a − b: the products spread out, the opposites moved inwards to the products. What is then left is linear
-- in the products, and `omega (arith, ints)` proves it where the factors stand in the same order.
pub ruleset ring = (distrib_right, distrib_left, neg_left, neg_right, times_assoc, neg_ℤ-+ℤ, neg_ℤ-neg_ℤ, zero-*ℤ, *ℤ-zero, one_left, one_right, +ℤ_idl, +ℤ_idr)

-- |−a| = |a|
pub abs_neg : (a : ℤ) → nat_abs (neg_ℤ a) ≡ nat_abs a
abs_neg (pos zero) = refl
abs_neg (pos (suc n)) = refl
abs_neg (negsuc n) = refl

-- |a b| = |a| |b|
pub abs_times : (a b : ℤ) → nat_abs (a *ℤ b) ≡ nat_abs a * nat_abs b
abs_times (pos a) (pos b) = refl
abs_times (pos a) (negsuc b) = abs_neg (pos (a * suc b))
abs_times (negsuc a) (pos b) = abs_neg (pos (suc a * b))
abs_times (negsuc a) (negsuc b) = refl

-- |a + b| ≤ |a| + |b|
pub abs_sum : (a b : ℤ) → nat_abs (a +ℤ b) ≤ nat_abs a + nat_abs b
abs_sum a b = omega (arith, ints)

-- |a − b| ≤ |a| + |b|
pub abs_difference : (a b : ℤ) → nat_abs (a -ℤ b) ≤ nat_abs a + nat_abs b
abs_difference a b = omega (arith, ints)
