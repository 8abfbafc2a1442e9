-- The calls of the residue system: the hidden number is the one that leaves the residues, and sums and opposites go residue by residue.
use Rattle.std.specs.Prelude.{◌≡◌, ℕ, ◌+◌, ◌-◌, ◌*◌, ◌%◌, ◌^◌, ◌<◌, ◌≤◌, true, ℤ, pos, negsuc, unsigned_abs, refl}
use Rattle.std.specs.Int.{◌∣◌}
use Rattle.std.proofs.Math.Path.{sym, ap}
use Rattle.std.proofs.Common.{◌∙◌, ⊎_elim, add_comm, mul-le-mul, le_of_lt, arith}
use Rattle.std.proofs.Math.Nat.{dvd-mul_right, dvd-mul_left, dvd_trans, mod-mod_of_dvd, mod-eq-zero_of_dvd, mod-lt, mod-eq_of_lt, mod_self, add-mod, add-mod-mod, zero-mod}
use Rattle.integers.specs.Residue.{residue, half}
use Rattle.integers.proofs.Residues.{residue_below}
use Rattle.scheme.specs.Meaning.{Zero, Sum, Opposite, Sealed}
use Rattle.std.proofs.lemmas.Bool.{lt-ltb, and_from, cases_lt}
use Rattle.system.specs.declared.residues.Residues.{Residues}
use Rattle.system.specs.declared.residues.System.{System}
use Rattle.system.specs.Hidden.{product, residues, formed, Leaves, raised, hidden, OneIsHidden, Figure}
use Rattle.system.specs.Meant.{meant}
use Rattle.system.specs.Laws.{one_some, two_some, three_some, product_some, three_divides, formed_parts, hidden_below}
use Rattle.system.proofs.Bezout.{inverse_coprime}
use Rattle.system.proofs.Congruence.{differ, cancel, joined, none_below, raised_old, raised_new}

module _ (s : System) where
  -- each modulus is a factor of the product
  pub one_divides : s.first.modulus.n ∣ product s
  one_divides = dvd_trans _ (dvd-mul_right s.first.modulus.n s.second.modulus.n) (dvd-mul_right (s.first.modulus.n * s.second.modulus.n) s.third.modulus.n)

  pub two_divides : s.second.modulus.n ∣ product s
  two_divides = dvd_trans _ (dvd-mul_left s.second.modulus.n s.first.modulus.n) (dvd-mul_right (s.first.modulus.n * s.second.modulus.n) s.third.modulus.n)

  pub parts_formed : (x : Residues) → x.first < s.first.modulus.n → x.second < s.second.modulus.n → x.third < s.third.modulus.n → formed s x ≡ true
  parts_formed x p q r = and_from _ _ (lt-ltb _ _ p) (and_from _ _ (lt-ltb _ _ q) (lt-ltb _ _ r))

  -- what a number leaves is well formed
  pub leaves_formed : (x : Residues) (n : ℕ) → Leaves s x n → formed s x ≡ true
  leaves_formed x n h = parts_formed x (rw (← h.one) (mod-lt n (one_some s))) (rw (← h.two) (mod-lt n (two_some s))) (rw (← h.three) (mod-lt n (three_some s)))

  -- the hidden number leaves the residues
  pub hidden_leaves : (x : Residues) → formed s x ≡ true → Leaves s x (hidden s x)
  hidden_leaves x f =
      let parts = formed_parts s x f in
      let p : x.first < s.first.modulus.n = parts.0 in
      let q : x.second < s.second.modulus.n = parts.1 in
      let r : x.third < s.third.modulus.n = parts.2 in
      let pq : ℕ = s.first.modulus.n * s.second.modulus.n in
      let low : ℕ = raised x.first s.first.modulus.n s.second.modulus.n s.inverse x.second in
      let all : ℕ = raised low pq s.third.modulus.n s.joint x.third in
      let kept : all % pq ≡ low % pq = raised_old low pq s.third.modulus.n s.joint x.third in
      let one-pq : s.first.modulus.n ∣ pq = dvd-mul_right s.first.modulus.n s.second.modulus.n in
      let two-pq : s.second.modulus.n ∣ pq = dvd-mul_left s.second.modulus.n s.first.modulus.n in
      record {
        below = hidden_below s x f;
        one = sym (mod-mod_of_dvd s.first.modulus.n all one-pq) ∙ ap (λ t. t % s.first.modulus.n) kept ∙ mod-mod_of_dvd s.first.modulus.n low one-pq
            ∙ raised_old x.first s.first.modulus.n s.second.modulus.n s.inverse x.second ∙ mod-eq_of_lt p;
        two = sym (mod-mod_of_dvd s.second.modulus.n all two-pq) ∙ ap (λ t. t % s.second.modulus.n) kept ∙ mod-mod_of_dvd s.second.modulus.n low two-pq
            ∙ raised_new x.first s.first.modulus.n s.second.modulus.n s.inverse x.second s.inverts q;
        three = raised_new low pq s.third.modulus.n s.joint x.third s.joint_inverts r;
      }

  -- numbers that leave the same residues differ by a multiple of the product
  pub same_differ : (x : Residues) (m n : ℕ) → m ≤ n → Leaves s x m → Leaves s x n → product s ∣ n - m
  same_differ x m n le a b =
      joined (s.first.modulus.n * s.second.modulus.n) s.third.modulus.n s.joint (n - m) s.joint_inverts
      (joined s.first.modulus.n s.second.modulus.n s.inverse (n - m) s.inverts
      (differ m n s.first.modulus.n le (a.one ∙ sym b.one))
      (differ m n s.second.modulus.n le (a.two ∙ sym b.two)))
      (differ m n s.third.modulus.n le (a.three ∙ sym b.three))

  same_ordered : (x : Residues) (m n : ℕ) → m ≤ n → Leaves s x m → Leaves s x n → m ≡ n
  same_ordered x m n le a b =
      let B : n < product s = b.below in
      let zero-apart : n - m ≡ 0 = none_below (product s) (n - m) (same_differ x m n le a b) (omega arith) in
      omega arith

  -- at most one number leaves given residues
  pub same : (x : Residues) (m n : ℕ) → Leaves s x m → Leaves s x n → m ≡ n
  same x m n a b =
      ⊎_elim (λ (h : m < n). same_ordered x m n (omega arith) a b) (λ (h : n ≤ m). sym (same_ordered x n m h b a)) (cases_lt m n)

  -- whatever leaves the residues is what they hide
  pub hidden_is : (x : Residues) (n : ℕ) → Leaves s x n → hidden s x ≡ n
  hidden_is x n h = same x (hidden s x) n (hidden_leaves x (leaves_formed x n h)) h

  -- modulo a factor d of the product, the remainder of a sum is that of the two remainders
  sum_modulo : (m n d : ℕ) → d ∣ product s → (m + n) % product s % d ≡ (m % d + n % d) % d
  sum_modulo m n d h = mod-mod_of_dvd d (m + n) h ∙ add-mod m n d

  -- the sum modulo the product leaves the sums
  pub sum_leaves : (x y z : Residues) (m n : ℕ) → Leaves s x m → Leaves s y n
      → z.first ≡ (x.first + y.first) % s.first.modulus.n → z.second ≡ (x.second + y.second) % s.second.modulus.n → z.third ≡ (x.third + y.third) % s.third.modulus.n
      → Leaves s z ((m + n) % product s)
  sum_leaves x y z m n a b e f g = record {
    below = mod-lt (m + n) (product_some s);
    one = sum_modulo m n s.first.modulus.n one_divides ∙ rw (a.one, b.one) (sym e);
    two = sum_modulo m n s.second.modulus.n two_divides ∙ rw (a.two, b.two) (sym f);
    three = sum_modulo m n s.third.modulus.n (three_divides s) ∙ rw (a.three, b.three) (sym g);
  }

  -- what brings the sum with a remainder to 0 modulo a factor d of the product is the remainder of the opposite
  opposite_modulo : (m d x z : ℕ) → m ≤ product s → d ∣ product s → m % d ≡ x → z < d → (x + z) % d ≡ 0 → (product s - m) % product s % d ≡ z
  opposite_modulo m d x z le h e lt cancels =
      let back : ((product s - m) + m) % d ≡ (z + m) % d =
      ap (λ t. t % d) (omega arith) ∙ mod-eq-zero_of_dvd d h
      ∙ sym (sym (add-mod-mod z m d) ∙ ap (λ t. (z + t) % d) e ∙ ap (λ t. t % d) (add_comm z x) ∙ cancels) in
      mod-mod_of_dvd d (product s - m) h ∙ cancel (product s - m) z m d back ∙ mod-eq_of_lt lt

  -- what the product lacks of a number leaves the opposites
  pub opposite_leaves : (x z : Residues) (m : ℕ) → Leaves s x m → formed s z ≡ true
      → (x.first + z.first) % s.first.modulus.n ≡ 0 → (x.second + z.second) % s.second.modulus.n ≡ 0 → (x.third + z.third) % s.third.modulus.n ≡ 0
      → Leaves s z ((product s - m) % product s)
  opposite_leaves x z m a w e f g =
      let le : m ≤ product s = le_of_lt a.below in
      let in-range = formed_parts s z w in
      record {
        below = mod-lt (product s - m) (product_some s);
        one = opposite_modulo m s.first.modulus.n x.first z.first le one_divides a.one in-range.0 e;
        two = opposite_modulo m s.second.modulus.n x.second z.second le two_divides a.two in-range.1 f;
        three = opposite_modulo m s.third.modulus.n x.third z.third le (three_divides s) a.three in-range.2 g;
      }

  -- 0 leaves three zeros
  pub zero_leaves : (x : Residues) → x.first ≡ 0 → x.second ≡ 0 → x.third ≡ 0 → Leaves s x 0
  zero_leaves x e f g = record { below = (product_some s); one = zero-mod s.first.modulus.n ∙ sym e; two = zero-mod s.second.modulus.n ∙ sym f; three = zero-mod s.third.modulus.n ∙ sym g }

  -- modulo a factor d of the product, the residue of a whole number is that modulo d
  residue_modulo : (m : ℤ) (d : ℕ) → 0 < d → d ∣ product s → residue m (product s) % d ≡ residue m d
  unfolding residue
  residue_modulo (pos a) d some h = mod-mod_of_dvd d a h
  residue_modulo (negsuc a) d some h =
      let N : ℕ = product s in
      let up : a % N < N = mod-lt a (product_some s) in
      let lt : a % d < d = mod-lt a some in
      let back : ((N - 1 - a % N) + (1 + a % N)) % d ≡ ((d - 1 - a % d) + (1 + a % N)) % d =
      ap (λ t. t % d) (omega arith) ∙ mod-eq-zero_of_dvd d h ∙ sym (mod_self d)
      ∙ ap (λ t. t % d) (omega arith) ∙ ap (λ t. ((d - a % d) + t) % d) (sym (mod-mod_of_dvd d a h))
      ∙ add-mod-mod (d - a % d) (a % N) d ∙ ap (λ t. t % d) (omega arith) in
      cancel (N - 1 - a % N) (d - 1 - a % d) (1 + a % N) d back ∙ mod-eq_of_lt (omega arith)

  -- the residue of a whole number modulo the product leaves the three residues of the whole number
  pub residue_leaves : (m : ℤ) (x : Residues) → x.first ≡ residue m s.first.modulus.n → x.second ≡ residue m s.second.modulus.n → x.third ≡ residue m s.third.modulus.n
      → Leaves s x (residue m (product s))
  residue_leaves m x e f g = record {
    below = residue_below m (product s) (product_some s);
    one = residue_modulo m s.first.modulus.n (one_some s) one_divides ∙ sym e;
    two = residue_modulo m s.second.modulus.n (two_some s) two_divides ∙ sym f;
    three = residue_modulo m s.third.modulus.n (three_some s) (three_divides s) ∙ sym g;
  }

  pub pair_most : s.first.modulus.n * s.second.modulus.n < 2 ^ 40
  pair_most = let le : s.first.modulus.n * s.second.modulus.n ≤ 1_048_575 * 1_048_575 = mul-le-mul s.first.most s.second.most in (omega arith)

  pub zero_owed : (x : Residues) → x ≡ residues 0 0 0 → Zero (meant s) x
  zero_owed x e =
      let h : Leaves s x 0 = zero_leaves x (ap (λ z. z.first) e) (ap (λ z. z.second) e) (ap (λ z. z.third) e) in
      record { wf = leaves_formed x 0 h; reads = λ v. hidden_is x 0 h }

  pub sum_owed : (x y z : Residues)
      → z.first ≡ (x.first + y.first) % s.first.modulus.n → z.second ≡ (x.second + y.second) % s.second.modulus.n → z.third ≡ (x.third + y.third) % s.third.modulus.n
      → formed s x ≡ true → formed s y ≡ true → Sum (meant s) x y z
  sum_owed x y z e f g a b =
      let h = sum_leaves x y z (hidden s x) (hidden s y) (hidden_leaves x a) (hidden_leaves y b) e f g in
      record { wf = leaves_formed z _ h; reads = λ v. hidden_is z _ h }

  pub opposite_owed : (x z : Residues) → formed s z ≡ true
      → (x.first + z.first) % s.first.modulus.n ≡ 0 → (x.second + z.second) % s.second.modulus.n ≡ 0 → (x.third + z.third) % s.third.modulus.n ≡ 0
      → formed s x ≡ true → Opposite (meant s) x z
  opposite_owed x z w e f g a =
      let m : ℕ = hidden s x in
      let N : ℕ = product s in
      let l = hidden_leaves x a in
      let low : m < N = l.below in
      let h = opposite_leaves x z m l w e f g in
      record {
        wf = w;
        cancels = λ v. ap (λ t. (m + t) % N) (hidden_is z ((N - m) % N) h) ∙ add-mod-mod m (N - m) N ∙ ap (λ t. t % N) (omega arith) ∙ mod_self N;
      }

  pub sealed_owed : (m : ℤ) (word : ℕ) (x : Residues) → unsigned_abs m ≤ half (product s) → word < product s
      → x.first ≡ residue m s.first.modulus.n → x.second ≡ residue m s.second.modulus.n → x.third ≡ residue m s.third.modulus.n
      → Sealed (meant s) m word x
  sealed_owed m word x within taken e f g =
      let h = residue_leaves m x e f g in
      record { within = within; taken = lt-ltb word (product s) taken; wf = leaves_formed x (residue m (product s)) h; hidden = hidden_is x (residue m (product s)) h }

-- 3, 5 and 7 are lawful by the inverses 2 and 5 of 3 and the inverse 3 of 5; 23 leaves 2, 3 and 2
pub figure : Figure
figure = record {
  lawful = record {
    one = record { odd = refl; least = omega arith; most = omega arith };
    two = record { odd = refl; least = omega arith; most = omega arith };
    three = record { odd = refl; least = omega arith; most = omega arith };
    one_two = inverse_coprime 3 5 2 refl;
    one_three = inverse_coprime 3 7 5 refl;
    two_three = inverse_coprime 5 7 3 refl;
  };
  hides = λ s p q r. hidden_is s (residues 2 3 2) 23 (record {
    below = rw (p, q, r) (omega arith);
    one = rw p refl;
    two = rw q refl;
    three = rw r refl;
  });
}

pub one_is_hidden : OneIsHidden
one_is_hidden s x f = record { leaves = hidden_leaves s x f; only = λ k h. sym (hidden_is s x k h) }
