-- What a scheme owes of its meaning, for the residue system: its modulus is lawful, and what is hidden is below it.
use Rattle.std.specs.Prelude.{◌≡◌, ℕ, ◌+◌, ◌-◌, ◌*◌, ◌%◌, ◌^◌, ◌<◌, ◌≤◌, true, ◌&&◌, nat_lt}
use Rattle.std.specs.Int.{◌∣◌}
use Rattle.std.proofs.Math.Path.{sym, ap}
use Rattle.std.proofs.Common.{◌∙◌, mul-pos, mul-add, mul-one, one-mul, mul-le-mul, arith}
use Rattle.std.proofs.Math.Nat.{dvd-mul_left, mod-lt, le_of_dvd, mul-le-mul_left}
use Rattle.std.proofs.lemmas.Nat.{mul-mod_first}
use Rattle.std.proofs.lemmas.Bool.{ltb-true, lt-ltb, and_parts}
use Rattle.scheme.specs.Meaning.{Sound}
use Rattle.system.specs.declared.residues.Residues.{Residues}
use Rattle.system.specs.declared.residues.System.{System}
use Rattle.system.specs.Hidden.{product, formed, raised, hidden}
use Rattle.system.specs.Meant.{meant}

-- the mixed-radix digit fills no more than a and m allow
module _ (base a m u x : ℕ) where
  pub raised_below : base < a → 0 < m → raised base a m u x < a * m
  unfolding raised
  raised_below h p =
      let k : ℕ = ((x + (m - base % m)) * u) % m in
      let lt : k < m = mod-lt _ p in
      let le : a * (k + 1) ≤ a * m = mul-le-mul_left a (omega arith) in
      omega (arith, mul-add a k 1, mul-one a)

module _ (s : System) where
  -- the moduli are above 0
  pub one_some : 0 < s.first.modulus.n
  one_some = omega (arith, s.first.modulus.least)

  pub two_some : 0 < s.second.modulus.n
  two_some = omega (arith, s.second.modulus.least)

  pub three_some : 0 < s.third.modulus.n
  three_some = omega (arith, s.third.modulus.least)

  pub product_some : 0 < product s
  product_some = mul-pos (mul-pos one_some two_some) three_some

  pub three_divides : s.third.modulus.n ∣ product s
  three_divides = dvd-mul_left s.third.modulus.n (s.first.modulus.n * s.second.modulus.n)

  -- well-formed residues are below their moduli
  pub formed_parts : (x : Residues) → formed s x ≡ true → (x.first < s.first.modulus.n) × (x.second < s.second.modulus.n) × (x.third < s.third.modulus.n)
  formed_parts x f =
      let parts = and_parts (nat_lt x.first s.first.modulus.n) (nat_lt x.second s.second.modulus.n && nat_lt x.third s.third.modulus.n) f in
      let rest = and_parts (nat_lt x.second s.second.modulus.n) (nat_lt x.third s.third.modulus.n) parts.1 in
      (ltb-true _ _ parts.0, ltb-true _ _ rest.0, ltb-true _ _ rest.1)

  -- the hidden number is below the product
  pub hidden_below : (x : Residues) → formed s x ≡ true → hidden s x < product s
  hidden_below x f =
      let parts = formed_parts x f in
      raised_below (raised x.first s.first.modulus.n s.second.modulus.n s.inverse x.second) (s.first.modulus.n * s.second.modulus.n) s.third.modulus.n s.joint x.third
      (raised_below x.first s.first.modulus.n s.second.modulus.n s.inverse x.second parts.0 two_some) three_some

  -- the product of the moduli is odd, at least 3 and below 2^60
  odd_times : (a b : ℕ) → a % 2 ≡ 1 → b % 2 ≡ 1 → (a * b) % 2 ≡ 1
  odd_times a b e f = sym (mul-mod_first a b 2) ∙ ap (λ t. (t * b) % 2) e ∙ ap (λ t. t % 2) (one-mul b) ∙ f

  pub product_odd : product s % 2 ≡ 1
  product_odd = odd_times (s.first.modulus.n * s.second.modulus.n) s.third.modulus.n (odd_times s.first.modulus.n s.second.modulus.n s.first.modulus.odd s.second.modulus.odd) s.third.modulus.odd

  pub product_most : product s < 2 ^ 60
  product_most =
      let pair : s.first.modulus.n * s.second.modulus.n ≤ 1_048_575 * 1_048_575 = mul-le-mul s.first.most s.second.most in
      let le : product s ≤ 1_048_575 * 1_048_575 * 1_048_575 = mul-le-mul pair s.third.most in
      omega arith

  pub product_least : 3 ≤ product s
  product_least =
      let le : s.third.modulus.n ≤ product s = le_of_dvd product_some three_divides in
      omega (arith, s.third.modulus.least)

  -- what a scheme owes
  pub sound : Sound (meant s)
  sound = record {
    odd = product_odd;
    least = product_least;
    most = omega (arith, product_most);
    one = lt-ltb 1 (product s) (omega (arith, product_least));
    below = λ v x f. hidden_below x f;
  }
