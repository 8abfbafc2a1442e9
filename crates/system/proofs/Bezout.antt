-- Extended Euclid's algorithm: what its loop keeps, and what it answers.
use Rattle.std.specs.Prelude.{◌≡◌, ℕ, ◌+◌, ◌-◌, ◌*◌, ◌/◌, ◌%◌, ◌<◌, ◌≤◌, Bool, true, false, ◌==◌, refl}
use Rattle.std.specs.Bool.{then_some}
use Rattle.std.specs.Int.{◌∣◌}
use Rattle.std.proofs.Common.{sym, ap, ◌∙◌, add-mul, mul-add, mul_assoc, mul-one, mul-zero, mul_left_comm, mod-lt, mod-eq_of_lt, add_assoc, arith}
use Rattle.std.proofs.Math.Nat.{mod_self, zero-mod, mod-mod, mod-add-div, add-mul-mod_self_left, add-mod-mod, dvd-mod_iff, dvd_refl, dvd-zero, eq-one_of_dvd-one, dvd-mul_right_of_dvd}
use Rattle.system.specs.Moduli.{Coprime, Inverts, Inverse}
use Rattle.std.proofs.lemmas.Bool.{eqb-true, eqb-false}
use Rattle.std.proofs.lemmas.Nat.{mul-mod_first, mul-mod_second}
use Rattle.system.proofs.Congruence.{cancel}

-- rest and next are multiples of a, by f and g, modulo m; whatever divides both divides a and m
pub record Going (a m rest next f g : ℕ) : Type 0 where
  pub is : rest % m ≡ (a * f) % m
  pub follows : next % m ≡ (a * g) % m
  pub common : (d : ℕ) → d ∣ rest → d ∣ next → (d ∣ a) × (d ∣ m)
  pub f_below : f < m
  pub g_below : g < m
  pub rest_below : rest ≤ m
  pub next_below : next < m

pub begins : (a m : ℕ) → 2 ≤ m → Going a m m (a % m) 0 1
begins a m h = record {
  is = mod_self m ∙ sym (ap (λ t. t % m) (mul-zero a) ∙ zero-mod m);
  follows = mod-mod a m ∙ ap (λ t. t % m) (sym (mul-one a));
  common = λ d dm da. ((dvd-mod_iff d dm).0 da, dm);
  f_below = omega arith;
  g_below = omega arith;
  rest_below = omega arith;
  next_below = mod-lt a (omega arith);
}

module _ (a m rest next f g : ℕ) (so : Going a m rest next f g) (some : 0 < next) where
  pub factor_turn : (rest % next) % m ≡ (a * ((f + (m - g) * (rest / next)) % m)) % m
  factor_turn =
      let t : ℕ = rest / next in
      let G : g < m = so.g_below in
      let new : ℕ = a * (f + (m - g) * t) in
      let inside : (m - g) * t + g * t ≡ m * t = sym (add-mul (m - g) g t) ∙ ap (λ z. z * t) (omega arith) in
      let whole : new + a * g * t ≡ a * f + m * (a * t) =
      ap (λ z. z + a * g * t) (mul-add a f ((m - g) * t)) ∙ add_assoc (a * f) (a * ((m - g) * t)) (a * g * t)
      ∙ ap (λ z. a * f + z) (ap (λ z. a * ((m - g) * t) + z) (mul_assoc a g t) ∙ sym (mul-add a ((m - g) * t) (g * t)) ∙ ap (λ z. a * z) inside ∙ mul_left_comm a m t) in
      let right : (new + next * t) % m ≡ (a * f) % m =
      sym (add-mod-mod new (next * t) m)
      ∙ ap (λ z. (new + z) % m) (sym (mul-mod_first next t m) ∙ ap (λ z. (z * t) % m) so.follows ∙ mul-mod_first (a * g) t m)
      ∙ add-mod-mod new (a * g * t) m ∙ ap (λ z. z % m) whole ∙ add-mul-mod_self_left (a * f) m (a * t) in
      cancel (rest % next) new (next * t) m (ap (λ z. z % m) (mod-add-div rest next) ∙ so.is ∙ sym right)
      ∙ sym (mul-mod_second a (f + (m - g) * t) m)

  pub turns : Going a m next (rest % next) g ((f + (m - g) * (rest / next)) % m)
  turns = record {
    is = so.follows;
    follows = factor_turn;
    common = λ d dn dl. so.common d ((dvd-mod_iff d dn).0 dl) dn;
    f_below = so.g_below;
    g_below = mod-lt _ (omega arith);
    rest_below = let low : next < m = so.next_below in (omega arith);
    next_below = let less : rest % next < next = mod-lt rest some in let low : next < m = so.next_below in (omega arith);
  }

-- at the end the last rest divides a and m, so it is 1 where they have no other common divisor
pub ends : (a m rest next f g : ℕ) → Going a m rest next f g → next ≡ 0 → Coprime a m → rest ≡ 1
ends a m rest next f g so e only = let both = so.common rest (dvd_refl rest) (rw e (dvd-zero rest)) in only rest both.0 both.1

-- numbers of which one has an inverse modulo the other have no common divisor but 1
pub inverse_coprime : (a m u : ℕ) → (a * u) % m ≡ 1 → Coprime a m
inverse_coprime a m u inv d da dm =
    let all : d ∣ (a * u) % m = (dvd-mod_iff d dm).1 (dvd-mul_right_of_dvd d da u) in
    eq-one_of_dvd-one (rw inv at all)

-- and then its factor is an inverse
pub found : (a m rest next f g : ℕ) → 2 ≤ m → Going a m rest next f g → rest ≡ 1 → Inverts a m f
found a m rest next f g h so e =
    let inv : (a * f) % m ≡ 1 = sym so.is ∙ ap (λ t. t % m) e ∙ mod-eq_of_lt (omega arith) in
    record { below = so.f_below; product = inv; coprime = inverse_coprime a m f inv }

-- at the end the factor is answered where the last rest is 1, and none elsewhere
pub answers : (a m rest next f g : ℕ) → 2 ≤ m → Going a m rest next f g → next ≡ 0 → Inverse a m (then_some (rest == 1) f)
answers a m rest next f g h so e = go (rest == 1) refl
  where
    go : (b : Bool) → (rest == 1) ≡ b → Inverse a m (then_some b f)
    go true is = found a m rest next f g h so (eqb-true rest 1 is)
    go false is = λ only. eqb-false rest 1 is (ends a m rest next f g so e only)
