-- The sizes: a fact at each of them is a fact of every lawful size; they are the powers of the base up to 256.
use Rattle.std.proofs.Common.{◌≡◌, ℕ, zero, suc, ◌^◌, ◌<◌, ◌≤◌, Bool, true, false, cond, eqb, List, [], ◌∷◌, sym, refl, subst, arith, lit≤, pow_mono, eqb-true}
use native.Mathlib.Nat.{pow-le-pow_left}
use native.Mathlib.Decide.{dec_lt}
use borrow.Author.Tests.{clash}
use Rattle.plan.specs.declared.method.Method.{Method}
use Rattle.plan.specs.declared.method.Method.TheVariants.{Direct, Radix2, Radix4}
use Rattle.plan.specs.Methods.{sizes, among, sized, base, SizesArePowers}

-- P holds of each number of the list
abbrev pub Each : (ℕ → Type 0) → List ℕ → Type 0
Each P [] = Unit {0}
Each P (x ∷ xs) = P x × Each P xs

-- a fact of each number of a list is a fact of every number among them
pub carried : (P : ℕ → Type 0) (xs : List ℕ) → Each P xs → (m : ℕ) → among xs m ≡ true → P m
carried P [] t m h = absurd (clash h)
carried P (x ∷ xs) t m h = go (eqb m x) refl (carried P xs t.1 m) h
  where
    go : (b : Bool) → eqb m x ≡ b → (among xs m ≡ true → P m) → cond b true (among xs m) ≡ true → P m
    go true e more i = subst P (sym (eqb-true m x e)) t.0
    go false e more i = more i

-- every lawful size is at most 256
pub at_most_256 : (k : Method) (m : ℕ) → sized k m ≡ true → m ≤ 256
at_most_256 Direct = carried (λ n. n ≤ 256) (sizes Direct) (omega arith)
at_most_256 Radix2 = carried (λ n. n ≤ 256) (sizes Radix2) (omega arith)
at_most_256 Radix4 = carried (λ n. n ≤ 256) (sizes Radix4) (omega arith)

powers : (k : Method) (m : ℕ) → sized k m ≡ true → (t : ℕ) × (m ≡ base k ^ t) × (m ≤ 256)
powers Direct = carried (λ n. (t : ℕ) × (n ≡ 2 ^ t) × (n ≤ 256)) (sizes Direct) ((0, refl, lit≤ tt), ((1, refl, lit≤ tt), ((2, refl, lit≤ tt), ((3, refl, lit≤ tt), ((4, refl, lit≤ tt), ((5, refl, lit≤ tt), ((6, refl, lit≤ tt), ((7, refl, lit≤ tt), ((8, refl, lit≤ tt), tt)))))))))
powers Radix2 = carried (λ n. (t : ℕ) × (n ≡ 2 ^ t) × (n ≤ 256)) (sizes Radix2) ((0, refl, lit≤ tt), ((1, refl, lit≤ tt), ((2, refl, lit≤ tt), ((3, refl, lit≤ tt), ((4, refl, lit≤ tt), ((5, refl, lit≤ tt), ((6, refl, lit≤ tt), ((7, refl, lit≤ tt), ((8, refl, lit≤ tt), tt)))))))))
powers Radix4 = carried (λ n. (t : ℕ) × (n ≡ 4 ^ t) × (n ≤ 256)) (sizes Radix4) ((0, refl, lit≤ tt), ((1, refl, lit≤ tt), ((2, refl, lit≤ tt), ((3, refl, lit≤ tt), ((4, refl, lit≤ tt), tt)))))

-- a power above the ninth is too large, whatever the base from 2 on
too_large : (r t : ℕ) → 2 ≤ r → 9 ≤ t → r ^ t ≤ 256 → ⊥
too_large r t two nine h =
    let a : 2 ^ 9 ≤ 2 ^ t = pow_mono nine in
    let b : 2 ^ t ≤ r ^ t = pow-le-pow_left two t in
    omega arith

-- a fact of each number below nine
below_nine : (P : ℕ → Type 0) → P 0 → P 1 → P 2 → P 3 → P 4 → P 5 → P 6 → P 7 → P 8 → (t : ℕ) → t < 9 → P t
below_nine P a b c d e f g h i zero less = a
below_nine P a b c d e f g h i (suc zero) less = b
below_nine P a b c d e f g h i (suc (suc zero)) less = c
below_nine P a b c d e f g h i (suc (suc (suc zero))) less = d
below_nine P a b c d e f g h i (suc (suc (suc (suc zero)))) less = e
below_nine P a b c d e f g h i (suc (suc (suc (suc (suc zero))))) less = f
below_nine P a b c d e f g h i (suc (suc (suc (suc (suc (suc zero)))))) less = g
below_nine P a b c d e f g h i (suc (suc (suc (suc (suc (suc (suc zero))))))) less = h
below_nine P a b c d e f g h i (suc (suc (suc (suc (suc (suc (suc (suc zero)))))))) less = i
below_nine P a b c d e f g h i (suc (suc (suc (suc (suc (suc (suc (suc (suc t))))))))) less = absurd (omega arith)

-- the power is a size, where it is small enough
abbrev PowerAt : Method → ℕ → Type 0
PowerAt k t = base k ^ t ≤ 256 → sized k (base k ^ t) ≡ true

every_below : (k : Method) (t : ℕ) → t < 9 → PowerAt k t
every_below Direct = below_nine (PowerAt Direct) (λ h. refl) (λ h. refl) (λ h. refl) (λ h. refl) (λ h. refl) (λ h. refl) (λ h. refl) (λ h. refl) (λ h. refl)
every_below Radix2 = below_nine (PowerAt Radix2) (λ h. refl) (λ h. refl) (λ h. refl) (λ h. refl) (λ h. refl) (λ h. refl) (λ h. refl) (λ h. refl) (λ h. refl)
every_below Radix4 = below_nine (PowerAt Radix4) (λ h. refl) (λ h. refl) (λ h. refl) (λ h. refl) (λ h. refl) (λ h. absurd (omega arith)) (λ h. absurd (omega arith)) (λ h. absurd (omega arith)) (λ h. absurd (omega arith))

base_two : (k : Method) → 2 ≤ base k
base_two Direct = omega arith
base_two Radix2 = omega arith
base_two Radix4 = omega arith

every : (k : Method) (t : ℕ) → PowerAt k t
every k t h = go (dec_lt t 9)
  where
    go : Dec (t < 9) → sized k (base k ^ t) ≡ true
    go (yes less) = every_below k t less h
    go (no more) = absurd (too_large (base k) t (base_two k) (omega arith) h)

pub sizes_are_powers_lem : SizesArePowers
sizes_are_powers_lem = record { power = powers; every = every }
