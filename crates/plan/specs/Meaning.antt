-- The scale, the bound and the distance of a plan's lines, and the moduli that a plan fits.
use Rattle.std.specs.Prelude.{◌≡◌, ℕ, zero, suc, ◌+◌, ◌*◌, ◌/◌, ◌^◌, ◌<◌, ◌≤◌, true, cond, Ok, Err, Result, nat_le}
use Rattle.circle.specs.Spread.{spread}
use Rattle.refusal.specs.declared.kinds.Refusal.{Refusal}
use Rattle.refusal.specs.declared.kinds.Refusal.TheVariants.{Narrow}
use Rattle.plan.specs.declared.method.Method.{Method}
use Rattle.plan.specs.declared.method.Method.TheVariants.{Direct, Radix2, Radix4}
use Rattle.plan.specs.declared.figures.Figures.{Figures}
use Rattle.plan.specs.Methods.{sized, base, rounding}

abbrev pub figures : ℕ → ℕ → ℕ → Figures
figures d b e = record { scale = d; bound = b; distance = e }

-- a direct line: each sample times a twiddle
abbrev pub directly : ℕ → ℕ → ℕ → Figures
directly m q1 q2 = figures q2 (m * q1 * spread q2) (m * q1)

-- a radix line up to size 4: every factor is exactly 1, −j, −1 or j
abbrev pub exact : ℕ → ℕ → Figures
exact m q1 = figures 1 (m * q1) 0

-- the sizes of a stage's factors together: the twiddle scale once, a twiddle for each further part
abbrev pub growth : Method → ℕ → ℕ
growth Direct q2 = q2 + spread q2
growth Radix2 q2 = q2 + spread q2
growth Radix4 q2 = q2 + 3 * spread q2

-- a stage on top of lines with the figures f: w is the weight of the rounding of its twiddles
abbrev pub stage : ℕ → ℕ → ℕ → ℕ → Figures → Figures
stage g w q1 q2 f = figures (q2 * f.scale) (g * f.bound) (g * f.distance + f.scale * w * q1)

-- a radix line of size m, with at most d stages above size 4
unfoldable pub radix : Method → ℕ → ℕ → ℕ → ℕ → Figures
radix k zero m q1 q2 = exact m q1
radix k (suc d) m q1 q2 = cond (nat_le m 4) (exact m q1) (stage (growth k q2) (rounding k m) q1 q2 (radix k d (m / base k) q1 q2))

-- the figures of a method, a size, a sample scale and a twiddle scale
abbrev pub figures_of : Method → ℕ → ℕ → ℕ → Figures
figures_of Direct m q1 q2 = directly m q1 q2
figures_of Radix2 m q1 q2 = radix Radix2 6 m q1 q2
figures_of Radix4 m q1 q2 = radix Radix4 6 m q1 q2

-- The rules of the figures, as a relation: f gives the figures of a method, a size and two scales.
pub record FigureRules (f : Method → ℕ → ℕ → ℕ → Figures) : Type 0 where
  pub direct : (m q1 q2 : ℕ) → sized Direct m ≡ true → f Direct m q1 q2 ≡ figures q2 (m * q1 * spread q2) (m * q1)
  pub small2 : (m q1 q2 : ℕ) → sized Radix2 m ≡ true → m ≤ 4 → f Radix2 m q1 q2 ≡ figures 1 (m * q1) 0
  pub small4 : (m q1 q2 : ℕ) → sized Radix4 m ≡ true → m ≤ 4 → f Radix4 m q1 q2 ≡ figures 1 (m * q1) 0
  pub halved : (m q1 q2 : ℕ) → sized Radix2 m ≡ true → 8 ≤ m → let g = f Radix2 (m / 2) q1 q2 in f Radix2 m q1 q2 ≡ figures (q2 * g.scale) ((q2 + spread q2) * g.bound) ((q2 + spread q2) * g.distance + g.scale * m * q1)
  pub quartered : (m q1 q2 : ℕ) → sized Radix4 m ≡ true → 16 ≤ m → let g = f Radix4 (m / 4) q1 q2 in f Radix4 m q1 q2 ≡ figures (q2 * g.scale) ((q2 + 3 * spread q2) * g.bound) ((q2 + 3 * spread q2) * g.distance + g.scale * (5 * m / 4) * q1)

-- The rules hold of the definition, and at every lawful size of nothing else.
pub record OneMeaning : Type 0 where
  pub keeps : FigureRules figures_of
  pub only : (f : Method → ℕ → ℕ → ℕ → Figures) → FigureRules f → (k : Method) (m q1 q2 : ℕ) → sized k m ≡ true → f k m q1 q2 ≡ figures_of k m q1 q2

-- how large the figures of a lawful plan may be: 128 bits hold them, and twice the bound plus 1
pub record Representable (f : Figures) : Type 0 where
  pub scale : f.scale ≤ 2 ^ 90
  pub bound : f.bound < 2 ^ 115
  pub distance : f.distance < 2 ^ 102

-- the smallest modulus in whose signed range every line component lies
abbrev pub least_modulus_of : Figures → ℕ
least_modulus_of f = 2 * f.bound + 1

-- the answer whether lines with the figures f fit a modulus
abbrev pub Fits : Figures → ℕ → Result (Unit {0}) Refusal → Type 0
Fits f n (Ok _) = least_modulus_of f ≤ n
Fits f n (Err x) = (x ≡ Narrow) × (n < least_modulus_of f)
