-- Worked figures of the circle and of plans.
use Rattle.std.specs.Prelude.{◌≡◌, ℕ, Ok, Err}
use Rattle.circle.specs.Figures.{CircleFigures}
use Rattle.refusal.specs.declared.kinds.Refusal.TheVariants.{Narrow}
use Rattle.plan.specs.declared.method.Method.TheVariants.{Direct, Radix2, Radix4}
use Rattle.plan.specs.declared.figures.Figures.{Figures}
use Rattle.plan.specs.Meaning.{figures, figures_of, least_modulus_of, Fits}

-- lines with the figures f fit n and every modulus from there on; n less 2 is narrow
pub record Least (f : Figures) (n : ℕ) (less : ℕ) : Type 0 where
  pub least : least_modulus_of f ≡ n
  pub fits : Fits f n (Ok tt)
  pub narrow : Fits f less (Err Narrow)

-- One joint statement: the circle's figures; scale, bound and distance of a direct plan of size 4 with sample scale 10 and twiddle scale 5,
-- and of the three methods at size 16 with sample scale 100 and twiddle scale 10, with their least moduli.
pub record WorkedFigures : Type 0 where
  pub circle : CircleFigures
  pub direct4 : figures_of Direct 4 10 5 ≡ figures 5 320 40
  pub radix2 : figures_of Radix2 16 100 10 ≡ figures 100 270_400 36_800
  pub radix4 : figures_of Radix4 16 100 10 ≡ figures 10 23_200 2_000
  pub direct : figures_of Direct 16 100 10 ≡ figures 10 25_600 1_600
  pub radix2_least : Least (figures_of Radix2 16 100 10) 540_801 540_799
  pub radix4_least : Least (figures_of Radix4 16 100 10) 46_401 46_399
  pub direct_least : Least (figures_of Direct 16 100 10) 51_201 51_199
