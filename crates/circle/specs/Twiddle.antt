-- The twiddles of a scale: the fine twiddles brought to that scale and rounded.
use Rattle.std.specs.Prelude.{◌≡◌, ℕ, suc, ◌+◌, ◌/◌, ◌^◌, ℤ, pos, negsuc, ◌*ℤ◌, neg_ℤ}
use Rattle.integers.specs.declared.Complex.{Complex}
use Rattle.integers.specs.Complex.{complex}
use Rattle.circle.specs.Nearest.{NearestSigned}
use Rattle.circle.specs.Fine.{fine}

-- the rule of the twiddles g of a scale, over the fine twiddles: scale/2^30 of each component, to the nearest
pub record Twiddles (scale : ℕ) (g : ℕ → Complex) : Type 0 where
  pub re : (u : ℕ) → NearestSigned (pos scale *ℤ (fine u).re) (2 ^ 30) (g u).re
  pub im : (u : ℕ) → NearestSigned (pos scale *ℤ (fine u).im) (2 ^ 30) (g u).im

-- a/2^30 to the nearest whole number, halves away from zero
unfoldable pub rounded : ℤ → ℤ
rounded (pos n) = pos ((n + 2 ^ 29) / 2 ^ 30)
rounded (negsuc n) = neg_ℤ (pos ((suc n + 2 ^ 29) / 2 ^ 30))

-- the twiddle of a scale at u
unfoldable pub twiddle : ℕ → ℕ → Complex
twiddle scale u = complex (rounded (pos scale *ℤ (fine u).re)) (rounded (pos scale *ℤ (fine u).im))

-- the rule has exactly one solution at every scale, and it is `twiddle`
pub record TwiddlesDetermined : Type 0 where
  pub solves : (scale : ℕ) → Twiddles scale (twiddle scale)
  pub only : (scale : ℕ) (g : ℕ → Complex) → Twiddles scale g → (u : ℕ) → g u ≡ twiddle scale u
