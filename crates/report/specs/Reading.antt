-- What a reading is of a complex whole number and a scale.
use Rattle.std.specs.Prelude.{ℕ, pos, ◌*ℤ◌}
use Rattle.integers.specs.declared.Complex.{Complex}
use Rattle.circle.specs.Nearest.{NearestSigned}
use Rattle.report.specs.declared.reading.Reading.{Reading}

-- each component is that of x over the scale, to the nearest hundredth, halves away from zero
pub record Reads (x : Complex) (scale : ℕ) (r : Reading) : Type 0 where
  pub re : NearestSigned (pos 100 *ℤ x.re) scale r.re.hundredths
  pub im : NearestSigned (pos 100 *ℤ x.im) scale r.im.hundredths
