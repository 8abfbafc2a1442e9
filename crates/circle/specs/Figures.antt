-- Worked figures of the circle.
use Rattle.std.specs.Prelude.{◌≡◌, pos, negsuc}
use Rattle.integers.specs.Complex.{complex}
use Rattle.circle.specs.Circle.{cosine, sine}
use Rattle.circle.specs.Twiddle.{twiddle}
use Rattle.circle.specs.Spread.{spread}

-- at an eighth of a turn cosine and sine agree; two twiddles of scale 10, (7, −7) and (9, −4), and its spread
pub record CircleFigures : Type 0 where
  pub cosine_at_eighth : cosine 32 ≡ 759_250_125
  pub sine_at_eighth : sine 32 ≡ 759_250_125
  pub twiddle_at_eighth : twiddle 10 32 ≡ complex (pos 7) (negsuc 6)
  pub twiddle_at_sixteenth : twiddle 10 16 ≡ complex (pos 9) (negsuc 3)
  pub spread_of_ten : spread 10 ≡ 16
