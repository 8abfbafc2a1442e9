-- The worked figures, computed.
use Rattle.std.proofs.Common.{refl}
use Rattle.circle.specs.Circle.{circle, point, halved, nearest_root, floor_root}
use Rattle.circle.specs.Near.{turned}
use Rattle.circle.specs.Fine.{fine}
use Rattle.circle.specs.Twiddle.{twiddle, rounded}
use Rattle.circle.specs.Figures.{CircleFigures}

pub figures : CircleFigures
unfolding circle point halved nearest_root floor_root turned fine twiddle rounded
figures =
    record {
      cosine_at_eighth = refl;
      sine_at_eighth = refl;
      twiddle_at_eighth = refl;
      twiddle_at_sixteenth = refl;
      spread_of_ten = refl;
    }
