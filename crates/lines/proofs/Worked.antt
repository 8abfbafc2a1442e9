-- The worked figures, computed from the definitions.
use mathlib.Core.Path.{refl}
use Rattle.circle.specs.Near.{turned}
use Rattle.circle.specs.Fine.{fine}
use Rattle.circle.specs.Circle.{circle, point, halved, nearest_root, floor_root}
use Rattle.circle.specs.Twiddle.{twiddle, rounded}
use Rattle.plan.specs.Meaning.{radix}
use Rattle.plan.proofs.Worked.{worked_figures}
use Rattle.lines.specs.Lines.{sum_below, direct_line_of, radix_line_of, mix, butterfly, weight, divisions}
use Rattle.lines.specs.Examples.{LineFigures}

pub line_figures : LineFigures
unfolding radix sum_below direct_line_of radix_line_of mix butterfly weight divisions turned twiddle rounded fine circle point halved nearest_root floor_root
line_figures = record {
  plans = worked_figures;
  radix2_rising = λ q. record { line0 = refl; line1 = refl; line2 = refl; line3 = refl };
  radix2_figures = λ q1 q2. refl;
  direct_rising = record { line0 = refl; line1 = refl; line2 = refl; line3 = refl };
  direct_figures = refl;
  radix2_impulse = refl;
  radix4_impulse = refl;
  direct_impulse = refl;
}
