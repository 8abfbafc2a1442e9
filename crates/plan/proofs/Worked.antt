-- The worked figures, computed from the definitions.
use Rattle.std.proofs.Common.{refl, lit<, lit≤}
use Rattle.circle.proofs.Figures.{figures}
use Rattle.plan.specs.Meaning.{radix}
use Rattle.plan.specs.Examples.{WorkedFigures}

pub worked_figures : WorkedFigures
unfolding radix
worked_figures = record {
  circle = figures;
  direct4 = refl;
  radix2 = refl;
  radix4 = refl;
  direct = refl;
  radix2_least = record { least = refl; fits = lit≤ tt; narrow = (refl, lit< tt) };
  radix4_least = record { least = refl; fits = lit≤ tt; narrow = (refl, lit< tt) };
  direct_least = record { least = refl; fits = lit≤ tt; narrow = (refl, lit< tt) };
}
