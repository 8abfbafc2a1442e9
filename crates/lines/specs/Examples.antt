-- Worked figures of lines, together with those of the circle and of plans.
use Rattle.std.specs.Prelude.{◌≡◌, List, [], ◌∷◌, ℕ, ◌*◌, ℤ, pos, negsuc, get_or}
use Rattle.integers.specs.declared.Complex.{Complex}
use Rattle.integers.specs.Complex.{complex, real}
use Rattle.plan.specs.declared.method.Method.{Method}
use Rattle.plan.specs.declared.method.Method.TheVariants.{Direct, Radix2, Radix4}
use Rattle.plan.specs.Meaning.{figures, figures_of}
use Rattle.plan.specs.Examples.{WorkedFigures}
use Rattle.lines.specs.Lines.{line_of}

-- samples from a list of real numbers, 0 after them
abbrev pub samples : List ℤ → ℕ → Complex
samples xs n = real (get_or xs n (pos 0))

-- 1, 2, 3, 4
abbrev pub rising : ℕ → Complex
rising = samples (pos 1 ∷ pos 2 ∷ pos 3 ∷ pos 4 ∷ [])

-- s(3) = 1, the others 0
abbrev pub impulse : ℕ → Complex
impulse = samples (pos 0 ∷ pos 0 ∷ pos 0 ∷ pos 1 ∷ [])

-- the four lines of size 4 over the rising samples
pub record RisingLines (k : Method) (q : ℕ) (a b c d : Complex) : Type 0 where
  pub line0 : line_of k 4 q rising 0 ≡ a
  pub line1 : line_of k 4 q rising 1 ≡ b
  pub line2 : line_of k 4 q rising 2 ≡ c
  pub line3 : line_of k 4 q rising 3 ≡ d

-- One joint statement. Samples 1, 2, 3, 4 of size 4: by radix 2 (10, 0), (−2, 2), (−2, 0), (−2, −2), with scale 1 and distance 0 at every pair of scales;
-- direct with twiddle scale 5 five times these, with sample scale 10 at scale 5, bound 320 and distance 40.
-- An impulse at sample 3 of size 16, twiddle scale 10, line 1: radix 2 (35, −91), radix 4 (4, −9), direct (4, −9).
pub record LineFigures : Type 0 where
  pub plans : WorkedFigures
  pub radix2_rising : (q : ℕ) → RisingLines Radix2 q (complex (pos 10) (pos 0)) (complex (negsuc 1) (pos 2)) (complex (negsuc 1) (pos 0)) (complex (negsuc 1) (negsuc 1))
  pub radix2_figures : (q1 q2 : ℕ) → figures_of Radix2 4 q1 q2 ≡ figures 1 (4 * q1) 0
  pub direct_rising : RisingLines Direct 5 (complex (pos 50) (pos 0)) (complex (negsuc 9) (pos 10)) (complex (negsuc 9) (pos 0)) (complex (negsuc 9) (negsuc 9))
  pub direct_figures : figures_of Direct 4 10 5 ≡ figures 5 320 40
  pub radix2_impulse : line_of Radix2 16 10 impulse 1 ≡ complex (pos 35) (negsuc 90)
  pub radix4_impulse : line_of Radix4 16 10 impulse 1 ≡ complex (pos 4) (negsuc 8)
  pub direct_impulse : line_of Direct 16 10 impulse 1 ≡ complex (pos 4) (negsuc 8)
