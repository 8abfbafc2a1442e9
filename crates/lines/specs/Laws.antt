-- The theorems on lines: their bound, their meaning modulo N, their distance from the fine transform.
use Rattle.std.specs.Prelude.{◌≡◌, true, ℕ, ◌*◌, ◌%◌, ◌^◌, ◌<◌, ◌≤◌, nat_abs}
use Rattle.integers.specs.declared.Complex.{Complex}
use Rattle.integers.specs.Complex.{complex}
use Rattle.integers.specs.Residue.{residue, centred}
use Rattle.circle.specs.Near.{Near, multiple}
use Rattle.plan.specs.declared.method.Method.{Method}
use Rattle.plan.specs.Methods.{sized}
use Rattle.plan.specs.Meaning.{figures_of, least_modulus_of}
use Rattle.lines.specs.Lines.{line_of, fine_line_of}

-- each component of x is at most b in size
pub record Within (b : ℕ) (x : Complex) : Type 0 where
  pub re : nat_abs x.re ≤ b
  pub im : nat_abs x.im ≤ b

-- the samples below m lie within the sample scale q1
abbrev pub Samples : ℕ → ℕ → (ℕ → Complex) → Type 0
Samples m q1 s = (n : ℕ) → n < m → Within q1 (s n)

-- each component of a line is at most the bound in size
abbrev pub LinesBounded : Type 0
LinesBounded = (k : Method) (m q1 q2 : ℕ) (s : ℕ → Complex) → sized k m ≡ true → Samples m q1 s → (j : ℕ) → j < m → Within (figures_of k m q1 q2).bound (line_of k m q2 s j)

-- what the residue modulo n of each component means
abbrev pub meant : ℕ → Complex → Complex
meant n x = complex (centred (residue x.re n) n) (centred (residue x.im n) n)

-- modulo an odd n that a plan fits, the meaning of a line's residue is the line
abbrev pub LinesMeant : Type 0
LinesMeant = (k : Method) (m q1 q2 : ℕ) (s : ℕ → Complex) → sized k m ≡ true → Samples m q1 s → (n : ℕ) → n % 2 ≡ 1 → least_modulus_of (figures_of k m q1 q2) ≤ n → (j : ℕ) → j < m → meant n (line_of k m q2 s j) ≡ line_of k m q2 s j

-- each component of 2^30·S(j) − scale·X(j) is at most 2^30 times the distance in size, at lawful twiddle scales
abbrev pub LinesNear : Type 0
LinesNear = (k : Method) (m q1 q2 : ℕ) (s : ℕ → Complex) → sized k m ≡ true → q2 ≤ 32768 → Samples m q1 s → (j : ℕ) → j < m → Near (2 ^ 30 * (figures_of k m q1 q2).distance) (multiple (2 ^ 30) (line_of k m q2 s j)) (multiple (figures_of k m q1 q2).scale (fine_line_of m s j))
