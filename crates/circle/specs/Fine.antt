-- The fine twiddles: powers of the 256th root of unity, times 2^30, from the circle.
use Rattle.std.specs.Prelude.{◌≡◌, ℕ, ◌+◌, ◌*◌, ◌/◌, ◌%◌, ◌^◌, ◌<◌, pos, neg_ℤ}
use Rattle.integers.specs.declared.Complex.{Complex}
use Rattle.integers.specs.Complex.{complex, quarter_turn_of, ◌⊗◌}
use Rattle.circle.specs.Circle.{Circle, cosine, sine}
use Rattle.circle.specs.Near.{Near, multiple, turned}

-- the rules of the fine twiddles over a cosine c and a sine s
pub record FineTwiddles (c s : ℕ → ℕ) (f : ℕ → Complex) : Type 0 where
  pub first : (u : ℕ) → u < 64 → f u ≡ complex (pos (c u)) (neg_ℤ (pos (s u)))
  pub turn : (u : ℕ) → f (u + 64) ≡ quarter_turn_of (f u)
  pub period : (u : ℕ) → f (u + 256) ≡ f u

-- the fine twiddle at u: that of the first quarter, turned
unfoldable pub fine : ℕ → Complex
fine u = turned (u / 64 % 4) (complex (pos (cosine (u % 64))) (neg_ℤ (pos (sine (u % 64)))))

-- the rules have exactly one solution over the one circle, and it is `fine`
pub record FineDetermined : Type 0 where
  pub solves : FineTwiddles cosine sine fine
  pub only : (c s : ℕ → ℕ) (f : ℕ → Complex) → Circle c s → FineTwiddles c s f → (u : ℕ) → f u ≡ fine u

-- fine twiddles multiply as powers of one root, but for rounding
abbrev pub FineProducts : Type 0
FineProducts = (u v : ℕ) → Near (8 * 2 ^ 30) (fine u ⊗ fine v) (multiple (2 ^ 30) (fine (u + v)))
