-- What it is to be the nearest whole number, by inequalities.
use Rattle.std.specs.Prelude.{ℕ, ◌+◌, ◌-◌, ◌*◌, ◌<◌, ◌≤◌, ◌⊎◌, ℤ, pos, ◌≤ℤ◌, unsigned_abs}

-- r, at least 1, is the whole number nearest to the square root of x: r − 1/2 < √x < r + 1/2, doubled and squared
pub record NearestRoot (x r : ℕ) : Type 0 where
  pub positive : 1 ≤ r
  pub above : (2 * r - 1) * (2 * r - 1) < 4 * x
  pub below : 4 * x < (2 * r + 1) * (2 * r + 1)

-- r is the whole number nearest to a/b, halves upward: r ≤ a/b + 1/2 < r + 1, times 2·b
pub record NearestQuotient (a b r : ℕ) : Type 0 where
  pub positive : 0 < b
  pub above : 2 * b * r ≤ 2 * a + b
  pub below : 2 * a + b < 2 * b * (r + 1)

-- r is the whole number nearest to a/b, halves away from zero: its size is nearest to that of a/b, and the signs do not differ
pub record NearestSigned (a : ℤ) (b : ℕ) (r : ℤ) : Type 0 where
  pub size : NearestQuotient (unsigned_abs a) b (unsigned_abs r)
  pub sign : ((pos 0 ≤ℤ a) × (pos 0 ≤ℤ r)) ⊎ ((a ≤ℤ pos 0) × (r ≤ℤ pos 0))
