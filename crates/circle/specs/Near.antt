-- Complex whole numbers that lie near one another, and their multiples and quarter turns.
use Rattle.std.specs.Prelude.{ℕ, zero, suc, ◌+◌, ◌≤◌, pos, ◌-ℤ◌, ◌*ℤ◌, unsigned_abs}
use Rattle.integers.specs.declared.Complex.{Complex}
use Rattle.integers.specs.Complex.{complex, quarter_turn_of}

-- each component of x − y is at most b in size
pub record Near (b : ℕ) (x y : Complex) : Type 0 where
  pub re : unsigned_abs (x.re -ℤ y.re) ≤ b
  pub im : unsigned_abs (x.im -ℤ y.im) ≤ b

-- the sizes of both components together
abbrev pub sizes : Complex → ℕ
sizes x = unsigned_abs x.re + unsigned_abs x.im

-- n times x
abbrev pub multiple : ℕ → Complex → Complex
multiple n x = complex (pos n *ℤ x.re) (pos n *ℤ x.im)

-- x turned k times by the factor −j
unfoldable pub turned : ℕ → Complex → Complex
turned zero x = x
turned (suc k) x = quarter_turn_of (turned k x)
