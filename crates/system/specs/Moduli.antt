-- The rule for the three moduli of a residue system.
use Rattle.std.specs.Prelude.{◌≡◌, ℕ, ◌*◌, ◌%◌, ◌<◌, ◌≤◌, Some, None, Option}
use Rattle.std.specs.Int.{◌∣◌}

-- no number but 1 divides both
abbrev pub Coprime : ℕ → ℕ → Type 0
Coprime a b = (d : ℕ) → d ∣ a → d ∣ b → d ≡ 1

-- a lawful modulus: odd, from 3 to 1,048,575
pub record Suits (m : ℕ) : Type 0 where
  pub odd : m % 2 ≡ 1
  pub least : 3 ≤ m
  pub most : m ≤ 1_048_575

-- three lawful moduli, no two of which have a common factor
pub record Lawful (p q r : ℕ) : Type 0 where
  pub one : Suits p
  pub two : Suits q
  pub three : Suits r
  pub one_two : Coprime p q
  pub one_three : Coprime p r
  pub two_three : Coprime q r

-- u is an inverse of a modulo m, and a and m have no common factor
pub record Inverts (a m u : ℕ) : Type 0 where
  pub below : u < m
  pub product : (a * u) % m ≡ 1
  pub coprime : Coprime a m

-- an answer to the search for an inverse of a modulo m: one, or none where a and m have a common factor
abbrev pub Inverse : ℕ → ℕ → Option ℕ → Type 0
Inverse a m (Some u) = Inverts a m u
Inverse a m None = Coprime a m → ⊥
