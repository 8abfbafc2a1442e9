-- Which numbers are moduli, and what making one answers.
use Rattle.std.specs.Prelude.{◌≡◌, ℕ, ◌%◌, ◌^◌, Bool, true, false, ◌&&◌, Some, None, Option, ◌==◌, nat_le, nat_lt}
use Rattle.integers.specs.declared.modulus.Modulus.{Modulus}

-- a modulus is odd, from 3 to 2^62 − 1
abbrev pub is_modulus : ℕ → Bool
is_modulus n = n % 2 == 1 && nat_le 3 n && nat_lt n (2 ^ 62)

-- the modulus is n, which is one; or n is none
abbrev pub Made : ℕ → Option Modulus → Type 0
Made n (Some m) = (is_modulus n ≡ true) × (m.n ≡ n)
Made n None = is_modulus n ≡ false
