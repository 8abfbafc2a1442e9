-- The number that three residues hide.
use Rattle.std.specs.Prelude.{◌≡◌, ℕ, ◌+◌, ◌-◌, ◌*◌, ◌%◌, ◌<◌, Bool, true, ◌&&◌, nat_lt}
use Rattle.system.specs.declared.residues.Residues.{Residues}
use Rattle.system.specs.declared.residues.System.{System}
use Rattle.system.specs.Moduli.{Lawful}

-- the modulus of the system: the product of the three
abbrev pub product : System → ℕ
product s = s.first.modulus.n * s.second.modulus.n * s.third.modulus.n

-- three residues together
abbrev pub residues : ℕ → ℕ → ℕ → Residues
residues a b c = record { first = a; second = b; third = c }

-- whether each residue is below its modulus
abbrev pub formed : System → Residues → Bool
formed s x = nat_lt x.first s.first.modulus.n && (nat_lt x.second s.second.modulus.n && nat_lt x.third s.third.modulus.n)

-- n is a number below the product that leaves the three residues
pub record Leaves (s : System) (x : Residues) (n : ℕ) : Type 0 where
  pub below : n < product s
  pub one : n % s.first.modulus.n ≡ x.first
  pub two : n % s.second.modulus.n ≡ x.second
  pub three : n % s.third.modulus.n ≡ x.third

-- a mixed-radix digit: base, raised by the multiple of a that makes it leave x modulo m, where u is an inverse of a modulo m
unfoldable pub raised : (base a m u x : ℕ) → ℕ
raised base a m u x = base + a * (((x + (m - base % m)) * u) % m)

-- the number that the residues hide, digit by digit in mixed radix: the first residue, raised to leave the second too, then the third
abbrev pub hidden : System → Residues → ℕ
hidden s x =
    raised (raised x.first s.first.modulus.n s.second.modulus.n s.inverse x.second) (s.first.modulus.n * s.second.modulus.n) s.third.modulus.n s.joint x.third

-- n is the one number below the product that leaves the residues
pub record TheOne (s : System) (x : Residues) (n : ℕ) : Type 0 where
  pub leaves : Leaves s x n
  pub only : (k : ℕ) → Leaves s x k → k ≡ n

-- in every system three residues that are each below their modulus are left by one number, which is the hidden one
abbrev pub OneIsHidden : Type 0
OneIsHidden = (s : System) (x : Residues) → formed s x ≡ true → TheOne s x (hidden s x)

-- the moduli 3, 5 and 7 are lawful, and in every system of them the residues 2, 3 and 2 hide 23
pub record Figure : Type 0 where
  pub lawful : Lawful 3 5 7
  pub hides : (s : System) → s.first.modulus.n ≡ 3 → s.second.modulus.n ≡ 5 → s.third.modulus.n ≡ 7 → hidden s (residues 2 3 2) ≡ 23
