-- Residues of whole numbers, and what a residue means as a whole number.
use Rattle.std.specs.Prelude.{◌≡◌, ℕ, ◌-◌, ◌/◌, ◌%◌, ◌<◌, ◌≤◌, cond, ℤ, pos, negsuc, ◌+ℤ◌, ◌-ℤ◌, ◌*ℤ◌, nat_le, unsigned_abs}

-- the residue of a whole number modulo n
unfoldable pub residue : ℤ → ℕ → ℕ
residue (pos a) n = a % n
residue (negsuc a) n = n - 1 - a % n

-- r is the residue of m modulo n: it is below n, and m differs from it by a multiple of n
pub record IsResidue (m : ℤ) (n r : ℕ) : Type 0 where
  pub below : r < n
  pub times : ℤ
  pub differs : m ≡ pos r +ℤ times *ℤ pos n

-- every whole number has one residue and no other
pub record ResidueStands : Type 0 where
  pub is : (m : ℤ) (n : ℕ) → 0 < n → IsResidue m n (residue m n)
  pub only : (m : ℤ) (n r : ℕ) → IsResidue m n r → r ≡ residue m n

-- the greatest size of a whole number that a residue modulo n means, n odd
abbrev pub half : ℕ → ℕ
half n = (n - 1) / 2

-- the whole number that a residue modulo n means: up to the half of n itself, above it less n
unfoldable pub centred : ℕ → ℕ → ℤ
centred r n = cond (nat_le r (half n)) (pos r) (pos r -ℤ pos n)

-- The meaning of a residue modulo an odd n is the one whole number of size up to the half of n that has this residue.
pub record CentredStands : Type 0 where
  pub within : (r n : ℕ) → n % 2 ≡ 1 → r < n → unsigned_abs (centred r n) ≤ half n
  pub back : (r n : ℕ) → n % 2 ≡ 1 → r < n → residue (centred r n) n ≡ r
  pub only : (m : ℤ) (n : ℕ) → n % 2 ≡ 1 → unsigned_abs m ≤ half n → centred (residue m n) n ≡ m
