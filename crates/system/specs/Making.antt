-- What making a residue system answers.
use Rattle.std.specs.Prelude.{◌≡◌, ℕ, Some, None, Option, Ok, Err, Result}
use Rattle.refusal.specs.declared.kinds.Refusal.{Refusal}
use Rattle.refusal.specs.declared.kinds.Refusal.TheVariants.{Modulus}
use Rattle.system.specs.declared.residues.SmallModulus.{SmallModulus}
use Rattle.system.specs.declared.residues.System.{System}
use Rattle.system.specs.Moduli.{Suits, Lawful}

-- the one modulus is m, which is lawful; or m is not
abbrev pub MadeSmall : ℕ → Option SmallModulus → Type 0
MadeSmall m (Some s) = Suits m × (s.modulus.n ≡ m)
MadeSmall m None = Suits m → ⊥

-- the three moduli are lawful, and they are those of the system
pub record Accepted (p q r : ℕ) (s : System) : Type 0 where
  pub lawful : Lawful p q r
  pub one : s.first.modulus.n ≡ p
  pub two : s.second.modulus.n ≡ q
  pub three : s.third.modulus.n ≡ r

-- a system with these moduli where they are lawful, else none
abbrev pub Found : ℕ → ℕ → ℕ → Option System → Type 0
Found p q r (Some s) = Accepted p q r s
Found p q r None = Lawful p q r → ⊥

-- the three moduli are not lawful, and the refusal says so
pub record Refused (p q r : ℕ) (e : Refusal) : Type 0 where
  pub unlawful : Lawful p q r → ⊥
  pub says : e ≡ Modulus

-- a system with these moduli where they are lawful, else the refusal
abbrev pub Made : ℕ → ℕ → ℕ → Result System Refusal → Type 0
Made p q r (Ok s) = Accepted p q r s
Made p q r (Err e) = Refused p q r e
