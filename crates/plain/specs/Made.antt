-- What making the plain residues modulo n answers.
use Rattle.std.specs.Prelude.{◌≡◌, ℕ, true, false, Ok, Err, Result}
use Rattle.refusal.specs.declared.kinds.Refusal.{Refusal}
use Rattle.refusal.specs.declared.kinds.Refusal.TheVariants.{Modulus}
use Rattle.integers.specs.Modulus.{is_modulus}
use Rattle.plain.specs.declared.Plain.{Plain}

-- the residues modulo n, where n is a modulus; the refusal Modulus, where it is none
abbrev pub Makes : ℕ → Result Plain Refusal → Type 0
Makes n (Ok p) = (is_modulus n ≡ true) × (p.modulus.n ≡ n)
Makes n (Err e) = (e ≡ Modulus) × (is_modulus n ≡ false)
