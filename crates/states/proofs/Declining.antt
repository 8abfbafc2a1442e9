-- What holds where no test of a call declines it.
use Rattle.std.proofs.Common.{◌≡◌, ℕ, Bool, true, false, cond, Some, None, Option, refl}
use Rattle.refusal.specs.declared.kinds.Refusal.{Refusal}
use Rattle.states.specs.Step.{first, malformed}

-- a test that finds nothing, as in `unless`: it holds, and what comes after it finds nothing
pub unless_none : {A : Type 0} (b : Bool) (x : A) (later : Option A) → cond b later (Some x) ≡ None → (b ≡ true) × (later ≡ None)
unless_none true x later h = (refl, h)
unless_none false x later h = cc

pub first_none : (o later : Option Refusal) → first o later ≡ None → (o ≡ None) × (later ≡ None)
first_none None later h = (refl, h)
first_none (Some x) later h = cc

pub malformed_none : (o : Option ℕ) → malformed o ≡ None → o ≡ None
malformed_none None h = refl
malformed_none (Some i) h = cc
