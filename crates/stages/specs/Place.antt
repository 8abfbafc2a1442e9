-- The place of a sample in the block of a plan.
use Rattle.std.specs.Prelude.{◌≡◌, ℕ, ◌<◌, ◌≤◌, Ok, Err, Result}
use Rattle.refusal.specs.declared.kinds.Refusal.{Refusal}
use Rattle.refusal.specs.declared.kinds.Refusal.TheVariants.{Place}
use Rattle.plan.specs.declared.plan.Plan.{Plan}
use Rattle.lines.specs.Places.{place_of}

-- the answer is the place of sample n, which lies below the size; n is refused where there is no such sample
abbrev pub Placed : Plan → ℕ → Result ℕ Refusal → Type 0
Placed p n (Ok i) = (n < p.size) × (i ≡ place_of p.method p.size n) × (i < p.size)
Placed p n (Err x) = (p.size ≤ n) × (x ≡ Place)
