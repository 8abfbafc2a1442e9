-- The first place of a block that holds no well-formed pair.
use Rattle.std.specs.Prelude.{◌≡◌, ℕ, ◌<◌, true, false, List, Some, None, Option, Ok, Err, Result}
use Rattle.refusal.specs.declared.kinds.Refusal.{Refusal}
use Rattle.refusal.specs.declared.kinds.Refusal.TheVariants.{Malformed}
use Rattle.scheme.specs.Meaning.{Meaning}
use Rattle.stages.specs.Block.{is_well_formed_at}

-- the answer is the first of the first n places of the block that holds no well-formed pair; none where they all hold one
abbrev pub Found : {Number : Type 0} → Meaning Number → List (Number × Number) → ℕ → Option ℕ → Type 0
Found m xs n (Some i) = (i < n) × (is_well_formed_at m xs i ≡ false) × ((k : ℕ) → k < i → is_well_formed_at m xs k ≡ true)
Found m xs n None = (k : ℕ) → k < n → is_well_formed_at m xs k ≡ true

-- the answer of the test: all of the first n places hold well-formed pairs, or malformed at the first that doesn't
abbrev pub Tested : {Number : Type 0} → Meaning Number → List (Number × Number) → ℕ → Result (Unit {0}) Refusal → Type 0
Tested m xs n (Ok _) = Found m xs n None
Tested m xs n (Err x) = (i : ℕ) × (x ≡ Malformed i) × Found m xs n (Some i)
