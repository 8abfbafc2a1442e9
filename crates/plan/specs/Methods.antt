-- The methods: their sizes, their radix and their names.
use Rattle.std.specs.Prelude.{◌≡◌, ℕ, ◌*◌, ◌/◌, ◌^◌, ◌≤◌, Bool, true, false, cond, List, [], ◌∷◌, codes, ◌==◌}
use Rattle.plan.specs.declared.method.Method.{Method}
use Rattle.plan.specs.declared.method.Method.TheVariants.{Direct, Radix2, Radix4}

-- the sizes of each method
abbrev pub sizes : Method → List ℕ
sizes Direct = 1 ∷ 2 ∷ 4 ∷ 8 ∷ 16 ∷ 32 ∷ 64 ∷ 128 ∷ 256 ∷ []
sizes Radix2 = 1 ∷ 2 ∷ 4 ∷ 8 ∷ 16 ∷ 32 ∷ 64 ∷ 128 ∷ 256 ∷ []
sizes Radix4 = 1 ∷ 4 ∷ 16 ∷ 64 ∷ 256 ∷ []

-- m is one of the numbers
abbrev pub among : List ℕ → ℕ → Bool
among [] m = false
among (x ∷ xs) m = cond (m == x) true (among xs m)

-- m is a size of the method
abbrev pub sized : Method → ℕ → Bool
sized k m = among (sizes k) m

-- the number whose powers are the method's sizes
abbrev pub base : Method → ℕ
base Direct = 2
base Radix2 = 2
base Radix4 = 4

-- the weight of the rounding of a stage's twiddles at size m
abbrev pub rounding : Method → ℕ → ℕ
rounding Direct m = m
rounding Radix2 m = m
rounding Radix4 m = 5 * m / 4

-- The sizes are the powers of the base up to 256, and no other number.
pub record SizesArePowers : Type 0 where
  pub power : (k : Method) (m : ℕ) → sized k m ≡ true → (t : ℕ) × (m ≡ base k ^ t) × (m ≤ 256)
  pub every : (k : Method) (t : ℕ) → base k ^ t ≤ 256 → sized k (base k ^ t) ≡ true

-- the method in words
abbrev pub name : Method → List ℕ
name Direct = codes "direct"
name Radix2 = codes "radix 2"
name Radix4 = codes "radix 4"
