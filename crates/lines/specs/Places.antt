-- Places in a block: where samples start, what stands where after each stage, and what a stage does.
-- A block is a function from places to entries; `Stands x e` is any relation that says that the entry e stands for the number x.
use Rattle.std.specs.Prelude.{◌≡◌, Bool, true, ℕ, zero, suc, ◌+◌, ◌-◌, ◌*◌, ◌/◌, ◌%◌, ◌^◌, ◌<◌, ◌≤◌}
use Rattle.integers.specs.declared.Complex.{Complex}
use Rattle.plan.specs.declared.method.Method.{Method}
use Rattle.plan.specs.declared.method.Method.TheVariants.{Direct, Radix2, Radix4}
use Rattle.plan.specs.Methods.{sized}
use Rattle.lines.specs.Lines.{radix_line_of, mix, line_of, stage_count}

-- the last u digits of g to the base r, reversed
unfoldable pub reversed : ℕ → ℕ → ℕ → ℕ
reversed r zero g = 0
reversed r (suc u) g = g % r * r ^ u + reversed r u (g / r)

-- the place of sample n: n itself for direct lines, n with its digits reversed for the others
abbrev pub place_of : Method → ℕ → ℕ → ℕ
place_of Direct m n = n
place_of Radix2 m n = reversed 2 (stage_count Radix2 m) n
place_of Radix4 m n = reversed 4 (stage_count Radix4 m) n

-- What places and stages are, in terms of digits: the size is the radix to the number of stages; the place of a sample lies below the size,
-- has the same digits in the opposite order, and the place of a place is the sample again.
pub record PlacesStand : Type 0 where
  pub stages2 : (m : ℕ) → sized Radix2 m ≡ true → 2 ^ stage_count Radix2 m ≡ m
  pub stages4 : (m : ℕ) → sized Radix4 m ≡ true → 4 ^ stage_count Radix4 m ≡ m
  pub digits : (r u g j : ℕ) → 1 ≤ r → j < u → reversed r u g / r ^ j % r ≡ g / r ^ (u - suc j) % r
  pub below : (k : Method) (m n : ℕ) → sized k m ≡ true → n < m → place_of k m n < m
  pub back : (k : Method) (m n : ℕ) → sized k m ≡ true → n < m → place_of k m (place_of k m n) ≡ n

-- the samples whose last u digits are those of g reversed
abbrev pub share : ℕ → ℕ → ℕ → (ℕ → Complex) → ℕ → Complex
share r u g s n = s (n * r ^ u + reversed r u g)

-- entry i of the butterfly at offset k in group g, in the stage that makes lines of size r^(t + 1)
unfoldable pub place : ℕ → ℕ → ℕ → ℕ → ℕ → ℕ
place r t g k i = g * r ^ suc t + (i * r ^ t + k)

-- after t stages of t + u: place g·r^t + k stands for line k of size r^t over the samples whose last u digits are those of g reversed
abbrev pub Standing : {E : Type 0} → (Complex → E → Type 0) → ℕ → ℕ → ℕ → ℕ → (ℕ → Complex) → (ℕ → E) → Type 0
Standing Stands q r t u s block = (g k : ℕ) → g < r ^ u → k < r ^ t → Stands (radix_line_of q r t (share r u g s) k) (block (g * r ^ t + k))

-- the butterfly at offset k in group g: whatever its r entries stand for, afterwards they stand for that mixed
abbrev pub Mixed : {E : Type 0} → (Complex → E → Type 0) → ℕ → ℕ → ℕ → ℕ → ℕ → (ℕ → E) → (ℕ → E) → Type 0
Mixed Stands q r t g k before after = (x : ℕ → Complex) → ((i : ℕ) → i < r → Stands (x i) (before (place r t g k i))) → (l : ℕ) → l < r → Stands (mix q r t k x l) (after (place r t g k l))

-- one butterfly in place: its entries are mixed, every other place keeps its entry
pub record Crossed {E : Type 0} (Stands : Complex → E → Type 0) (q r t g k : ℕ) (before after : ℕ → E) : Type 0 where
  pub mixed : Mixed Stands q r t g k before after
  pub kept : (p : ℕ) → ((i : ℕ) → i < r → p ≡ place r t g k i → ⊥) → after p ≡ before p

-- a stage in the making, after b butterflies in the order g·r^t + k: those done stand for lines of size r^(t + 1), the others still for lines of size r^t
pub record Partly {E : Type 0} (Stands : Complex → E → Type 0) (q r t u b : ℕ) (s : ℕ → Complex) (block : ℕ → E) : Type 0 where
  pub done : (g k l : ℕ) → g < r ^ u → k < r ^ t → l < r → g * r ^ t + k < b → Stands (radix_line_of q r (suc t) (share r u g s) (l * r ^ t + k)) (block (place r t g k l))
  pub left : (g k i : ℕ) → g < r ^ u → k < r ^ t → i < r → b ≤ g * r ^ t + k → Stands (radix_line_of q r t (share r (suc u) (g * r + i) s) k) (block (place r t g k i))

-- a whole stage: every butterfly of it is mixed
abbrev pub Staged : {E : Type 0} → (Complex → E → Type 0) → ℕ → ℕ → ℕ → ℕ → (ℕ → E) → (ℕ → E) → Type 0
Staged Stands q r t u before after = (g k : ℕ) → g < r ^ u → k < r ^ t → Mixed Stands q r t g k before after

-- a run of n stages of radix r from samples at their reversed places: the block before any stage is blocks 0, after t stages blocks t
pub record Run {E : Type 0} (Stands : Complex → E → Type 0) (q r n : ℕ) (s : ℕ → Complex) (blocks : ℕ → ℕ → E) : Type 0 where
  pub loaded : (i : ℕ) → i < r ^ n → Stands (s i) (blocks 0 (reversed r n i))
  pub staged : (t : ℕ) → t < n → Staged Stands q r t (n - suc t) (blocks t) (blocks (suc t))

-- such runs exist for all samples: of entries that are the numbers themselves
abbrev pub RunsExist : Type 0
RunsExist = (q r n : ℕ) (s : ℕ → Complex) → 1 ≤ r → (blocks : ℕ → ℕ → Complex) × Run (λ x e. x ≡ e) q r n s blocks

-- a relation that a test decides
abbrev pub Holds : {E : Type 0} → (Complex → E → Bool) → Complex → E → Type 0
Holds stands x e = stands x e ≡ true

-- Stages compose, whatever it is for an entry to stand for a number: after each stage the sentence on places holds, and after all of them place k stands for S(k).
pub record StagesCompose (E : Type 0) : Type 0 where
  pub after_each : (stands : Complex → E → Bool) (q r n : ℕ) (s : ℕ → Complex) (blocks : ℕ → ℕ → E) → 1 ≤ r → Run (Holds stands) q r n s blocks → (t : ℕ) → t ≤ n → Standing (Holds stands) q r t (n - t) s (blocks t)
  pub after_all2 : (stands : Complex → E → Bool) (m q : ℕ) (s : ℕ → Complex) (blocks : ℕ → ℕ → E) → sized Radix2 m ≡ true → Run (Holds stands) q 2 (stage_count Radix2 m) s blocks → (k : ℕ) → k < m → Holds stands (line_of Radix2 m q s k) (blocks (stage_count Radix2 m) k)
  pub after_all4 : (stands : Complex → E → Bool) (m q : ℕ) (s : ℕ → Complex) (blocks : ℕ → ℕ → E) → sized Radix4 m ≡ true → Run (Holds stands) q 4 (stage_count Radix4 m) s blocks → (k : ℕ) → k < m → Holds stands (line_of Radix4 m q s k) (blocks (stage_count Radix4 m) k)
