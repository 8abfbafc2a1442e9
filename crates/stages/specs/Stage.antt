-- What a butterfly and a stage do to a block, in every view.
use Rattle.std.specs.Prelude.{◌≡◌, ℕ, suc, ◌+◌, ◌-◌, ◌*◌, ◌^◌, ◌<◌, ◌≤◌, List, length, Some, None, Ok, Err, Option, Result, slice_index_or}
use Rattle.refusal.specs.declared.kinds.Refusal.{Refusal}
use Rattle.refusal.specs.declared.kinds.Refusal.TheVariants.{Size, SampleScale, TwiddleScale, Block, Narrow, Moment, Place, Strange, Malformed, Short, Large, Mask, Modulus, Garbled, Long}
use Rattle.integers.specs.declared.Complex.{Complex}
use Rattle.plan.specs.declared.plan.Plan.{Plan}
use Rattle.plan.specs.Methods.{base}
use Rattle.scheme.specs.Meaning.{Meaning, View}
use Rattle.scheme.specs.Hidden.{StandsPair}
use Rattle.lines.specs.Lines.{mix, stage_count}
use Rattle.lines.specs.Places.{Crossed, Mixed, Staged, Standing, place}
use Rattle.stages.specs.Block.{read_at, StandsAt}
use Rattle.stages.specs.Search.{Found}

-- the pairs of a block, place by place; d past its end
abbrev pub entries : {A : Type 0} → A → List A → ℕ → A
entries d xs i = slice_index_or xs i d

-- the butterfly at offset k in group g, where lines of size `span`, a power of the radix, come together: in every view its entries
-- are mixed; every other place keeps its pair
abbrev pub CrossedAt : {Number : Type 0} → Meaning Number → (q r span g k : ℕ) → (before after : List (Number × Number)) → Type 0
CrossedAt {Number} m q r span g k before after = (t : ℕ) → span ≡ r ^ t → (v : View) (d : Number × Number) → Crossed (StandsPair m v) q r t g k (entries d before) (entries d after)

-- a stage in the making, after b butterflies in the order g·r^t + k: those done are mixed, the others and the places past the last group as before
pub record Making {Number : Type 0} (m : Meaning Number) (q r t groups b : ℕ) (before after : List (Number × Number)) : Type 0 where
  pub done : (v : View) (d : Number × Number) (g k : ℕ) → g < groups → k < r ^ t → g * r ^ t + k < b → Mixed (StandsPair m v) q r t g k (entries d before) (entries d after)
  pub left : (d : Number × Number) (g k i : ℕ) → k < r ^ t → i < r → b ≤ g * r ^ t + k → entries d after (place r t g k i) ≡ entries d before (place r t g k i)
  pub past : (d : Number × Number) (p : ℕ) → groups * r ^ suc t ≤ p → entries d after p ≡ entries d before p

-- r^t where it lies below m
abbrev pub PowerBelow : ℕ → ℕ → ℕ → Option ℕ → Type 0
PowerBelow r t m (Some x) = (x ≡ r ^ t) × (x < m)
PowerBelow r t m None = m ≤ r ^ t

-- the number of stages of a plan
abbrev pub stages_in : Plan → ℕ
stages_in p = stage_count p.method p.size

-- Stage t + 1 of a plan, from lines of size r^t to lines of size r^(t + 1), r being the radix.
pub record Stage {Number : Type 0} (m : Meaning Number) (p : Plan) (t : ℕ) (before after : List (Number × Number)) : Type 0 where
  -- the block is long enough, there is such a stage, every pair is well formed
  pub long : p.size ≤ length before
  pub moment : t < stages_in p
  pub formed : Found m before p.size None
  -- in every view, whatever the r pairs of a butterfly stood for, they stand for that mixed
  pub mixed : (v : View) (d : Number × Number) → Staged (StandsPair m v) p.twiddle_scale (base p.method) t (stages_in p - suc t) (entries d before) (entries d after)
  -- in particular for what was read, mixed
  pub read : (v : View) (g k l : ℕ) → g < base p.method ^ (stages_in p - suc t) → k < base p.method ^ t → l < base p.method → StandsAt m v (mix p.twiddle_scale (base p.method) t k (λ i. read_at m v before (place (base p.method) t g k i)) l) after (place (base p.method) t g k l)
  -- so where place g·r^t + k stood for line k of size r^t over the samples whose last digits are those of g reversed, the same holds with t + 1
  pub lines : (v : View) (d : Number × Number) (s : ℕ → Complex) → Standing (StandsPair m v) p.twiddle_scale (base p.method) t (stages_in p - t) s (entries d before) → Standing (StandsPair m v) p.twiddle_scale (base p.method) (suc t) (stages_in p - suc t) s (entries d after)
  -- every pair is well formed again, and places past the size are as before
  pub sound : Found m after p.size None
  pub kept : (d : Number × Number) (i : ℕ) → p.size ≤ i → entries d after i ≡ entries d before i
  pub length : length after ≡ length before

-- why a stage is refused: a short block, else no such stage, else the first malformed pair
abbrev pub StageRefused : {Number : Type 0} → Meaning Number → Plan → ℕ → List (Number × Number) → Refusal → Type 0
StageRefused m p t xs Block = length xs < p.size
StageRefused m p t xs Moment = (p.size ≤ length xs) × (stages_in p ≤ t)
StageRefused m p t xs (Malformed i) = (p.size ≤ length xs) × (t < stages_in p) × Found m xs p.size (Some i)
StageRefused m p t xs Size = ⊥
StageRefused m p t xs SampleScale = ⊥
StageRefused m p t xs TwiddleScale = ⊥
StageRefused m p t xs Narrow = ⊥
StageRefused m p t xs Place = ⊥
StageRefused m p t xs Strange = ⊥
StageRefused m p t xs Short = ⊥
StageRefused m p t xs Large = ⊥
StageRefused m p t xs Mask = ⊥
StageRefused m p t xs Modulus = ⊥
StageRefused m p t xs Garbled = ⊥
StageRefused m p t xs Long = ⊥

-- the answer of a stage: done, or refused with the block as it was
abbrev pub StageAnswer : {Number : Type 0} → Meaning Number → Plan → ℕ → (before after : List (Number × Number)) → Result (Unit {0}) Refusal → Type 0
StageAnswer m p t before after (Ok _) = Stage m p t before after
StageAnswer m p t before after (Err x) = (after ≡ before) × StageRefused m p t before x
