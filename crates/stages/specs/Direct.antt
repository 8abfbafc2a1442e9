-- One direct line of a block.
use Rattle.std.specs.Prelude.{ℕ, ◌*◌, ◌/◌, ◌<◌, ◌≤◌, List, length, Some, None, Ok, Err, Result}
use Rattle.refusal.specs.declared.kinds.Refusal.{Refusal}
use Rattle.refusal.specs.declared.kinds.Refusal.TheVariants.{Size, SampleScale, TwiddleScale, Block, Narrow, Moment, Place, Strange, Malformed, Short, Large, Mask, Modulus, Garbled, Long}
use Rattle.integers.specs.declared.Complex.{Complex}
use Rattle.integers.specs.Complex.{◌⊗◌}
use Rattle.circle.specs.Twiddle.{twiddle}
use Rattle.plan.specs.declared.plan.Plan.{Plan}
use Rattle.scheme.specs.Meaning.{Meaning, View}
use Rattle.scheme.specs.Hidden.{StandsPair}
use Rattle.lines.specs.Lines.{direct_line_of}
use Rattle.stages.specs.Block.{read_at}
use Rattle.stages.specs.Search.{Found}
use Rattle.stages.specs.Stage.{entries}

-- sample n times its twiddle in direct line k of size m, twiddle scale q
abbrev pub term : ℕ → ℕ → ℕ → (ℕ → Complex) → ℕ → Complex
term q m k x n = twiddle q (n * k * (256 / m)) ⊗ x n

-- in the view v, the first m pairs of the block stand for x(0) to x(m − 1)
abbrev pub Samples : {Number : Type 0} → Meaning Number → View → ℕ → (ℕ → Complex) → List (Number × Number) → Type 0
Samples {Number} w v m x xs = (n : ℕ) → n < m → (d : Number × Number) → StandsPair w v (x n) (entries d xs n)

-- r stands in every view for direct line k of a plan's size and twiddle scale over whatever the pairs of the block stand for, so over what is read in them
pub record Direct {Number : Type 0} (w : Meaning Number) (p : Plan) (k : ℕ) (xs : List (Number × Number)) (r : Number × Number) : Type 0 where
  -- the block is long enough, there is such a line, every pair is well formed
  pub long : p.size ≤ length xs
  pub place : k < p.size
  pub formed : Found w xs p.size None
  pub line : (v : View) (x : ℕ → Complex) → Samples w v p.size x xs → StandsPair w v (direct_line_of p.twiddle_scale p.size x k) r
  pub read : (v : View) → StandsPair w v (direct_line_of p.twiddle_scale p.size (read_at w v xs) k) r

-- why a line is refused: a short block, else no such line, else the first malformed pair
abbrev pub DirectRefused : {Number : Type 0} → Meaning Number → Plan → ℕ → List (Number × Number) → Refusal → Type 0
DirectRefused w p k xs Block = length xs < p.size
DirectRefused w p k xs Place = (p.size ≤ length xs) × (p.size ≤ k)
DirectRefused w p k xs (Malformed i) = (p.size ≤ length xs) × (k < p.size) × Found w xs p.size (Some i)
DirectRefused w p k xs Size = ⊥
DirectRefused w p k xs SampleScale = ⊥
DirectRefused w p k xs TwiddleScale = ⊥
DirectRefused w p k xs Narrow = ⊥
DirectRefused w p k xs Moment = ⊥
DirectRefused w p k xs Strange = ⊥
DirectRefused w p k xs Short = ⊥
DirectRefused w p k xs Large = ⊥
DirectRefused w p k xs Mask = ⊥
DirectRefused w p k xs Modulus = ⊥
DirectRefused w p k xs Garbled = ⊥
DirectRefused w p k xs Long = ⊥

-- the answer: the line, or a refusal
abbrev pub DirectAnswer : {Number : Type 0} → Meaning Number → Plan → ℕ → List (Number × Number) → Result (Number × Number) Refusal → Type 0
DirectAnswer w p k xs (Ok r) = Direct w p k xs r
DirectAnswer w p k xs (Err x) = DirectRefused w p k xs x
