-- Making a plan from four numbers: which refusal answers, and what the plan holds.
use Rattle.std.specs.Prelude.{◌≡◌, ℕ, ◌/◌, ◌<◌, ◌≤◌, Bool, false, cond, Some, None, Ok, Err, Option, Result, nat_le}
use Rattle.refusal.specs.declared.kinds.Refusal.{Refusal}
use Rattle.refusal.specs.declared.kinds.Refusal.TheVariants.{Size, SampleScale, TwiddleScale}
use Rattle.plan.specs.declared.method.Method.{Method}
use Rattle.plan.specs.declared.plan.Plan.{Plan}
use Rattle.plan.specs.declared.figures.Figures.{Figures}
use Rattle.plan.specs.Methods.{sized, base}
use Rattle.plan.specs.Meaning.{figures_of}

-- n lies from 1 to the limit
abbrev pub within : ℕ → ℕ → Bool
within limit n = cond (nat_le 1 n) (nat_le n limit) false

-- the earliest refusal that applies to these numbers, or none
abbrev pub refused : Method → ℕ → ℕ → ℕ → Option Refusal
refused k m q1 q2 = cond (sized k m) (cond (within 32767 q1) (cond (within 32768 q2) None (Some TwiddleScale)) (Some SampleScale)) (Some Size)

-- the plan has this method, size, sample scale and twiddle scale
pub record Has (p : Plan) (k : Method) (m q1 q2 : ℕ) : Type 0 where
  pub method : p.method ≡ k
  pub size : p.size ≡ m
  pub sample : p.sample_scale ≡ q1
  pub twiddle : p.twiddle_scale ≡ q2

-- the answer for these numbers: the plan of them where nothing applies, else the earliest refusal
abbrev pub Makes : Method → ℕ → ℕ → ℕ → Result Plan Refusal → Type 0
Makes k m q1 q2 (Ok p) = (refused k m q1 q2 ≡ None) × Has p k m q1 q2
Makes k m q1 q2 (Err x) = refused k m q1 q2 ≡ Some x

-- the figures of a plan
abbrev pub meaning_of : Plan → Figures
meaning_of p = figures_of p.method p.size p.sample_scale p.twiddle_scale

-- the plan of the lines that a stage of the plan p combines, of the size below; none up to size 4
abbrev pub Inner : Plan → Option Plan → Type 0
Inner p (Some q) = (4 < p.size) × Has q p.method (p.size / base p.method) p.sample_scale p.twiddle_scale
Inner p None = p.size ≤ 4
