-- The laws on runs are not empty: the samples that were sealed under the sample scale lie within it, and there are runs that open lines.
use Rattle.std.specs.Prelude.{◌≡◌, ℕ, ◌<◌, List, [], ◌∷◌, pos, negsuc, Ok, Err, None, Some}
use Rattle.integers.specs.declared.Complex.{Complex}
use Rattle.integers.specs.Complex.{complex}
use Rattle.refusal.specs.declared.kinds.Refusal.TheVariants.{Moment}
use Rattle.plan.specs.declared.method.Method.TheVariants.{Direct}
use Rattle.lines.specs.Laws.{Within}
use Rattle.scheme.specs.Meaning.{Meaning, Sound}
use Rattle.scheme.specs.Sealing.{SealedPair, means_pair}
use Rattle.plain.specs.Residues.{residues}
use Rattle.states.specs.declared.State.{State}
use Rattle.states.specs.declared.State.TheVariants.{Idle}
use Rattle.states.specs.declared.Call.{Call}
use Rattle.states.specs.declared.Call.TheVariants.{Plan as PlanCall, Load, Begin, Line as LineCall}
use Rattle.states.specs.declared.Line.{Line}
use Rattle.states.specs.Step.{Pairs, Step}
use Rattle.states.specs.History.{Event, Numbers, Reached, RightFor}
use Rattle.secrecy.specs.Secrecy.{Answers}
use Rattle.runs.specs.Runs.{AllRight, RunOf}

-- A pair that was sealed under a limit means the sample that was sealed, which lies within the limit.
abbrev pub SealedSamplesWithin : Type 0 → Type 0
SealedSamplesWithin N = (m : Meaning N) → Sound m → (limit : ℕ) (z : Complex) (words : ℕ × ℕ) (x : N × N) → SealedPair m limit z words x → (means_pair m x ≡ z) × Within limit (means_pair m x)

-- z is what a pair means that was sealed under the limit
pub record SealedSample {N : Type 0} (m : Meaning N) (limit : ℕ) (z : Complex) : Type 0 where
  pub sample : Complex
  pub words : ℕ × ℕ
  pub pair : N × N
  pub sealed : SealedPair m limit sample words pair
  pub meant : z ≡ means_pair m pair

-- The law on opened lines leaves nothing to assume of sealed samples: where all answers from a line call on are right by the history, and each of the samples in force was
-- sealed under the sample scale of the plan in force, the line is right for that plan and those samples.
abbrev pub SealedLinesRight : Type 0 → Type 0
SealedLinesRight N = (m : Meaning N) → Sound m → (past : List (Event N)) (k : ℕ) (l : Line) (cs : List (Call N)) (rs : Answers) (all : AllRight m past (LineCall k ∷ cs) (Ok (Some l) ∷ rs)) → ((n : ℕ) → n < all.0.plan.size → SealedSample m all.0.plan.sample (all.0.samples n)) → RightFor all.0.plan all.0.samples k l

-- one place that holds a malformed pair
abbrev pub one_start : Pairs ℕ
one_start = (99, 99) ∷ []

-- modulo 81, a line before any plan, then the one sample 1 − j and its line
abbrev pub one_calls : List (Call ℕ)
one_calls = LineCall 0 ∷ PlanCall Direct 1 1 1 ∷ Load 0 (1, 80) ∷ Begin ∷ LineCall 0 ∷ []

-- the first call is declined, the others are accepted, and the line is 1 − j at scale 1 with distance 1
abbrev pub one_answers : Answers
one_answers = Err Moment ∷ Ok None ∷ Ok None ∷ Ok None ∷ Ok (Some (record { index = 0; re = pos 1; im = negsuc 0; scale = 1; distance = 1 })) ∷ []

-- the block then holds the sample
abbrev pub one_end : Pairs ℕ
one_end = (1, 80) ∷ []

-- a run under plain residues that opens a line
abbrev pub OneRun : Type 0
OneRun = RunOf (residues 81) one_start one_calls one_answers one_end

-- the numbers of that run's plan
abbrev pub one_numbers : Numbers
one_numbers = record { method = Direct; size = 1; sample = 1; twiddle = 1 }

-- its line with another real part, which lies within the distance all the same
abbrev pub wrong_line : Line
wrong_line = record { index = 0; re = pos 2; im = negsuc 0; scale = 1; distance = 1 }

-- not every line is right: this one is not, for the sample of that run
abbrev pub OneWrong : Type 0
OneWrong = RightFor one_numbers (λ n. complex (pos 1) (negsuc 0)) 0 wrong_line → ⊥

-- Histories are reached: the empty one on a new window, and from each that is reached every call leads on.
pub record Reaches (N : Type 0) : Type 0 where
  pub new : (m : Meaning N) (start : Pairs N) → Reached m start [] Idle start
  pub next : (m : Meaning N) (start : Pairs N) (past : List (Event N)) (st : State) (bl : Pairs N) → Reached m start past st bl → (e : Event N) (st' : State) (bl' : Pairs N) → Step m st bl e.call e.answer st' bl' → Reached m start (e ∷ past) st' bl'
