-- Histories: calls with their answers, the newest first. The plan in force and the samples last loaded are read off them alone.
use Rattle.std.specs.Prelude.{◌≡◌, ℕ, ◌*◌, ◌^◌, ◌<◌, cond, List, [], ◌∷◌, Some, None, Ok, Err, Option, Result, ◌==◌}
use Rattle.integers.specs.declared.Complex.{Complex}
use Rattle.integers.specs.Complex.{complex}
use Rattle.circle.specs.Near.{Near, multiple}
use Rattle.refusal.specs.declared.kinds.Refusal.{Refusal}
use Rattle.plan.specs.declared.method.Method.{Method}
use Rattle.plan.specs.Meaning.{figures_of}
use Rattle.lines.specs.Lines.{line_of, fine_line_of}
use Rattle.lines.specs.Laws.{Samples}
use Rattle.scheme.specs.Meaning.{Meaning, Sound}
use Rattle.scheme.specs.Sealing.{means_pair}
use Rattle.states.specs.declared.State.{State}
use Rattle.states.specs.declared.State.TheVariants.{Idle}
use Rattle.states.specs.declared.Call.{Call}
use Rattle.states.specs.declared.Call.TheVariants.{Plan as PlanCall, Load, Begin, Advance, Line as LineCall, Restart}
use Rattle.states.specs.declared.Line.{Line}
use Rattle.states.specs.Step.{Pairs, Step}

-- a call and what it answered
pub record Event (N : Type 0) : Type 0 where
  pub call : Call N
  pub answer : Result (Option Line) Refusal

-- the numbers of a plan call
pub record Numbers : Type 0 where
  pub method : Method
  pub size : ℕ
  pub sample : ℕ
  pub twiddle : ℕ

-- the plan in force after one more call: an accepted plan call puts its own in force, nothing else does
abbrev pub plan_after : {N : Type 0} → Result (Option Line) Refusal → Call N → Option Numbers → Option Numbers
plan_after (Err x) c before = before
plan_after (Ok r) (PlanCall k size q1 q2) before = Some (record { method = k; size = size; sample = q1; twiddle = q2 })
plan_after (Ok r) (Load n x) before = before
plan_after (Ok r) Begin before = before
plan_after (Ok r) Advance before = before
plan_after (Ok r) (LineCall k) before = before
plan_after (Ok r) Restart before = before

-- the plan in force: that of the latest accepted plan call
abbrev pub plan_in : {N : Type 0} → List (Event N) → Option Numbers
plan_in [] = None
plan_in (e ∷ past) = plan_after e.answer e.call (plan_in past)

-- the samples in force after one more call: an accepted load of n brings what its pair means, an accepted plan or restart takes all away
abbrev pub samples_after : {N : Type 0} → Meaning N → Result (Option Line) Refusal → Call N → (ℕ → Option Complex) → ℕ → Option Complex
samples_after m (Err x) c before n = before n
samples_after m (Ok r) (PlanCall k size q1 q2) before n = None
samples_after m (Ok r) (Load i x) before n = cond (n == i) (Some (means_pair m x)) (before n)
samples_after m (Ok r) Begin before n = before n
samples_after m (Ok r) Advance before n = before n
samples_after m (Ok r) (LineCall k) before n = before n
samples_after m (Ok r) Restart before n = None

-- the samples last loaded: for each n what the pair means in the latest accepted load of n since the latest accepted plan or restart
abbrev pub samples_in : {N : Type 0} → Meaning N → List (Event N) → ℕ → Option Complex
samples_in m [] n = None
samples_in m (e ∷ past) n = samples_after m e.answer e.call (samples_in m past) n

-- the window, idle over a block at first, came to this state and block by these calls, each handed what the last one left
abbrev pub Reached : {N : Type 0} → Meaning N → Pairs N → List (Event N) → State → Pairs N → Type 0
Reached m start [] st bl = (st ≡ Idle) × (bl ≡ start)
Reached {N} m start (e ∷ past) st bl = (st₀ : State) × (bl₀ : Pairs N) × Reached m start past st₀ bl₀ × Step m st₀ bl₀ e.call e.answer st bl

-- a line that is right for the numbers of a plan and its samples: the components are those of the plan's integer transform, as whole numbers; scale and
-- distance are the plan's; times 2^30, the line lies within 2^30 times the distance of the scale times the fine transform
pub record RightFor (p : Numbers) (s : ℕ → Complex) (k : ℕ) (l : Line) : Type 0 where
  pub index : l.index ≡ k
  pub whole : complex l.re l.im ≡ line_of p.method p.size p.twiddle s k
  pub scale : l.scale ≡ (figures_of p.method p.size p.sample p.twiddle).scale
  pub distance : l.distance ≡ (figures_of p.method p.size p.sample p.twiddle).distance
  pub near : Near (2 ^ 30 * l.distance) (multiple (2 ^ 30) (complex l.re l.im)) (multiple l.scale (fine_line_of p.size s k))

-- a line is right by the history: there is a plan in force, each of its samples was loaded, and if they lie within the sample scale the line is right for them
pub record RightBy {N : Type 0} (m : Meaning N) (past : List (Event N)) (k : ℕ) (l : Line) : Type 0 where
  pub plan : Numbers
  pub samples : ℕ → Complex
  pub force : plan_in past ≡ Some plan
  pub within : k < plan.size
  pub loaded : (n : ℕ) → n < plan.size → samples_in m past n ≡ Some (samples n)
  pub right : Samples plan.size plan.sample samples → RightFor plan samples k l

-- Opened lines are right: under every meaning of a scheme, after every list of calls on a new window, over any block, whatever a line call then opens.
abbrev pub OpenedLinesAreRight : Type 0 → Type 0
OpenedLinesAreRight N = (m : Meaning N) → Sound m → (start : Pairs N) (past : List (Event N)) (st : State) (bl : Pairs N) → Reached m start past st bl → (k : ℕ) (l : Line) (st' : State) (bl' : Pairs N) → Step m st bl (LineCall k) (Ok (Some l)) st' bl' → RightBy m past k l
