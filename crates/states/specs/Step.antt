-- What each call does in each state: whether it is declined, and by what; else its answer, the state and the block after it.
use Rattle.std.specs.Prelude.{◌≡◌, ℕ, zero, suc, ◌-◌, ◌<◌, ◌≤◌, Bool, true, cond, ◌&&◌, List, [], length, Some, None, Ok, Err, Option, Result, ◌==◌, nat_le, nat_lt, slice_set}
use Rattle.integers.specs.declared.Complex.{Complex}
use Rattle.refusal.specs.declared.kinds.Refusal.{Refusal}
use Rattle.refusal.specs.declared.kinds.Refusal.TheVariants.{Block, Narrow, Moment, Place, Strange, Malformed, Short}
use Rattle.plan.specs.declared.method.Method.{Method}
use Rattle.plan.specs.declared.method.Method.TheVariants.{Direct, Radix2, Radix4}
use Rattle.plan.specs.declared.plan.Plan.{Plan}
use Rattle.plan.specs.Methods.{base}
use Rattle.plan.specs.Meaning.{figures_of, least_modulus_of}
use Rattle.plan.specs.Making.{Has, meaning_of, refused}
use Rattle.lines.specs.Lines.{stage_count, direct_line_of}
use Rattle.lines.specs.Places.{place_of, Staged}
use Rattle.lines.specs.Laws.{meant}
use Rattle.scheme.specs.Meaning.{Meaning, View}
use Rattle.scheme.specs.Hidden.{StandsPair}
use Rattle.stages.specs.Block.{is_well_formed_at, read_at}
use Rattle.scheme.specs.Hidden.{well_formed}
use Rattle.stages.specs.Stage.{entries}
use Rattle.states.specs.declared.Kept.{Kept}
use Rattle.states.specs.declared.State.{State}
use Rattle.states.specs.declared.State.TheVariants.{Idle, Filling, Running, Finished}
use Rattle.states.specs.declared.Call.{Call}
use Rattle.states.specs.declared.Call.TheVariants.{Plan as PlanCall, Load, Begin, Advance, Line as LineCall, Restart}
use Rattle.states.specs.declared.Line.{Line}

-- a block of hidden pairs, real part first
abbrev pub Pairs : Type 0 → Type 0
Pairs N = List (N × N)

-- the first of the places from i on, k of them, that holds no well-formed pair
abbrev pub malformed_from : {N : Type 0} → Meaning N → Pairs N → ℕ → ℕ → Option ℕ
malformed_from m bl i zero = None
malformed_from m bl i (suc k) = let later = malformed_from m bl (suc i) k in cond (is_well_formed_at m bl i) later (Some i)

-- the first of the places below n that holds no well-formed pair
unfoldable pub first_malformed_place : {N : Type 0} → Meaning N → Pairs N → ℕ → Option ℕ
first_malformed_place m bl n = malformed_from m bl 0 n

-- the number of stages of a plan
abbrev pub stages_for : Plan → ℕ
stages_for p = stage_count p.method p.size

-- a refusal where the test fails, else what comes after
abbrev pub unless : Bool → Refusal → Option Refusal → Option Refusal
unless b x later = cond b later (Some x)

-- malformed at the place, where there is one
abbrev pub malformed : Option ℕ → Option Refusal
malformed None = None
malformed (Some i) = Some (Malformed i)

-- the first refusal, or else the later one
abbrev pub first : Option Refusal → Option Refusal → Option Refusal
first None later = later
first (Some x) later = Some x

-- why a plan call is declined: its numbers, then the length of the block, then the modulus
abbrev pub plan_declined : {N : Type 0} → Meaning N → Pairs N → Method → ℕ → ℕ → ℕ → Option Refusal
plan_declined m bl k size q1 q2 = first (refused k size q1 q2) (unless (nat_le size (length bl)) Block (unless (nat_le (least_modulus_of (figures_of k size q1 q2)) m.modulus) Narrow None))

-- why a line is declined for what the block holds: a direct line reads all places, a radix line one
abbrev pub line_malformed : {N : Type 0} → Meaning N → Method → Pairs N → ℕ → ℕ → Option Refusal
line_malformed m Direct bl size k = malformed (first_malformed_place m bl size)
line_malformed m Radix2 bl size k = unless (is_well_formed_at m bl k) (Malformed k) None
line_malformed m Radix4 bl size k = unless (is_well_formed_at m bl k) (Malformed k) None

-- why a call is declined in a state, over a block: the earliest refusal that applies, or none
abbrev pub declined : {N : Type 0} → Meaning N → State → Pairs N → Call N → Option Refusal
declined m st bl (PlanCall k size q1 q2) = plan_declined m bl k size q1 q2
declined m Idle bl (Load n x) = Some Moment
declined m (Filling kept count) bl (Load n x) = unless (nat_le n count && nat_lt n kept.plan.size) Place (unless (m.modulus == kept.modulus) Strange (unless (well_formed m x) (Malformed n) None))
declined m (Running kept t) bl (Load n x) = Some Moment
declined m (Finished kept) bl (Load n x) = Some Moment
declined m Idle bl Begin = Some Moment
declined m (Filling kept count) bl Begin = unless (nat_le kept.plan.size count) Short None
declined m (Running kept t) bl Begin = Some Moment
declined m (Finished kept) bl Begin = Some Moment
declined m Idle bl Advance = Some Moment
declined m (Filling kept count) bl Advance = Some Moment
declined m (Running kept t) bl Advance = unless (m.modulus == kept.modulus) Strange (malformed (first_malformed_place m bl kept.plan.size))
declined m (Finished kept) bl Advance = Some Moment
declined m Idle bl (LineCall k) = Some Moment
declined m (Filling kept count) bl (LineCall k) = Some Moment
declined m (Running kept t) bl (LineCall k) = Some Moment
declined m (Finished kept) bl (LineCall k) = unless (nat_lt k kept.plan.size) Place (unless (m.modulus == kept.modulus) Strange (line_malformed m kept.plan.method bl kept.plan.size k))
declined m Idle bl Restart = Some Moment
declined m (Filling kept count) bl Restart = None
declined m (Running kept t) bl Restart = None
declined m (Finished kept) bl Restart = None

-- the state after so many stages
abbrev pub progress : Kept → ℕ → State
progress kept t = cond (t == stages_for kept.plan) (Finished kept) (Running kept t)

-- a stage: in every view every butterfly of it is mixed; the places of the plan stay well formed, the places past them and the length stay
pub record StageDone {N : Type 0} (m : Meaning N) (p : Plan) (t : ℕ) (before after : Pairs N) : Type 0 where
  pub staged : (v : View) (d : N × N) → Staged (StandsPair m v) p.twiddle_scale (base p.method) t (stages_for p - suc t) (entries d before) (entries d after)
  pub formed : (i : ℕ) → i < p.size → is_well_formed_at m after i ≡ true
  pub past : (d : N × N) (i : ℕ) → p.size ≤ i → entries d after i ≡ entries d before i
  pub long : length after ≡ length before

-- the number that line k of a finished window is read from: a direct line is worked out from the samples, a radix line stands at place k
abbrev pub line_read : {N : Type 0} → Meaning N → Plan → Method → Pairs N → ℕ → Complex
line_read m p Direct bl k = direct_line_of p.twiddle_scale p.size (read_at m [] bl) k
line_read m p Radix2 bl k = read_at m [] bl k
line_read m p Radix4 bl k = read_at m [] bl k

-- the line z number k as it is opened: what its residues mean, stated with the plan's scale and distance
abbrev pub stated : {N : Type 0} → Meaning N → Plan → ℕ → Complex → Line
stated m p k z = record { index = k; re = (meant m.modulus z).re; im = (meant m.modulus z).im; scale = (meaning_of p).scale; distance = (meaning_of p).distance }

-- the answer, the state and the block after
pub record Becomes {N : Type 0} (reply : Option Line) (st : State) (bl : Pairs N) (a : Result (Option Line) Refusal) (st' : State) (bl' : Pairs N) : Type 0 where
  pub answer : a ≡ Ok reply
  pub after : st' ≡ st
  pub holds : bl' ≡ bl

-- an accepted plan: the plan of these numbers is kept with the scheme's modulus, and no sample is loaded
pub record Planned {N : Type 0} (m : Meaning N) (bl : Pairs N) (k : Method) (size q1 q2 : ℕ) (a : Result (Option Line) Refusal) (st : State) (bl' : Pairs N) : Type 0 where
  pub plan : Plan
  pub has : Has plan k size q1 q2
  pub becomes : Becomes None (Filling (record { plan = plan; modulus = m.modulus }) 0) bl a st bl'

-- an accepted advance
pub record Advanced {N : Type 0} (m : Meaning N) (kept : Kept) (t : ℕ) (bl : Pairs N) (a : Result (Option Line) Refusal) (st : State) (bl' : Pairs N) : Type 0 where
  pub stage : StageDone m kept.plan t bl bl'
  pub becomes : Becomes None (progress kept (suc t)) bl' a st bl'

-- what an accepted call does; in the states in which the call is always declined nothing is accepted
abbrev pub Accepted : {N : Type 0} → Meaning N → State → Pairs N → Call N → Result (Option Line) Refusal → State → Pairs N → Type 0
Accepted m st bl (PlanCall k size q1 q2) a st' bl' = Planned m bl k size q1 q2 a st' bl'
Accepted m Idle bl (Load n x) a st' bl' = ⊥
Accepted m (Filling kept count) bl (Load n x) a st' bl' = Becomes None (Filling kept (cond (n == count) (suc count) count)) (slice_set bl (place_of kept.plan.method kept.plan.size n) x) a st' bl'
Accepted m (Running kept t) bl (Load n x) a st' bl' = ⊥
Accepted m (Finished kept) bl (Load n x) a st' bl' = ⊥
Accepted m Idle bl Begin a st' bl' = ⊥
Accepted m (Filling kept count) bl Begin a st' bl' = Becomes None (progress kept 0) bl a st' bl'
Accepted m (Running kept t) bl Begin a st' bl' = ⊥
Accepted m (Finished kept) bl Begin a st' bl' = ⊥
Accepted m Idle bl Advance a st' bl' = ⊥
Accepted m (Filling kept count) bl Advance a st' bl' = ⊥
Accepted m (Running kept t) bl Advance a st' bl' = Advanced m kept t bl a st' bl'
Accepted m (Finished kept) bl Advance a st' bl' = ⊥
Accepted m Idle bl (LineCall k) a st' bl' = ⊥
Accepted m (Filling kept count) bl (LineCall k) a st' bl' = ⊥
Accepted m (Running kept t) bl (LineCall k) a st' bl' = ⊥
Accepted m (Finished kept) bl (LineCall k) a st' bl' = Becomes (Some (stated m kept.plan k (line_read m kept.plan kept.plan.method bl k))) (Finished kept) bl a st' bl'
Accepted m Idle bl Restart a st' bl' = ⊥
Accepted m (Filling kept count) bl Restart a st' bl' = Becomes None (Filling kept 0) bl a st' bl'
Accepted m (Running kept t) bl Restart a st' bl' = Becomes None (Filling kept 0) bl a st' bl'
Accepted m (Finished kept) bl Restart a st' bl' = Becomes None (Filling kept 0) bl a st' bl'

-- a declined call answers its refusal and changes nothing
pub record Declined {N : Type 0} (x : Refusal) (st : State) (bl : Pairs N) (a : Result (Option Line) Refusal) (st' : State) (bl' : Pairs N) : Type 0 where
  pub answer : a ≡ Err x
  pub after : st' ≡ st
  pub holds : bl' ≡ bl

-- declined by the refusal, or accepted where there is none
abbrev pub StepBy : {N : Type 0} → Option Refusal → Meaning N → State → Pairs N → Call N → Result (Option Line) Refusal → State → Pairs N → Type 0
StepBy (Some x) m st bl c a st' bl' = Declined x st bl a st' bl'
StepBy None m st bl c a st' bl' = Accepted m st bl c a st' bl'

-- one call: from state and block to answer, state and block
abbrev pub Step : {N : Type 0} → Meaning N → State → Pairs N → Call N → Result (Option Line) Refusal → State → Pairs N → Type 0
Step m st bl c a st' bl' = StepBy (declined m st bl c) m st bl c a st' bl'

-- what every state of a window keeps: the block has a pair for every place of the plan, no more samples than the size are loaded, a stage is still due while running
abbrev pub fits : ℕ → State → Bool
fits long Idle = true
fits long (Filling kept count) = nat_le kept.plan.size long && nat_le count kept.plan.size
fits long (Running kept t) = nat_le kept.plan.size long && nat_lt t (stages_for kept.plan)
fits long (Finished kept) = nat_le kept.plan.size long
