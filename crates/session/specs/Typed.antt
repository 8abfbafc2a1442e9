-- What is certain of a session, read off the lines typed and their answers alone, the newest first.
use Rattle.std.specs.Prelude.{◌≡◌, ℕ, ◌<◌, cond, List, [], ◌∷◌, Some, None, Ok, Err, Option, ◌==◌}
use Rattle.integers.specs.declared.Complex.{Complex}
use Rattle.refusal.specs.declared.kinds.Refusal.TheVariants.{Size, SampleScale, TwiddleScale, Block, Narrow, Moment, Place, Strange, Malformed, Short, Large, Mask, Modulus, Garbled, Long}
use Rattle.lines.specs.Laws.{Samples}
use Rattle.states.specs.declared.Line.{Line as OpenedLine}
use Rattle.states.specs.History.{Numbers, RightFor}
use Rattle.command.specs.declared.kinds.Command.TheVariants.{Choose, Plan, Load, Begin, Advance, Line, Restart}
use Rattle.session.specs.Session.{Decoded, Answer}

-- a line that was typed, as decoded, and its answer
pub record Typed : Type 0 where
  pub line : Decoded
  pub answer : Answer

-- the plan in force after one more line: an accepted plan command puts its own in force, an accepted choice of a scheme takes it away
abbrev pub plan_typed_after : Answer → Decoded → Option Numbers → Option Numbers
plan_typed_after (Err x) d before = before
plan_typed_after (Ok r) (Err x) before = before
plan_typed_after (Ok r) (Ok (Choose c)) before = None
plan_typed_after (Ok r) (Ok (Plan k size q1 q2)) before = Some (record { method = k; size = size; sample = q1; twiddle = q2 })
plan_typed_after (Ok r) (Ok (Load n z words)) before = before
plan_typed_after (Ok r) (Ok Begin) before = before
plan_typed_after (Ok r) (Ok Advance) before = before
plan_typed_after (Ok r) (Ok (Line k)) before = before
plan_typed_after (Ok r) (Ok Restart) before = before

-- the plan in force: that of the latest accepted plan command since the latest accepted choice
abbrev pub plan_typed : List Typed → Option Numbers
plan_typed [] = None
plan_typed (t ∷ past) = plan_typed_after t.answer t.line (plan_typed past)

-- the samples in force after one more line: an accepted load of n brings the sample as typed, an accepted choice, plan or restart takes all away
abbrev pub samples_typed_after : Answer → Decoded → (ℕ → Option Complex) → ℕ → Option Complex
samples_typed_after (Err x) d before i = before i
samples_typed_after (Ok r) (Err x) before i = before i
samples_typed_after (Ok r) (Ok (Choose c)) before i = None
samples_typed_after (Ok r) (Ok (Plan k size q1 q2)) before i = None
samples_typed_after (Ok r) (Ok (Load n z words)) before i = cond (i == n) (Some z) (before i)
samples_typed_after (Ok r) (Ok Begin) before i = before i
samples_typed_after (Ok r) (Ok Advance) before i = before i
samples_typed_after (Ok r) (Ok (Line k)) before i = before i
samples_typed_after (Ok r) (Ok Restart) before i = None

-- the samples typed last: for each i, that of the latest accepted load of i since the latest accepted choice, plan or restart
abbrev pub samples_typed : List Typed → ℕ → Option Complex
samples_typed [] i = None
samples_typed (t ∷ past) i = samples_typed_after t.answer t.line (samples_typed past) i

-- a line is right by what was typed: there is a plan in force, all its samples were typed and lie within its sample scale, and the line is the plan's integer
-- transform of them, stated with the plan's scale and distance and within that distance of the fine transform
pub record RightTyped (past : List Typed) (k : ℕ) (l : OpenedLine) : Type 0 where
  pub plan : Numbers
  pub samples : ℕ → Complex
  pub force : plan_typed past ≡ Some plan
  pub below : k < plan.size
  pub typed : (i : ℕ) → i < plan.size → samples_typed past i ≡ Some (samples i)
  pub within : Samples plan.size plan.sample samples
  pub right : RightFor plan samples k l

-- an answer is right after what was typed before: a line is opened by a line command alone, and is right by what was typed
abbrev pub RightAnswer : List Typed → Answer → Decoded → Type 0
RightAnswer past (Err x) d = Unit {0}
RightAnswer past (Ok None) d = Unit {0}
RightAnswer past (Ok (Some l)) (Err x) = ⊥
RightAnswer past (Ok (Some l)) (Ok (Choose c)) = ⊥
RightAnswer past (Ok (Some l)) (Ok (Plan k size q1 q2)) = ⊥
RightAnswer past (Ok (Some l)) (Ok (Load n z words)) = ⊥
RightAnswer past (Ok (Some l)) (Ok Begin) = ⊥
RightAnswer past (Ok (Some l)) (Ok Advance) = ⊥
RightAnswer past (Ok (Some l)) (Ok (Line k)) = RightTyped past k l
RightAnswer past (Ok (Some l)) (Ok Restart) = ⊥

-- every line has one answer, and each is right by what was typed before it
abbrev pub AllRight : List Typed → List Decoded → List Answer → Type 0
AllRight past [] [] = Unit {0}
AllRight past [] (a ∷ rs) = ⊥
AllRight past (d ∷ ds) [] = ⊥
AllRight past (d ∷ ds) (a ∷ rs) = RightAnswer past a d × AllRight (record { line = d; answer = a } ∷ past) ds rs

-- the refusals that a line of the console can meet: not a block too short, another scheme's modulus, a malformed number
abbrev pub Reachable : Answer → Type 0
Reachable (Ok r) = Unit {0}
Reachable (Err Size) = Unit {0}
Reachable (Err SampleScale) = Unit {0}
Reachable (Err TwiddleScale) = Unit {0}
Reachable (Err Block) = ⊥
Reachable (Err Narrow) = Unit {0}
Reachable (Err Moment) = Unit {0}
Reachable (Err Place) = Unit {0}
Reachable (Err Strange) = ⊥
Reachable (Err (Malformed i)) = ⊥
Reachable (Err Short) = Unit {0}
Reachable (Err Large) = Unit {0}
Reachable (Err Mask) = Unit {0}
Reachable (Err Modulus) = Unit {0}
Reachable (Err Garbled) = Unit {0}
Reachable (Err Long) = ⊥

-- each answer is one that a line of the console can meet
abbrev pub AllReachable : List Answer → Type 0
AllReachable [] = Unit {0}
AllReachable (a ∷ rs) = Reachable a × AllReachable rs
