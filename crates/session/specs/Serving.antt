-- What the parts of the session promise one another.
use Rattle.std.specs.Prelude.{◌≡◌, ℕ, ◌<◌, true, List, [], ◌∷◌, ◌++◌, ◌⊎◌, length, take, drop, Some, None, Ok, Err, Option, Result}
use Rattle.std.specs.declared.ops.ControlFlow.{ControlFlow}
use Rattle.std.specs.declared.ops.ControlFlow.TheVariants.{Continue, Break}
use Rattle.refusal.specs.declared.kinds.Refusal.{Refusal}
use Rattle.refusal.specs.declared.kinds.Refusal.TheVariants.{Modulus, Garbled}
use Rattle.scheme.specs.Meaning.{Meaning}
use Rattle.states.specs.declared.State.{State}
use Rattle.states.specs.declared.State.TheVariants.{Idle}
use Rattle.states.specs.Step.{Pairs, Declined}
use Rattle.command.specs.declared.kinds.Choice.{Choice}
use Rattle.command.specs.declared.kinds.Choice.TheVariants.{Plain as PlainChoice, System as SystemChoice, Split as SplitChoice}
use Rattle.command.specs.declared.kinds.Command.TheVariants.{Choose, Plan, Load, Begin, Advance, Line, Restart}
use Rattle.system.specs.Making.{Accepted}
use Rattle.integers.specs.Modulus.{is_modulus}
use Rattle.session.specs.declared.schemes.Chosen.{Chosen}
use Rattle.session.specs.declared.schemes.Chosen.TheVariants.{Plain, System, Split}
use Rattle.session.specs.declared.serving.Session.{Session}
use Rattle.session.specs.Session.{Decoded, Answer, Console, absent, plain, system, shared, LawfulChoice, Does, Turn, Turns}

-- the scheme is the one that was chosen
abbrev pub Makes : Choice → Chosen → Type 0
Makes (PlainChoice n) (Plain p) = (is_modulus n ≡ true) × (p.modulus.n ≡ n)
Makes (PlainChoice n) (System s) = ⊥
Makes (PlainChoice n) (Split p) = ⊥
Makes (SystemChoice p q r) (Plain x) = ⊥
Makes (SystemChoice p q r) (System s) = Accepted p q r s
Makes (SystemChoice p q r) (Split x) = ⊥
Makes (SplitChoice n) (Plain p) = ⊥
Makes (SplitChoice n) (System s) = ⊥
Makes (SplitChoice n) (Split p) = (is_modulus n ≡ true) × (p.modulus.n ≡ n)

-- the chosen scheme where the moduli are lawful, else the refusal
abbrev pub MakesOr : Choice → Result Chosen Refusal → Type 0
MakesOr c (Ok s) = Makes c s
MakesOr c (Err x) = (x ≡ Modulus) × (LawfulChoice c → ⊥)

-- a line that leaves the window in its place: garbled, a declined choice, or a command on the window
abbrev pub Keeps : {N : Type 0} → Meaning N → State → Pairs N → Decoded → Answer → State → Pairs N → Type 0
Keeps m st bl (Err x) a st' bl' = Declined Garbled st bl a st' bl'
Keeps m st bl (Ok (Choose c)) a st' bl' = (LawfulChoice c → ⊥) × Declined Modulus st bl a st' bl'
Keeps m st bl (Ok (Plan k size q1 q2)) a st' bl' = Does m st bl (Plan k size q1 q2) a st' bl'
Keeps m st bl (Ok (Load n z words)) a st' bl' = Does m st bl (Load n z words) a st' bl'
Keeps m st bl (Ok Begin) a st' bl' = Does m st bl Begin a st' bl'
Keeps m st bl (Ok Advance) a st' bl' = Does m st bl Advance a st' bl'
Keeps m st bl (Ok (Line k)) a st' bl' = Does m st bl (Line k) a st' bl'
Keeps m st bl (Ok Restart) a st' bl' = Does m st bl Restart a st' bl'

-- what a choice comes to: the answer that declines it, or the scheme
abbrev pub Choosing : Choice → ControlFlow Chosen Answer → Type 0
Choosing c (Continue a) = (LawfulChoice c → ⊥) × (a ≡ Err Modulus)
Choosing c (Break s) = Makes c s

-- what one line comes to: an answer, or another scheme that was chosen
abbrev pub Turning : {N : Type 0} → Meaning N → State → Pairs N → Decoded → ControlFlow Chosen Answer → State → Pairs N → Type 0
Turning m st bl d (Continue a) st' bl' = Keeps m st bl d a st' bl'
Turning m st bl d (Break s) st' bl' = (c : Choice) × (d ≡ Ok (Choose c)) × Makes c s

-- windows under m are held by the console: lines that keep the window are turns of the console
abbrev pub Embeds : {N : Type 0} → Meaning N → (State → Pairs N → Console) → Type 0
Embeds {N} m held = (st : State) (bl : Pairs N) (d : Decoded) (a : Answer) (st' : State) (bl' : Pairs N) → Keeps m st bl d a st' bl' → Turn (held st bl) d a (held st' bl')

-- the lines answered so far lead to any new window of this form
abbrev pub Ready : {N : Type 0} → Console → List Decoded → List Answer → (State → Pairs N → Console) → Type 0
Ready {N} w ds rs held = (start : Pairs N) → length start ≡ 256 → Turns w (take (length rs) ds) rs (held Idle start)

-- the lines answered so far lead to a new window under the chosen scheme
abbrev pub ReadyFor : Console → List Decoded → List Answer → Chosen → Type 0
ReadyFor w ds rs (Plain p) = Ready w ds rs (plain p.modulus.n)
ReadyFor w ds rs (System s) = Ready w ds rs (system s)
ReadyFor w ds rs (Split p) = Ready w ds rs (shared p.modulus.n)

-- all lines are answered, or those up to a choice of another scheme
abbrev pub Served : Console → List Decoded → List Answer → Option Chosen → Type 0
Served w ds rs None = (v : Console) × Turns w ds rs v
Served w ds rs (Some s) = ReadyFor w ds rs s

-- lines are answered one after another, each by its turn, until one chooses another scheme
abbrev pub Answered : {F : Type 0} → (F → Decoded → ControlFlow Chosen Answer → F → Type 0) → F → List Decoded → List Answer → Option Chosen → Type 0
Answered step f [] [] next = next ≡ None
Answered step f [] (a ∷ rs) next = ⊥
Answered step f (d ∷ ds) [] next = ⊥
Answered {F} step f (d ∷ ds) (a ∷ rs) next = ((g : F) × step f d (Continue a) g × Answered step g ds rs next) ⊎ ((g : F) × (s : Chosen) × step f d (Break s) g × (a ≡ Ok None) × (rs ≡ []) × (next ≡ Some s))

-- so are those lines of a session that had no answer yet
pub record AnsweredBy {F : Type 0} (step : F → Decoded → ControlFlow Chosen Answer → F → Type 0) (f : F) (before after : Session) (next : Option Chosen) : Type 0 where
  pub lines : after.lines.now ≡ before.lines.now
  pub added : List Answer
  pub answers : after.answers.items ≡ before.answers.items ++ added
  pub turns : Answered step f (drop (length before.answers.items) before.lines.now) added next

-- where another scheme was chosen there are more answers than before
abbrev pub More : ℕ → ℕ → Option Chosen → Type 0
More before after None = Unit {0}
More before after (Some s) = before < after

-- from a new window on
pub record ServedFrom {N : Type 0} (m : Meaning N) (before after : Session) (next : Option Chosen) : Type 0 where
  pub lines : after.lines.now ≡ before.lines.now
  pub served : (w : Console) (held : State → Pairs N → Console) → Embeds m held → Ready w before.lines.now before.answers.items held → Served w before.lines.now after.answers.items next
  pub more : More (length before.answers.items) (length after.answers.items) next

-- from a new window under the scheme on
pub record ServedUnder (s : Chosen) (before after : Session) (next : Option Chosen) : Type 0 where
  pub lines : after.lines.now ≡ before.lines.now
  pub served : (w : Console) → ReadyFor w before.lines.now before.answers.items s → Served w before.lines.now after.answers.items next
  pub more : More (length before.answers.items) (length after.answers.items) next

-- from no window on
pub record ServedAbsent (before after : Session) (next : Option Chosen) : Type 0 where
  pub lines : after.lines.now ≡ before.lines.now
  pub served : before.answers.items ≡ [] → Served absent before.lines.now after.answers.items next
  pub more : More (length before.answers.items) (length after.answers.items) next

-- what a line comes to where there is no window
abbrev pub TurningAbsent : Decoded → ControlFlow Chosen Answer → Type 0
TurningAbsent d (Continue a) = Turn absent d a absent
TurningAbsent d (Break s) = (c : Choice) × (d ≡ Ok (Choose c)) × Makes c s
