-- A session of the console: what each line does, by the scheme's and the window's calls.
use Rattle.std.specs.Prelude.{◌≡◌, ℕ, true, cond, ◌&&◌, ◌⊎◌, List, [], ◌∷◌, length, Ok, Err, Result, nat_le, nat_lt, None, Option}
use Rattle.integers.specs.declared.Complex.{Complex}
use Rattle.integers.specs.Modulus.{is_modulus}
use Rattle.refusal.specs.declared.kinds.Refusal.{Refusal}
use Rattle.refusal.specs.declared.kinds.Refusal.TheVariants.{Moment, Place, Modulus, Garbled}
use Rattle.scheme.specs.Meaning.{Meaning}
use Rattle.scheme.specs.Sealing.{SealsPair}
use Rattle.plain.specs.Residues.{residues}
use Rattle.split.specs.declared.halves.Halves.{Halves}
use Rattle.split.specs.Shares.{split}
use Rattle.system.specs.declared.residues.System.{System}
use Rattle.system.specs.declared.residues.Residues.{Residues}
use Rattle.system.specs.Moduli.{Lawful}
use Rattle.system.specs.Making.{Accepted}
use Rattle.system.specs.Meant.{meant}
use Rattle.states.specs.declared.State.{State}
use Rattle.states.specs.declared.State.TheVariants.{Idle, Filling, Running, Finished}
use Rattle.states.specs.declared.Call.TheVariants.{Plan as PlanCall, Load as LoadCall, Begin as BeginCall, Advance as AdvanceCall, Line as LineCall, Restart as RestartCall}
use Rattle.states.specs.declared.Line.{Line as OpenedLine}
use Rattle.states.specs.Step.{Pairs, Step, Declined}
use Rattle.command.specs.declared.kinds.Choice.{Choice}
use Rattle.command.specs.declared.kinds.Choice.TheVariants.{Plain as PlainChoice, System as SystemChoice, Split as SplitChoice}
use Rattle.command.specs.declared.kinds.Command.{Command}
use Rattle.command.specs.declared.kinds.Command.TheVariants.{Choose, Plan, Load, Begin, Advance, Line, Restart}

-- a line as it is decoded: a command, or the refusal of a garbled line
abbrev pub Decoded : Type 0
Decoded = Result Command Refusal

-- what a command is answered
abbrev pub Answer : Type 0
Answer = Result (Option OpenedLine) Refusal

-- what the console has: no window yet, or a scheme and its window, by state and block
pub data Console : Type 0 where
  absent : Console
  plain : ℕ → State → Pairs ℕ → Console
  system : System → State → Pairs Residues → Console
  shared : ℕ → State → Pairs (Halves ℕ) → Console

-- the moduli keep the rule of the chosen scheme
abbrev pub LawfulChoice : Choice → Type 0
LawfulChoice (PlainChoice n) = is_modulus n ≡ true
LawfulChoice (SystemChoice p q r) = Lawful p q r
LawfulChoice (SplitChoice n) = is_modulus n ≡ true

-- a new window under the chosen scheme: idle, on a block of 256 pairs
abbrev pub Opens : Choice → Console → Type 0
Opens (PlainChoice n) w = (bl : Pairs ℕ) × (length bl ≡ 256) × (w ≡ plain n Idle bl)
Opens (SystemChoice p q r) w = (s : System) × Accepted p q r s × (bl : Pairs Residues) × (length bl ≡ 256) × (w ≡ system s Idle bl)
Opens (SplitChoice n) w = (bl : Pairs (Halves ℕ)) × (length bl ≡ 256) × (w ≡ shared n Idle bl)

-- Choosing a scheme: accepted where its moduli are lawful, and then a new window takes the place of what was there; else declined, and nothing changes.
abbrev pub Chooses : Choice → Console → Answer → Console → Type 0
Chooses c w a w' = (LawfulChoice c × (a ≡ Ok None) × Opens c w') ⊎ ((LawfulChoice c → ⊥) × (a ≡ Err Modulus) × (w' ≡ w))

-- the limit under which a sample is sealed before it is loaded as sample n: the sample scale of the plan in force; or why it cannot be loaded, whatever it is
abbrev pub limit_in : State → ℕ → Result ℕ Refusal
limit_in Idle n = Err Moment
limit_in (Filling kept count) n = cond (nat_le n count && nat_lt n kept.plan.size) (Ok kept.plan.sample_scale) (Err Place)
limit_in (Running kept t) n = Err Moment
limit_in (Finished kept) n = Err Moment

-- the sealed pair is loaded; a refusal of the seal declines the command
abbrev pub LoadsSealed : {N : Type 0} → Meaning N → State → Pairs N → ℕ → Result (N × N) Refusal → Answer → State → Pairs N → Type 0
LoadsSealed m st bl n (Ok x) a st' bl' = Step m st bl (LoadCall n x) a st' bl'
LoadsSealed m st bl n (Err e) a st' bl' = Declined e st bl a st' bl'

abbrev pub LoadsWithin : {N : Type 0} → Meaning N → State → Pairs N → ℕ → Complex → ℕ × ℕ → Result ℕ Refusal → Answer → State → Pairs N → Type 0
LoadsWithin {N} m st bl n z words (Ok limit) a st' bl' = (r : Result (N × N) Refusal) × SealsPair m limit z words r × LoadsSealed m st bl n r a st' bl'
LoadsWithin m st bl n z words (Err e) a st' bl' = Declined e st bl a st' bl'

-- what a command does on a window under the meaning of a scheme
abbrev pub Does : {N : Type 0} → Meaning N → State → Pairs N → Command → Answer → State → Pairs N → Type 0
Does m st bl (Choose c) a st' bl' = ⊥
Does m st bl (Plan k size q1 q2) a st' bl' = Step m st bl (PlanCall k size q1 q2) a st' bl'
Does m st bl (Load n z words) a st' bl' = LoadsWithin m st bl n z words (limit_in st n) a st' bl'
Does m st bl Begin a st' bl' = Step m st bl BeginCall a st' bl'
Does m st bl Advance a st' bl' = Step m st bl AdvanceCall a st' bl'
Does m st bl (Line k) a st' bl' = Step m st bl (LineCall k) a st' bl'
Does m st bl Restart a st' bl' = Step m st bl RestartCall a st' bl'

-- a command other than a choice: on the window that the console has, or declined where it has none
abbrev pub Serves : Console → Command → Answer → Console → Type 0
Serves absent c a w = (a ≡ Err Moment) × (w ≡ absent)
Serves (plain n st bl) c a w = (st' : State) × (bl' : Pairs ℕ) × Does (residues n) st bl c a st' bl' × (w ≡ plain n st' bl')
Serves (system s st bl) c a w = (st' : State) × (bl' : Pairs Residues) × Does (meant s) st bl c a st' bl' × (w ≡ system s st' bl')
Serves (shared n st bl) c a w = (st' : State) × (bl' : Pairs (Halves ℕ)) × Does (split (residues n)) st bl c a st' bl' × (w ≡ shared n st' bl')

-- one line: its answer, and what the console has after it
abbrev pub Turn : Console → Decoded → Answer → Console → Type 0
Turn w (Err x) a w' = (a ≡ Err Garbled) × (w' ≡ w)
Turn w (Ok (Choose c)) a w' = Chooses c w a w'
Turn w (Ok (Plan k size q1 q2)) a w' = Serves w (Plan k size q1 q2) a w'
Turn w (Ok (Load n z words)) a w' = Serves w (Load n z words) a w'
Turn w (Ok Begin) a w' = Serves w Begin a w'
Turn w (Ok Advance) a w' = Serves w Advance a w'
Turn w (Ok (Line k)) a w' = Serves w (Line k) a w'
Turn w (Ok Restart) a w' = Serves w Restart a w'

-- the lines are answered in order, one answer each, and lead from what the console had to what it has then
abbrev pub Turns : Console → List Decoded → List Answer → Console → Type 0
Turns w [] [] w' = w ≡ w'
Turns w [] (a ∷ rs) w' = ⊥
Turns w (d ∷ ds) [] w' = ⊥
Turns w (d ∷ ds) (a ∷ rs) w' = (v : Console) × Turn w d a v × Turns v ds rs w'
