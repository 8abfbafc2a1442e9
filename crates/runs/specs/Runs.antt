-- Runs of a list of calls on a new window, and what is right about their answers.
use Rattle.std.specs.Prelude.{◌≡◌, List, [], ◌∷◌, Ok, Err, Result, None, Some, Option}
use Rattle.refusal.specs.declared.kinds.Refusal.{Refusal}
use Rattle.scheme.specs.Meaning.{Meaning}
use Rattle.states.specs.declared.State.TheVariants.{Idle}
use Rattle.states.specs.declared.Call.{Call}
use Rattle.states.specs.declared.Call.TheVariants.{Plan as PlanCall, Load, Begin, Advance, Line as LineCall, Restart}
use Rattle.states.specs.declared.Line.{Line}
use Rattle.states.specs.Step.{Pairs}
use Rattle.states.specs.History.{Event, RightBy}
use Rattle.secrecy.specs.Secrecy.{After, Answers, answers_of, Run}

-- an answer is right after the calls of the past: a line is opened by a line call alone, and is right by the history
abbrev pub RightAnswer : {N : Type 0} → Meaning N → List (Event N) → Result (Option Line) Refusal → Call N → Type 0
RightAnswer m past (Err x) c = Unit {0}
RightAnswer m past (Ok None) c = Unit {0}
RightAnswer m past (Ok (Some l)) (PlanCall k size q1 q2) = ⊥
RightAnswer m past (Ok (Some l)) (Load n x) = ⊥
RightAnswer m past (Ok (Some l)) Begin = ⊥
RightAnswer m past (Ok (Some l)) Advance = ⊥
RightAnswer m past (Ok (Some l)) (LineCall k) = RightBy m past k l
RightAnswer m past (Ok (Some l)) Restart = ⊥

-- each call has one answer, right by the history of the calls before it
abbrev pub AllRight : {N : Type 0} → Meaning N → List (Event N) → List (Call N) → Answers → Type 0
AllRight m past [] [] = Unit {0}
AllRight m past [] (a ∷ rs) = ⊥
AllRight m past (c ∷ cs) [] = ⊥
AllRight m past (c ∷ cs) (a ∷ rs) = RightAnswer m past a c × AllRight m (record { call = c; answer = a } ∷ past) cs rs

-- the block that the last call left, or the one at the start
abbrev pub last_block : {N : Type 0} → Pairs N → List (After N) → Pairs N
last_block start [] = start
last_block start (t ∷ ts) = last_block t.block ts

-- A run of a list of calls on a new window over a block: each call is handed what the last one left; these are the answers, and the block at the end;
-- and every answer is right by the history.
pub record RunOf {N : Type 0} (m : Meaning N) (start : Pairs N) (cs : List (Call N)) (rs : Answers) (end : Pairs N) : Type 0 where
  pub after : List (After N)
  pub runs : Run m Idle start cs after
  pub answers : answers_of after ≡ rs
  pub last : last_block start after ≡ end
  pub right : AllRight m [] cs rs
