-- The console as a whole: from the bytes of its input to the bytes of its output.
use Rattle.std.specs.Prelude.{◌≡◌, ℕ, ◌<◌, ◌≤◌, ◌⊎◌, List, [], ◌∷◌, length, Err}
use Rattle.refusal.specs.declared.kinds.Refusal.TheVariants.{Long}
use Rattle.command.specs.Lines.{DecodesAll}
use Rattle.command.specs.Text.{transcript_of}
use Rattle.session.specs.Session.{Decoded, Answer, Console, absent, Turns}
use Rattle.session.specs.Typed.{AllRight, AllReachable}

-- The lines, decoded, and their answers are a session from no window on; opened lines are right by what was typed; and the answers are those that a line of the console can meet.
pub record SessionOf (ds : List Decoded) (rs : List Answer) : Type 0 where
  pub end : Console
  pub turns : Turns absent ds rs end
  pub right : AllRight [] ds rs
  pub reachable : AllReachable rs

-- what is replied to an input that is not too long: each line is decoded and answered, and the answers are written in order
pub record Replied (input output : List ℕ) : Type 0 where
  pub lines : List Decoded
  pub answers : List Answer
  pub decodes : DecodesAll input lines
  pub session : SessionOf lines answers
  pub text : output ≡ transcript_of answers

-- The whole: an input of more than 65,536 bytes has the one reply that it is too long.
abbrev pub Replies : List ℕ → List ℕ → Type 0
Replies input output = ((length input ≤ 65_536) × Replied input output) ⊎ ((65_536 < length input) × (output ≡ transcript_of (Err Long ∷ [])))
