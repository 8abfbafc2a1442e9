-- The answers of the single calls, as answers of any call.
use Rattle.std.specs.Prelude.{Some, None, Ok, Err, Option, Result}
use Rattle.refusal.specs.declared.kinds.Refusal.{Refusal}
use Rattle.states.specs.declared.Line.{Line}

-- the answer of a call that opens no line
abbrev pub answer_without_line : Result (Unit {0}) Refusal → Result (Option Line) Refusal
answer_without_line (Ok _) = Ok None
answer_without_line (Err x) = Err x

-- the answer of a call that opens a line
abbrev pub answer_with_line : Result Line Refusal → Result (Option Line) Refusal
answer_with_line (Ok l) = Ok (Some l)
answer_with_line (Err x) = Err x
