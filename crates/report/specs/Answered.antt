-- What is said of a call's answer, after the call.
use Rattle.std.specs.Prelude.{ℕ, List, ◌++◌, Ok, Err, codes, Result}
use Rattle.refusal.specs.declared.kinds.Refusal.{Refusal}
use Rattle.refusal.specs.Row.{row, text as refusal_text}

abbrev pub answer_text : Result (Unit {0}) Refusal → List ℕ
answer_text (Ok x) = codes ": ok"
answer_text (Err e) = codes ": no, " ++ refusal_text (row e)
