-- Answers as text.
use Rattle.std.specs.Prelude.{ℕ, List, [], ◌∷◌, ◌++◌, Ok, Err, codes, decimal, Result, None, Some, Option}
use Rattle.std.specs.List.{flat_map}
use Rattle.std.specs.Fmt.{signed_decimal}
use Rattle.refusal.specs.declared.kinds.Refusal.{Refusal}
use Rattle.refusal.specs.Row.{row}
use Rattle.states.specs.declared.Line.{Line}

-- an opened line: its index, two components, scale and distance after the letter g
abbrev pub line_text : Line → List ℕ
line_text l = codes "g," ++ (decimal l.index ++ (codes "," ++ (signed_decimal l.re ++ (codes "," ++ (signed_decimal l.im ++ (codes "," ++ (decimal l.scale ++ (codes "," ++ decimal l.distance))))))))

-- 'ok', the opened line, or 'no' and the number of the refusal
abbrev pub answer_text : Result (Option Line) Refusal → List ℕ
answer_text (Ok None) = codes "ok"
answer_text (Ok (Some l)) = line_text l
answer_text (Err x) = codes "no," ++ decimal (row x).number

-- each answer in order, each with a line feed after it
abbrev pub transcript_of : List (Result (Option Line) Refusal) → List ℕ
transcript_of answers = flat_map (λ a. answer_text a ++ 10 ∷ []) answers
