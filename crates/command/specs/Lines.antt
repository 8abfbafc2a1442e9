-- The lines of the console's input.
use Rattle.std.specs.Prelude.{◌≡◌, ℕ, ◌≤◌, ◌⊎◌, List, [], ◌∷◌, ◌++◌, length, Result, ◌≢◌}
use Rattle.refusal.specs.declared.kinds.Refusal.{Refusal}
use Rattle.command.specs.declared.kinds.Command.{Command}
use Rattle.std.specs.Io.BufRead.{strip_last}
use Rattle.command.specs.Spelling.{Decodes}

-- no byte of the text is a line feed
abbrev pub Unbroken : List ℕ → Type 0
Unbroken [] = Unit {0}
Unbroken (x ∷ xs) = (x ≢ 10) × Unbroken xs

-- The lines of an input: the first, without a line feed, is followed by a line feed and the lines of the rest; or it is the last, is not empty and lacks its line
-- feed. An empty input has no line.
abbrev pub Lines : List ℕ → List (List ℕ) → Type 0
Lines input [] = input ≡ []
Lines input (l ∷ ls) = Unbroken l × (((rest : List ℕ) × (input ≡ l ++ 10 ∷ rest) × Lines rest ls) ⊎ ((input ≡ l) × (1 ≤ length l) × (ls ≡ [])))

-- an input has its lines in one way only
abbrev pub OneSplit : Type 0
OneSplit = (input : List ℕ) (ls ms : List (List ℕ)) → Lines input ls → Lines input ms → ls ≡ ms

-- each line is decoded, in order
abbrev pub AllDecode : List (List ℕ) → List (Result Command Refusal) → Type 0
AllDecode [] [] = Unit {0}
AllDecode [] (d ∷ ds) = ⊥
AllDecode (l ∷ ls) [] = ⊥
AllDecode (l ∷ ls) (d ∷ ds) = Decodes l d × AllDecode ls ds

-- what the lines of an input are decoded as
pub record DecodesAll (input : List ℕ) (ds : List (Result Command Refusal)) : Type 0 where
  pub lines : List (List ℕ)
  pub split : Lines input lines
  pub each : AllDecode lines ds

-- a line without the line feed that it ends in
abbrev pub without_feed : List ℕ → List ℕ
without_feed line = strip_last 10 line
