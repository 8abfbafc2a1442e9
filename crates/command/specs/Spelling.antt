-- How commands are spelled: which lines are commands, and which.
use Rattle.std.specs.Prelude.{◌≡◌, ℕ, ◌+◌, ◌-◌, ◌*◌, ◌^◌, ◌≤◌, Bool, true, ◌&&◌, ◌⊎◌, List, [], ◌∷◌, ◌++◌, length, ℤ, pos, neg_ℤ, Ok, Err, codes, Result}
use Rattle.std.specs.Char.{is_ascii_digit}
use Rattle.integers.specs.declared.Complex.{Complex}
use Rattle.plan.specs.declared.method.Method.{Method}
use Rattle.plan.specs.declared.method.Method.TheVariants.{Direct, Radix2, Radix4}
use Rattle.refusal.specs.declared.kinds.Refusal.{Refusal}
use Rattle.refusal.specs.declared.kinds.Refusal.TheVariants.{Garbled}
use Rattle.command.specs.declared.kinds.Choice.TheVariants.{Plain, System, Split}
use Rattle.command.specs.declared.kinds.Command.{Command}
use Rattle.command.specs.declared.kinds.Command.TheVariants.{Choose, Plan, Load, Begin, Advance, Line, Restart}

-- whether all bytes are decimal digits, 48 to 57
abbrev pub digits_only : List ℕ → Bool
digits_only [] = true
digits_only (c ∷ cs) = is_ascii_digit c && digits_only cs

-- the number that digits write after those of n
abbrev pub number_after : ℕ → List ℕ → ℕ
number_after n [] = n
number_after n (c ∷ cs) = number_after (n * 10 + (c - 48)) cs

-- a numeral: 1 to 19 decimal digits that write a number up to 2^62
pub record Numeral (n : ℕ) (text : List ℕ) : Type 0 where
  pub some : 1 ≤ length text
  pub few : length text ≤ 19
  pub digits : digits_only text ≡ true
  pub writes : number_after 0 text ≡ n
  pub limit : n ≤ 2 ^ 62

-- a whole number: a numeral, or a minus sign and a numeral for its opposite
abbrev pub Whole : ℤ → List ℕ → Type 0
Whole z text = ((n : ℕ) × Numeral n text × (z ≡ pos n)) ⊎ ((n : ℕ) × (digits : List ℕ) × Numeral n digits × (text ≡ 45 ∷ digits) × (z ≡ neg_ℤ (pos n)))

-- fields parted by commas
abbrev pub parted : List (List ℕ) → List ℕ
parted [] = []
parted (x ∷ []) = x
parted (x ∷ y ∷ ys) = x ++ 44 ∷ parted (y ∷ ys)

-- the letter of a method
abbrev pub method_letter : Method → List ℕ
method_letter Direct = codes "d"
method_letter Radix2 = codes "2"
method_letter Radix4 = codes "4"

-- the fields of a load command: the sample's number, its two components, its two mask words
pub record LoadFields (n : ℕ) (z : Complex) (words : ℕ × ℕ) (line : List ℕ) : Type 0 where
  pub number : List ℕ
  pub re : List ℕ
  pub im : List ℕ
  pub first : List ℕ
  pub second : List ℕ
  pub numbered : Numeral n number
  pub real : Whole z.re re
  pub imaginary : Whole z.im im
  pub one : Numeral words.0 first
  pub two : Numeral words.1 second
  pub whole : line ≡ parted (codes "l" ∷ number ∷ re ∷ im ∷ first ∷ second ∷ [])

-- Which line spells which command: its fields, parted by commas.
abbrev pub Spells : Command → List ℕ → Type 0
Spells (Choose (Plain n)) line = (a : List ℕ) × Numeral n a × (line ≡ parted (codes "s" ∷ codes "r" ∷ a ∷ []))
Spells (Choose (System p q r)) line = (a b c : List ℕ) × Numeral p a × Numeral q b × Numeral r c × (line ≡ parted (codes "s" ∷ codes "y" ∷ a ∷ b ∷ c ∷ []))
Spells (Choose (Split n)) line = (a : List ℕ) × Numeral n a × (line ≡ parted (codes "s" ∷ codes "p" ∷ a ∷ []))
Spells (Plan k size q1 q2) line = (a b c : List ℕ) × Numeral size a × Numeral q1 b × Numeral q2 c × (line ≡ parted (codes "p" ∷ method_letter k ∷ a ∷ b ∷ c ∷ []))
Spells (Load n z words) line = LoadFields n z words line
Spells Begin line = line ≡ codes "b"
Spells Advance line = line ≡ codes "a"
Spells (Line k) line = (a : List ℕ) × Numeral k a × (line ≡ parted (codes "g" ∷ a ∷ []))
Spells Restart line = line ≡ codes "r"

-- A line is decoded as a command that it spells; where it spells none, and there alone, it is garbled.
abbrev pub Decodes : List ℕ → Result Command Refusal → Type 0
Decodes line (Ok c) = Spells c line
Decodes line (Err x) = (x ≡ Garbled) × ((c : Command) → Spells c line → ⊥)

-- no line spells two commands
abbrev pub SpelledOnce : Type 0
SpelledOnce = (line : List ℕ) (c d : Command) → Spells c line → Spells d line → c ≡ d
