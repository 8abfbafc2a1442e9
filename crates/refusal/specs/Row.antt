-- Each refusal's number, word and the place that it tells, in one definition; and its text.
use Rattle.std.specs.Prelude.{◌≡◌, ℕ, ◌≤◌, List, ◌++◌, Some, None, codes, decimal, Option}
use Rattle.refusal.specs.declared.kinds.Refusal.{Refusal}
use Rattle.refusal.specs.declared.kinds.Refusal.TheVariants.{Size, SampleScale, TwiddleScale, Block, Narrow, Moment, Place, Strange, Malformed, Short, Large, Mask, Modulus, Garbled, Long}

-- what is said of a refusal
pub record Row : Type 0 where
  pub number : ℕ
  pub word : List ℕ
  pub place : Option ℕ

-- a row that tells no place
abbrev pub plain_row : ℕ → List ℕ → Row
plain_row n w = record { number = n; word = w; place = None }

abbrev pub row : Refusal → Row
row Size = plain_row 1 (codes "size")
row SampleScale = plain_row 2 (codes "sample scale")
row TwiddleScale = plain_row 3 (codes "twiddle scale")
row Block = plain_row 4 (codes "block")
row Narrow = plain_row 5 (codes "narrow")
row Moment = plain_row 6 (codes "moment")
row Place = plain_row 7 (codes "place")
row Strange = plain_row 8 (codes "strange")
row (Malformed p) = record { number = 9; word = codes "malformed"; place = Some p }
row Short = plain_row 10 (codes "short")
row Large = plain_row 11 (codes "large")
row Mask = plain_row 12 (codes "mask")
row Modulus = plain_row 13 (codes "modulus")
row Garbled = plain_row 14 (codes "garbled")
row Long = plain_row 15 (codes "long")

-- a number, a word and, where there is one, a place: '11 large', '9 malformed at 3'
abbrev pub shown_as : ℕ → List ℕ → Option ℕ → List ℕ
shown_as n w None = decimal n ++ (codes " " ++ w)
shown_as n w (Some p) = decimal n ++ (codes " " ++ (w ++ (codes " at " ++ decimal p)))

-- the text of a row
abbrev pub text : Row → List ℕ
text x = shown_as x.number x.word x.place

-- The number is from 1 to 15, and number and place together tell the refusal.
pub record Distinct : Type 0 where
  pub low : (x : Refusal) → 1 ≤ (row x).number
  pub high : (x : Refusal) → (row x).number ≤ 15
  pub told : (x y : Refusal) → (row x).number ≡ (row y).number → (row x).place ≡ (row y).place → x ≡ y
