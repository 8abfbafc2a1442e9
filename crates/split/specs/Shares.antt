-- The meaning of the split over a scheme, and what its calls do to each half.
use Rattle.std.specs.Prelude.{◌≡◌, ℕ, ◌+◌, ◌%◌, true, false, ◌&&◌, [], ◌∷◌, ℤ, pos, ◌-ℤ◌, Ok, Err, Result, nat_lt}
use Rattle.refusal.specs.declared.kinds.Refusal.{Refusal}
use Rattle.integers.specs.Residue.{residue}
use Rattle.scheme.specs.Meaning.{Meaning, View, Zero, Sum, Opposite, hides}
use Rattle.split.specs.declared.halves.Halves.{Halves}

-- the whole hides the sum modulo N of what the halves hide; the other views look into one half
abbrev pub reads_halves : {Number : Type 0} → Meaning Number → View → Halves Number → ℕ
reads_halves s [] x = (hides s x.first + hides s x.second) % s.modulus
reads_halves s (false ∷ v) x = s.reads v x.first
reads_halves s (true ∷ v) x = s.reads v x.second

-- The split over s has its modulus; the words below it are taken; a number is well formed where both halves are.
abbrev pub split : {Number : Type 0} → Meaning Number → Meaning (Halves Number)
split s = record { modulus = s.modulus; takes = λ w. nat_lt w s.modulus; wf = λ x. s.wf x.first && s.wf x.second; reads = reads_halves s }

-- each half is a zero below
pub record ZeroHalves {Number : Type 0} (s : Meaning Number) (r : Halves Number) : Type 0 where
  pub first : Zero s r.first
  pub second : Zero s r.second

-- each half is the sum below of the two halves, where these are well formed
pub record SumHalves {Number : Type 0} (s : Meaning Number) (a b r : Halves Number) : Type 0 where
  pub first : s.wf a.first ≡ true → s.wf b.first ≡ true → Sum s a.first b.first r.first
  pub second : s.wf a.second ≡ true → s.wf b.second ≡ true → Sum s a.second b.second r.second

-- each half is the opposite below of the half, where this is well formed
pub record OppositeHalves {Number : Type 0} (s : Meaning Number) (a r : Halves Number) : Type 0 where
  pub first : s.wf a.first ≡ true → Opposite s a.first r.first
  pub second : s.wf a.second ≡ true → Opposite s a.second r.second

-- the halves of m under the mask word: the word itself, and the residue of m less the word
pub record Masked {Number : Type 0} (s : Meaning Number) (m : ℤ) (word : ℕ) (x : Halves Number) : Type 0 where
  pub first : hides s x.first ≡ word
  pub second : hides s x.second ≡ residue (m -ℤ pos word) s.modulus

-- what seal answers is masked
abbrev pub SealsHalves : {Number : Type 0} → Meaning Number → ℤ → ℕ → Result (Halves Number) Refusal → Type 0
SealsHalves s m word (Ok x) = Masked s m word x
SealsHalves s m word (Err e) = Unit {0}
