-- Sealing samples with a limit, one by one and in pairs, and opening numbers as whole numbers: for every scheme.
use Rattle.std.specs.Prelude.{◌≡◌, ℕ, ◌<◌, ◌≤◌, min, max, Bool, true, false, ◌&&◌, ℤ, Ok, Err, Result, unsigned_abs}
use Rattle.refusal.specs.declared.kinds.Refusal.{Refusal}
use Rattle.integers.specs.declared.Complex.{Complex}
use Rattle.integers.specs.Complex.{complex}
use Rattle.integers.specs.Residue.{half, centred}
use Rattle.scheme.specs.Meaning.{Meaning, Sound, Sealed, TooLarge, NotTaken, Refuses, hides}

-- the greatest size that is sealed under a limit: the limit, or half of the modulus where that is less
abbrev pub room : {Number : Type 0} → Meaning Number → ℕ → ℕ
room s limit = min limit (half s.modulus)

-- m is no larger than there is room for, but the word is not taken
pub record Unsealable (size space : ℕ) (taken : Bool) : Type 0 where
  pub within : size ≤ space
  pub strange : taken ≡ false

-- Whether m is within a limit: large where its size is above it, nothing else.
abbrev pub Limits : ℕ → ℤ → Result Unit Refusal → Type 0
Limits limit m (Ok x) = unsigned_abs m ≤ limit
Limits limit m (Err e) = Refuses (limit < unsigned_abs m) ⊥ e

-- m is within half of n, and the word is taken
pub record Admitted (n : ℕ) (m : ℤ) (taken : Bool) : Type 0 where
  pub within : unsigned_abs m ≤ half n
  pub known : taken ≡ true

-- Whether m can be sealed modulo n with a word that is taken or not: large where m is above half of n, mask where it is not and the
-- word is not taken, nothing else.
abbrev pub Admits : ℕ → ℤ → Bool → Result Unit Refusal → Type 0
Admits n m taken (Ok x) = Admitted n m taken
Admits n m taken (Err e) = Refuses (half n < unsigned_abs m) (Unsealable (unsigned_abs m) (half n) taken) e

-- the sample m is sealed under the limit
pub record SealedWithin {Number : Type 0} (s : Meaning Number) (limit : ℕ) (m : ℤ) (word : ℕ) (x : Number) : Type 0 where
  pub limited : unsigned_abs m ≤ limit
  pub sealed : Sealed s m word x

-- Sealing a sample under a limit answers the sealed number, large where its size is above the limit or half of the modulus, mask where
-- it is not and the word is not taken, nothing else.
abbrev pub SealsWithin : {Number : Type 0} → Meaning Number → ℕ → ℤ → ℕ → Result Number Refusal → Type 0
SealsWithin s limit m word (Ok x) = SealedWithin s limit m word x
SealsWithin s limit m word (Err e) = Refuses (room s limit < unsigned_abs m) (Unsealable (unsigned_abs m) (room s limit) (s.takes word)) e

-- the greater size of the two components
abbrev pub extent : Complex → ℕ
extent z = max (unsigned_abs z.re) (unsigned_abs z.im)

-- both components of the sample are sealed under the limit, each with its own word
pub record SealedPair {Number : Type 0} (s : Meaning Number) (limit : ℕ) (z : Complex) (words : ℕ × ℕ) (p : Number × Number) : Type 0 where
  pub re : SealedWithin s limit z.re words.0 p.0
  pub im : SealedWithin s limit z.im words.1 p.1

-- Sealing a pair: large where either component is too large, whichever words are taken; mask where neither is too large and one of
-- the words is not taken; nothing else.
abbrev pub SealsPair : {Number : Type 0} → Meaning Number → ℕ → Complex → ℕ × ℕ → Result (Number × Number) Refusal → Type 0
SealsPair s limit z words (Ok p) = SealedPair s limit z words p
SealsPair s limit z words (Err e) = Refuses (room s limit < extent z) (Unsealable (extent z) (room s limit) (s.takes words.0 && s.takes words.1)) e

-- the whole number that a number stands for: the meaning of the residue that it hides
abbrev pub means : {Number : Type 0} → Meaning Number → Number → ℤ
means s x = centred (hides s x) s.modulus

-- the complex whole number that a hidden pair stands for
abbrev pub means_pair : {Number : Type 0} → Meaning Number → Number × Number → Complex
means_pair s p = complex (means s p.0) (means s p.1)

-- what was sealed and opened again: m itself, where m could be sealed
pub record Reopened {Number : Type 0} (s : Meaning Number) (m : ℤ) (word : ℕ) (r : ℤ) : Type 0 where
  pub within : unsigned_abs m ≤ half s.modulus
  pub taken : s.takes word ≡ true
  pub same : r ≡ m

abbrev pub Reopens : {Number : Type 0} → Meaning Number → ℤ → ℕ → Result ℤ Refusal → Type 0
Reopens s m word (Ok r) = Reopened s m word r
Reopens s m word (Err e) = Refuses (TooLarge s m) (NotTaken s m word) e

-- A sealed number opens as itself, under every scheme with these numbers.
abbrev pub SealedOpens : Type 0 → Type 0
SealedOpens Number = (s : Meaning Number) → Sound s → (m : ℤ) (word : ℕ) (x : Number) → Sealed s m word x → means s x ≡ m
