-- What a scheme means, and what each of its calls owes. Nothing else is assumed of a scheme: in particular not that a sum is a
-- function of its operands, nor that two numbers which hide the same residue are equal.
use Rattle.std.specs.Prelude.{◌≡◌, ℕ, ◌+◌, ◌-◌, ◌%◌, ◌^◌, ◌<◌, ◌≤◌, Bool, true, false, List, [], ℤ, Ok, Err, Result, unsigned_abs}
use Rattle.refusal.specs.declared.kinds.Refusal.{Refusal}
use Rattle.refusal.specs.declared.kinds.Refusal.TheVariants.{Size, SampleScale, TwiddleScale, Block, Narrow, Moment, Place, Strange, Malformed, Short, Large, Mask, Modulus, Garbled, Long}
use Rattle.integers.specs.Residue.{residue, half}

-- A view says which part of a hidden number is looked at: [] the whole number, false ∷ v the view v of its first half, true ∷ v the
-- view v of its second half. A scheme whose numbers are not made of halves reads the hidden residue in every view, so that the
-- family of readings asks no more of it than the one reading of the whole.
abbrev pub View : Type 0
View = List Bool

-- The meaning of a scheme: its modulus, the mask words that it takes, which numbers are well formed, and what is read in them.
pub record Meaning (Number : Type 0) : Type 0 where
  pub modulus : ℕ
  pub takes : ℕ → Bool
  pub wf : Number → Bool
  pub reads : View → Number → ℕ

-- the residue that a number hides: what is read in the whole of it
abbrev pub hides : {Number : Type 0} → Meaning Number → Number → ℕ
hides s x = s.reads [] x

-- The modulus is odd, from 3 to 2^62 − 1; the word 1 is taken; whatever is read in a well-formed number is a residue.
pub record Sound {Number : Type 0} (s : Meaning Number) : Type 0 where
  pub odd : s.modulus % 2 ≡ 1
  pub least : 3 ≤ s.modulus
  pub most : s.modulus ≤ 2 ^ 62 - 1
  pub one : s.takes 1 ≡ true
  pub below : (v : View) (x : Number) → s.wf x ≡ true → s.reads v x < s.modulus

-- r is a zero: well formed, and 0 is read in every view
pub record Zero {Number : Type 0} (s : Meaning Number) (r : Number) : Type 0 where
  pub wf : s.wf r ≡ true
  pub reads : (v : View) → s.reads v r ≡ 0

-- r is a sum of a and b: well formed, and in every view the sum modulo N of what is read in a and b
pub record Sum {Number : Type 0} (s : Meaning Number) (a b r : Number) : Type 0 where
  pub wf : s.wf r ≡ true
  pub reads : (v : View) → s.reads v r ≡ (s.reads v a + s.reads v b) % s.modulus

-- r is an opposite of a: well formed, and in every view it brings the sum with a to 0 modulo N
pub record Opposite {Number : Type 0} (s : Meaning Number) (a r : Number) : Type 0 where
  pub wf : s.wf r ≡ true
  pub cancels : (v : View) → (s.reads v a + s.reads v r) % s.modulus ≡ 0

-- x is m sealed with the word: m is within half of the modulus, the word is taken, x is well formed and hides m modulo N
pub record Sealed {Number : Type 0} (s : Meaning Number) (m : ℤ) (word : ℕ) (x : Number) : Type 0 where
  pub within : unsigned_abs m ≤ half s.modulus
  pub taken : s.takes word ≡ true
  pub wf : s.wf x ≡ true
  pub hidden : hides s x ≡ residue m s.modulus

-- m is too large for the modulus
pub record TooLarge {Number : Type 0} (s : Meaning Number) (m : ℤ) : Type 0 where
  pub above : half s.modulus < unsigned_abs m

-- m is within half of the modulus, but the word is not taken
pub record NotTaken {Number : Type 0} (s : Meaning Number) (m : ℤ) (word : ℕ) : Type 0 where
  pub within : unsigned_abs m ≤ half s.modulus
  pub strange : s.takes word ≡ false

-- A refusal to seal: large where the number is too large, mask where the word is not taken, nothing else.
abbrev pub Refuses : Type 0 → Type 0 → Refusal → Type 0
Refuses large mask Large = large
Refuses large mask Mask = mask
Refuses large mask Size = ⊥
Refuses large mask SampleScale = ⊥
Refuses large mask TwiddleScale = ⊥
Refuses large mask Block = ⊥
Refuses large mask Narrow = ⊥
Refuses large mask Moment = ⊥
Refuses large mask Place = ⊥
Refuses large mask Strange = ⊥
Refuses large mask (Malformed p) = ⊥
Refuses large mask Short = ⊥
Refuses large mask Modulus = ⊥
Refuses large mask Garbled = ⊥
Refuses large mask Long = ⊥

-- What seal may answer: the sealed number, large where m is too large, mask where m is not and the word is not taken, nothing else.
abbrev pub Seals : {Number : Type 0} → Meaning Number → ℤ → ℕ → Result Number Refusal → Type 0
Seals s m word (Ok x) = Sealed s m word x
Seals s m word (Err e) = Refuses (TooLarge s m) (NotTaken s m word) e
