-- The entries of a butterfly, at equal distances in a block.
use Rattle.std.proofs.Common.{◌≡◌, ℕ, zero, suc, ◌+◌, ◌-◌, ◌*◌, ◌<◌, ◌≤◌, List, [], ◌∷◌, length, get_or, set, sym, refl, ap, ◌∙◌, subst, arith, mul-le-mul_right, length-set, get_or-set_other, get_or-set_same, suc-mul}
use Rattle.std.proofs.lemmas.List.{get_or_read}
use native.Mathlib.Decide.{dec_lt}
use lib.Arith.{digits_lt}
use Rattle.integers.specs.declared.Complex.{Complex}
use Rattle.integers.specs.Complex.{◌⊗◌}
use Rattle.scheme.specs.Meaning.{Meaning, View}
use Rattle.scheme.specs.Hidden.{StandsPair}
use Rattle.stages.specs.Mixing.{Replaced}

-- entry i of the butterfly at offset k lies in its group
pub entry_inside : (r span g k i n : ℕ) → i < r → k < span → g * (r * span) + r * span ≤ n → g * (r * span) + k + i * span < n
entry_inside r span g k i n hi hk h = let a : i * span + k < r * span = digits_lt hi hk in omega arith

-- where the last entry lies below n, all do
pub entries_below : (r first span n i : ℕ) → i < r → first + (r - 1) * span < n → first + i * span < n
entries_below r first span n i hi h = let a : i * span ≤ (r - 1) * span = mul-le-mul_right span (omega arith) in omega arith

-- two entries are one only where their numbers are
pub entries_apart : (first span i j : ℕ) → 0 < span → i < j → first + i * span ≡ first + j * span → ⊥
entries_apart first span i j some less same = let a : suc i * span ≤ j * span = mul-le-mul_right span less in omega (arith, suc-mul i span)

module _ {A : Type 0} (span : ℕ) where
  -- ys written from place p on
  abbrev pub write_all : List A → ℕ → List A → List A
  write_all xs p [] = xs
  write_all xs p (y ∷ ys) = write_all (set xs p y) (p + span) ys

  pub write_kept : (ys xs : List A) (p q : ℕ) (d : A) → ((i : ℕ) → i < length ys → q ≡ p + i * span → ⊥) → get_or (write_all xs p ys) q d ≡ get_or xs q d
  write_kept [] xs p q d apart = refl
  write_kept (y ∷ ys) xs p q d apart =
      write_kept ys (set xs p y) (p + span) q d (λ i h e. apart (suc i) (omega arith) (omega (arith, suc-mul i span)))
      ∙ get_or-set_other xs p q y d (λ e. apart 0 (omega arith) (omega arith))

  pub write_read : (ys xs : List A) (p l : ℕ) (d : A) → 0 < span → ((i : ℕ) → i < length ys → p + i * span < length xs) → l < length ys → get_or (write_all xs p ys) (p + l * span) d ≡ get_or ys l d
  write_read [] xs p l d some inside h = absurd (omega arith)
  write_read (y ∷ ys) xs p zero d some inside h =
      let e : p + 0 * span ≡ p = omega arith in
      ap (λ q. get_or (write_all (set xs p y) (p + span) ys) q d) e
      ∙ write_kept ys (set xs p y) (p + span) p d (λ i hi same. omega arith)
      ∙ get_or-set_same xs p y d (let a = inside 0 (omega arith) in omega arith)
  write_read (y ∷ ys) xs p (suc l) d some inside h =
      let e : p + suc l * span ≡ p + span + l * span = omega (arith, suc-mul l span) in
      ap (λ q. get_or (write_all (set xs p y) (p + span) ys) q d) e
      ∙ write_read ys (set xs p y) (p + span) l d some (λ i hi. let a = inside (suc i) (omega arith) in omega (arith, suc-mul i span, length-set {A = A} xs p y)) (omega arith)

pub two_cases : {A : Type 0} (P : ℕ → A → Type 0) (a b d : A) → P 0 a → P 1 b → (l : ℕ) → l < 2 → P l (get_or (a ∷ b ∷ []) l d)
two_cases P a b d p q zero h = p
two_cases P a b d p q (suc zero) h = q
two_cases P a b d p q (suc (suc l)) h = absurd (omega arith)

pub four_cases : {A : Type 0} (P : ℕ → A → Type 0) (a b c e d : A) → P 0 a → P 1 b → P 2 c → P 3 e → (l : ℕ) → l < 4 → P l (get_or (a ∷ b ∷ c ∷ e ∷ []) l d)
four_cases P a b c e d p q r s zero h = p
four_cases P a b c e d p q r s (suc zero) h = q
four_cases P a b c e d p q r s (suc (suc zero)) h = r
four_cases P a b c e d p q r s (suc (suc (suc zero))) h = s
four_cases P a b c e d p q r s (suc (suc (suc (suc l)))) h = absurd (omega arith)

module _ {Number : Type 0} (m : Meaning Number) where
  -- the pair read at a place stands for what the place does
  pub read_stands : (v : View) (z : Complex) (xs : List (Number × Number)) (p q : ℕ) (x d : Number × Number) → p ≡ q → p < length xs → x ≡ get_or xs p x → StandsPair m v z (get_or xs q d) → StandsPair m v z x
  read_stands v z xs p q x d e inside is h = subst (StandsPair m v z) (sym (get_or_read xs p x inside is d ∙ ap (λ n. get_or xs n d) e)) h

  -- the factors, entry after entry
  pub one_more : (n first span : ℕ) (w : ℕ → Complex) (before now : List (Number × Number)) (x y : Number × Number) → 0 < span → first + n * span < length now → x ≡ get_or now (first + n * span) x → ((v : View) (z : Complex) → StandsPair m v z x → StandsPair m v (w n ⊗ z) y) → Replaced m n first span (λ z i. w i ⊗ z i) before now → Replaced m (n + 1) first span (λ z i. w i ⊗ z i) before (set now (first + n * span) y)
  one_more n first span w before now x y some inside is weighted h = record { made = made; kept = kept }
    where
      made : (v : View) (d : Number × Number) (z : ℕ → Complex) → ((i : ℕ) → i < n + 1 → StandsPair m v (z i) (get_or before (first + i * span) d)) → (l : ℕ) → l < n + 1 → StandsPair m v (w l ⊗ z l) (get_or (set now (first + n * span) y) (first + l * span) d)
      made v d z stood l less = go (dec_lt l n)
        where
          go : Dec (l < n) → StandsPair m v (w l ⊗ z l) (get_or (set now (first + n * span) y) (first + l * span) d)
          go (yes a) = subst (StandsPair m v (w l ⊗ z l)) (sym (get_or-set_other now (first + n * span) (first + l * span) y d (entries_apart first span l n some a))) (h.made v d z (λ i hi. stood i (omega arith)) l a)
          go (no a) =
              let e : n ≡ l = omega arith in
              let same : get_or now (first + n * span) d ≡ get_or before (first + n * span) d = h.kept (first + n * span) (λ i hi s. entries_apart first span i n some hi (sym s)) d in
              let here : StandsPair m v (w n ⊗ z n) y = weighted v (z n) (read_stands v (z n) now (first + n * span) (first + n * span) x d refl inside is (subst (StandsPair m v (z n)) (sym same) (stood n (omega arith)))) in
              subst (λ j. StandsPair m v (w j ⊗ z j) (get_or (set now (first + n * span) y) (first + j * span) d)) e (subst (StandsPair m v (w n ⊗ z n)) (sym (get_or-set_same now (first + n * span) y d inside)) here)

      kept : (p : ℕ) → ((i : ℕ) → i < n + 1 → p ≡ first + i * span → ⊥) → (d : Number × Number) → get_or (set now (first + n * span) y) p d ≡ get_or before p d
      kept p not d = get_or-set_other now (first + n * span) p y d (not n (omega arith)) ∙ h.kept p (λ i hi e. not i (omega arith) e) d
