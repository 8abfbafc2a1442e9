-- The words of all samples, taken one by one.
use Rattle.std.specs.List.{zip}
use Rattle.std.proofs.Common.{map, ◌≡◌, ℕ, take, length, ◌%◌, ◌^◌, ◌<◌, ◌≤◌, Bool, true, ◌&&◌, List, [], ◌∷◌, refl, ap, ap₂, lt-ltb, eq-eqb, le-leb}
use Rattle.integers.specs.declared.Complex.{Complex}
use Rattle.integers.specs.Modulus.{is_modulus}
use Rattle.secrecy.specs.Masks.{words, words_of}
use Rattle.secrecy.proofs.Blocks.{Pair}

module _ (n : ℕ) (h : Bool) where
  pub words_mapped : (xs : List Pair) (zs : List Complex) → map (λ p. words n h p.1 p.0) (zip xs zs) ≡ words_of n h xs zs
  words_mapped [] zs = refl
  words_mapped (x ∷ xs) [] = refl
  words_mapped (x ∷ xs) (z ∷ zs) = ap (λ (ws : List (ℕ × ℕ)). words n h z x ∷ ws) (words_mapped xs zs)

-- zipping ends with the first list, so the second may be cut to its length
pub zip_take : {A B : Type 0} (xs : List A) (zs : List B) → zip xs (take (length xs) zs) ≡ zip xs zs
zip_take [] zs = refl
zip_take (x ∷ xs) [] = refl
zip_take {A} {B} (x ∷ xs) (z ∷ zs) = ap (λ (ps : List (A × B)). (x, z) ∷ ps) (zip_take xs zs)

pub modulus_lawful : (n : ℕ) → n % 2 ≡ 1 → 3 ≤ n → n < 2 ^ 62 → is_modulus n ≡ true
modulus_lawful n a b c = ap₂ ◌&&◌ (ap₂ ◌&&◌ (eq-eqb (n % 2) 1 a) (le-leb 3 n b)) (lt-ltb n (2 ^ 62) c)
