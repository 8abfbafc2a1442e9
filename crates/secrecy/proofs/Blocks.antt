-- Blocks that a house cannot tell apart: at every place its halves are equal, and the pairs are both well formed or both not.
use Rattle.std.proofs.Common.{◌≡◌, ℕ, zero, suc, ◌+◌, ◌<◌, ◌≤◌, Bool, true, false, cond, List, [], ◌∷◌, map, length, get_or, set, Some, None, Option, sym, refl, ap, ◌∙◌, ap₂, arith, ext_get_or}
use Rattle.std.proofs.lemmas.List.{length-map, map-set}
use Rattle.std.proofs.lemmas.Simd.{map-map}
use borrow.Author.Tests.{clash}
use lib.ListN.{get_or-map}
use Rattle.scheme.specs.Meaning.{Meaning}
use Rattle.plain.specs.Residues.{residues}
use Rattle.split.specs.declared.halves.Halves.{Halves}
use Rattle.split.specs.Shares.{split}
use Rattle.scheme.specs.Hidden.{well_formed}
use Rattle.stages.specs.Block.{is_well_formed_at}
use Rattle.states.specs.Step.{Pairs, first_malformed_place, malformed_from}
use Rattle.states.proofs.Declining.{unless_none}
use Rattle.secrecy.specs.Secrecy.{halves}

abbrev pub Pair : Type 0
Pair = Halves ℕ × Halves ℕ

-- the meaning of the split over the residues modulo n
abbrev pub shares : ℕ → Meaning (Halves ℕ)
shares n = split (residues n)

-- what a house holds of a pair, and whether the pair is well formed
abbrev pub Known : Type 0
Known = (ℕ × ℕ) × Bool

abbrev pub known : ℕ → Bool → Pair → Known
known n h x = (halves h x, well_formed (shares n) x)

-- for the house h the blocks are alike
abbrev pub Alike : ℕ → Bool → Pairs (Halves ℕ) → Pairs (Halves ℕ) → Type 0
Alike n h xs ys = map (known n h) xs ≡ map (known n h) ys

module _ (n : ℕ) (h : Bool) where
  pub alike_length : (xs ys : Pairs (Halves ℕ)) → Alike n h xs ys → length xs ≡ length ys
  alike_length xs ys e = sym (length-map xs (known n h)) ∙ ap length e ∙ length-map ys (known n h)

  pub alike_held : (xs ys : Pairs (Halves ℕ)) → Alike n h xs ys → map (halves h) xs ≡ map (halves h) ys
  alike_held xs ys e = sym (map-map (λ (k : Known). k.0) (known n h) xs) ∙ ap (map (λ (k : Known). k.0)) e ∙ map-map (λ (k : Known). k.0) (known n h) ys

  pub alike_formed : (xs ys : Pairs (Halves ℕ)) → Alike n h xs ys → (i : ℕ) → is_well_formed_at (shares n) xs i ≡ is_well_formed_at (shares n) ys i
  unfolding is_well_formed_at
  alike_formed xs ys e i =
      ap (λ (bs : List Bool). get_or bs i false)
      (sym (map-map (λ (k : Known). k.1) (known n h) xs) ∙ ap (map (λ (k : Known). k.1)) e ∙ map-map (λ (k : Known). k.1) (known n h) ys)

  pub alike_at : (xs ys : Pairs (Halves ℕ)) → Alike n h xs ys → (i : ℕ) (d : Pair) → known n h (get_or xs i d) ≡ known n h (get_or ys i d)
  alike_at xs ys e i d =
      sym (get_or-map (known n h) xs i d) ∙ ap (λ (ks : List Known). get_or ks i (known n h d)) e ∙ get_or-map (known n h) ys i d

  pub alike_of : (xs ys : Pairs (Halves ℕ)) (d : Pair) → length xs ≡ length ys → ((i : ℕ) → i < length xs → known n h (get_or xs i d) ≡ known n h (get_or ys i d)) → Alike n h xs ys
  alike_of xs ys d e f =
      ext_get_or (known n h d) (map (known n h) xs) (map (known n h) ys) (length-map xs (known n h) ∙ e ∙ sym (length-map ys (known n h)))
      (λ i b. let c : i < length xs = omega (arith, length-map xs (known n h)) in get_or-map (known n h) xs i d ∙ f i c ∙ sym (get_or-map (known n h) ys i d))

  pub alike_set : (xs ys : Pairs (Halves ℕ)) (i : ℕ) (x y : Pair) → Alike n h xs ys → known n h x ≡ known n h y → Alike n h (set xs i x) (set ys i y)
  alike_set xs ys i x y e k =
      map-set (known n h) xs i x ∙ ap₂ (λ (ks : List Known) (z : Known). set ks i z) e k ∙ sym (map-set (known n h) ys i y)

  alike_from : (xs ys : Pairs (Halves ℕ)) → Alike n h xs ys → (i k : ℕ) → malformed_from (shares n) xs i k ≡ malformed_from (shares n) ys i k
  alike_from xs ys e i zero = refl
  alike_from xs ys e i (suc k) =
      ap₂ (λ (b : Bool) (later : Option ℕ). cond b later (Some i)) (alike_formed xs ys e i) (alike_from xs ys e (suc i) k)

  pub alike_malformed : (xs ys : Pairs (Halves ℕ)) → Alike n h xs ys → (k : ℕ) → first_malformed_place (shares n) xs k ≡ first_malformed_place (shares n) ys k
  unfolding first_malformed_place
  alike_malformed xs ys e k = alike_from xs ys e 0 k

-- where no place below k is malformed, each of them is well formed
module _ (m : Meaning (Halves ℕ)) where
  formed_from : (xs : Pairs (Halves ℕ)) (k i j : ℕ) → malformed_from m xs i k ≡ None → i ≤ j → j < i + k → is_well_formed_at m xs j ≡ true
  formed_from xs zero i j e a b = absurd (omega arith)
  formed_from xs (suc k) i j e a b =
      let later = malformed_from m xs (suc i) k in
      elim (native.Mathlib.Decide.dec_le (suc i) j) [
        | yes g ↦ formed_from xs k (suc i) j (unless_none (is_well_formed_at m xs i) i later e).1 g (omega arith)
        | no g ↦ let q : i ≡ j = omega arith in rw (← q) (unless_none (is_well_formed_at m xs i) i later e).0
      ]

  pub formed_below : (xs : Pairs (Halves ℕ)) (k : ℕ) → first_malformed_place m xs k ≡ None → (j : ℕ) → j < k → is_well_formed_at m xs j ≡ true
  unfolding first_malformed_place
  formed_below xs k e j b = formed_from xs k 0 j e (omega arith) (omega arith)

  pub formed_entry : (xs : Pairs (Halves ℕ)) (i : ℕ) → is_well_formed_at m xs i ≡ true → (d : Pair) → well_formed m (get_or xs i d) ≡ true
  unfolding is_well_formed_at
  formed_entry [] i e d = absurd (clash e)
  formed_entry (x ∷ xs) zero e d = e
  formed_entry (x ∷ xs) (suc i) e d = formed_entry xs i e d

  pub formed_within : (xs : Pairs (Halves ℕ)) (i : ℕ) → is_well_formed_at m xs i ≡ true → i < length xs
  unfolding is_well_formed_at
  formed_within [] i e = absurd (clash e)
  formed_within (x ∷ xs) zero e = omega arith
  formed_within (x ∷ xs) (suc i) e = omega (arith, formed_within xs i e)
