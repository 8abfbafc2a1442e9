-- Blocks, place by place.
use Rattle.std.proofs.Common.{◌≡◌, ℕ, ◌<◌, ◌≤◌, Bool, true, false, ◌&&◌, List, map, take, length, get_or, pos, Some, None, Ok, Err, Option, Result, sym, refl, ap, ◌∙◌, subst, arith, length-take}
use Rattle.std.proofs.lemmas.List.{get_or_default, get_or_past, get_or-map, get_or-take, length-map, take-map}
use borrow.Author.Tests.{clash}
use Rattle.integers.specs.Complex.{complex}
use Rattle.scheme.specs.Meaning.{Meaning, View}
use Rattle.scheme.specs.Hidden.{read_pair}
use Rattle.refusal.specs.declared.kinds.Refusal.{Refusal}
use Rattle.stages.specs.Block.{is_well_formed_at, read_at}
use Rattle.stages.specs.Search.{Found, Tested}
use Rattle.scheme.specs.Hidden.{well_formed}

-- within a block the default does not count
pub entry_itself : {A : Type 0} (xs : List A) (i : ℕ) (d : A) → i < length xs → get_or xs i d ≡ get_or xs i (get_or xs i d)
entry_itself xs i d h = get_or_default xs i d (get_or xs i d) h

pub both_true : (a b : Bool) → a && b ≡ true → (a ≡ true) × (b ≡ true)
both_true true b h = (refl, h)
both_true false b h = absurd (clash h)

-- both hold
pub both : {a b c d : Bool} → a ≡ c → b ≡ d → a && b ≡ c && d
both {a} {b} {c} {d} p q = rw (p, q)

module _ {Number : Type 0} (m : Meaning Number) where
  pub sound_past : (xs : List (Number × Number)) (i : ℕ) → length xs ≤ i → is_well_formed_at m xs i ≡ false
  unfolding is_well_formed_at
  sound_past xs i h = get_or_past (map (well_formed m) xs) i false (omega (arith, length-map xs (well_formed m)))

  pub sound_there : (xs : List (Number × Number)) (i : ℕ) (p : Number × Number) → i < length xs → p ≡ get_or xs i p → is_well_formed_at m xs i ≡ well_formed m p
  unfolding is_well_formed_at
  sound_there xs i p h r = get_or-map (well_formed m) xs i p false h ∙ ap (well_formed m) (sym r)

  -- a place among the first n, which are cut off
  pub sound_cut : (n : ℕ) (xs : List (Number × Number)) (i : ℕ) → i < n → is_well_formed_at m (take n xs) i ≡ is_well_formed_at m xs i
  unfolding is_well_formed_at
  sound_cut n xs i h = ap (λ (l : List Bool). get_or l i false) (sym (take-map (well_formed m) n xs)) ∙ get_or-take n (map (well_formed m) xs) i false h

  -- what is found among the first n places, cut off, is found in the block
  pub found_cut : (n : ℕ) (xs : List (Number × Number)) (o : Option ℕ) → Found m (take n xs) n o → Found m xs n o
  found_cut n xs None h = λ k l. sym (sound_cut n xs k l) ∙ h k l
  found_cut n xs (Some i) h = (h.0, sym (sound_cut n xs i h.0) ∙ h.1, λ k l. sym (sound_cut n xs k (omega (arith, h.0))) ∙ h.2 k l)

  pub tested_cut : (n : ℕ) (xs ys : List (Number × Number)) (r : Result (Unit {0}) Refusal) → n ≤ length xs → ys ≡ take n xs → Tested m ys (length ys) r → Tested m xs n r
  tested_cut n xs ys r long is h =
      let l : length (take n xs) ≡ n = omega (arith, length-take n xs) in
      let t : Tested m (take n xs) n r = subst (λ (k : ℕ). Tested m (take n xs) k r) l (subst (λ (y : List (Number × Number)). Tested m y (length y) r) is h) in
      cut r t
    where
      cut : (r : Result (Unit {0}) Refusal) → Tested m (take n xs) n r → Tested m xs n r
      cut (Ok u) t = found_cut n xs None t
      cut (Err x) t = (t.0, t.1, found_cut n xs (Some t.0) t.2)

  pub read_there : (v : View) (xs : List (Number × Number)) (i : ℕ) (p : Number × Number) → i < length xs → p ≡ get_or xs i p → read_at m v xs i ≡ read_pair m v p
  unfolding read_at
  read_there v xs i p h r = get_or-map (read_pair m v) xs i p (complex (pos 0) (pos 0)) h ∙ ap (read_pair m v) (sym r)
