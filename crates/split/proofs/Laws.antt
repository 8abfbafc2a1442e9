-- The calls of the split, from those of the scheme below, stated over the meaning alone.
use Rattle.std.proofs.Common.{◌≡◌, ℕ, ◌+◌, ◌%◌, ◌<◌, ◌≤◌, true, false, [], ◌∷◌, ℤ, pos, ◌+ℤ◌, ◌-ℤ◌, neg_ℤ, nat_abs, sym, ap, ◌∙◌, ap₂, arith, lt-ltb}
use Rattle.std.proofs.lemmas.Bool.{and_parts, and_from}
use native.Mathlib.Nat.{zero-mod}
use borrow.Author.Differences.{ints}
use Rattle.integers.specs.Residue.{residue, half}
use Rattle.integers.proofs.Residues.{sum_of_remainders, residue_sum, residue_small, residue_below, residue_cancels}
use Rattle.scheme.specs.Meaning.{Meaning, Sound, View, Sum, Opposite, Sealed, hides}
use Rattle.scheme.specs.Hidden.{Stands}
use Rattle.split.specs.declared.halves.Halves.{Halves}
use Rattle.split.specs.Shares.{split, SumHalves, OppositeHalves, Masked}

-- (a + b) + (c + d) = (a + c) + (b + d), modulo n and by remainders
crossed : (a b c d n : ℕ) → ((a + b) % n + (c + d) % n) % n ≡ ((a + c) % n + (b + d) % n) % n
crossed a b c d n =
    sum_of_remainders (a + b) (c + d) n ∙ ap (λ x. x % n) (swap a b c d) ∙ sym (sum_of_remainders (a + c) (b + d) n)
  where
    swap : (a b c d : ℕ) → a + b + (c + d) ≡ a + c + (b + d)
    swap a b c d = omega arith

pub sum_splits : {Number : Type 0} (s : Meaning Number) (a b r : Halves Number) → SumHalves s a b r → (split s).wf a ≡ true → (split s).wf b ≡ true → Sum (split s) a b r
sum_splits s a b r h p q = record { wf = and_from (s.wf r.first) (s.wf r.second) one.wf two.wf; reads = go }
  where
    one : Sum s a.first b.first r.first
    one = h.first ((and_parts (s.wf a.first) (s.wf a.second) p).0) ((and_parts (s.wf b.first) (s.wf b.second) q).0)

    two : Sum s a.second b.second r.second
    two = h.second ((and_parts (s.wf a.first) (s.wf a.second) p).1) ((and_parts (s.wf b.first) (s.wf b.second) q).1)

    go : (v : View) → (split s).reads v r ≡ ((split s).reads v a + (split s).reads v b) % s.modulus
    go [] =
        ap₂ (λ x y. (x + y) % s.modulus) (one.reads []) (two.reads [])
        ∙ crossed (hides s a.first) (hides s b.first) (hides s a.second) (hides s b.second) s.modulus
    go (false ∷ v) = one.reads v
    go (true ∷ v) = two.reads v

pub opposite_splits : {Number : Type 0} (s : Meaning Number) (a r : Halves Number) → OppositeHalves s a r → (split s).wf a ≡ true → Opposite (split s) a r
opposite_splits s a r h p = record { wf = and_from (s.wf r.first) (s.wf r.second) one.wf two.wf; cancels = go }
  where
    one : Opposite s a.first r.first
    one = h.first ((and_parts (s.wf a.first) (s.wf a.second) p).0)

    two : Opposite s a.second r.second
    two = h.second ((and_parts (s.wf a.first) (s.wf a.second) p).1)

    go : (v : View) → ((split s).reads v a + (split s).reads v r) % s.modulus ≡ 0
    go [] =
        crossed (hides s a.first) (hides s a.second) (hides s r.first) (hides s r.second) s.modulus
        ∙ ap₂ (λ x y. (x + y) % s.modulus) (one.cancels []) (two.cancels [])
        ∙ zero-mod s.modulus
    go (false ∷ v) = one.cancels v
    go (true ∷ v) = two.cancels v

-- the residue of m, and the residue that brings the sum with the word to 0, added: the residue of m less the word
pub rest_is : (m : ℤ) (word o n : ℕ) → 0 < n → o < n → (word + o) % n ≡ 0 → (residue m n + o) % n ≡ residue (m -ℤ pos word) n
rest_is m word o n z h e = ap (λ x. (residue m n + x) % n) (residue_cancels word o n h e) ∙ sym (residue_sum m (neg_ℤ (pos word)) n z)

pub masked : {Number : Type 0} (s : Meaning Number) → Sound s → (m : ℤ) (word rest : ℕ) (x y : Number) → rest ≡ residue (m -ℤ pos word) s.modulus → word < s.modulus → Stands s [] (pos word) x → Stands s [] (pos rest) y → Masked s m word (record { first = x; second = y })
masked s k m word rest x y e h p q =
    let z : 0 < s.modulus = omega (arith, k.least) in
    let b : rest < s.modulus = rw e (residue_below (m -ℤ pos word) s.modulus z) in
    record { first = p.reads ∙ residue_small word s.modulus h; second = q.reads ∙ residue_small rest s.modulus b ∙ e }

pub seal_splits : {Number : Type 0} (s : Meaning Number) → Sound s → (m : ℤ) (word : ℕ) (x y : Number) → nat_abs m ≤ half s.modulus → word < s.modulus → s.wf x ≡ true → s.wf y ≡ true → Masked s m word (record { first = x; second = y }) → Sealed (split s) m word (record { first = x; second = y })
seal_splits s k m word x y w h p q t =
    let n = s.modulus in
    let z : 0 < n = omega (arith, k.least) in
    let whole : pos word +ℤ (m -ℤ pos word) ≡ m = omega (arith, ints) in
    record {
      within = w;
      taken = lt-ltb word n h;
      wf = and_from (s.wf x) (s.wf y) p q;
      hidden =
          ap₂ (λ a b. (a + b) % n) (t.first ∙ sym (residue_small word n h)) t.second
          ∙ sym (residue_sum (pos word) (m -ℤ pos word) n z)
          ∙ ap (λ a. residue a n) whole;
    }
