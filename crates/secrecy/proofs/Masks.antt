-- The mask words: they are taken, the second samples can be sealed with them, and the house's half comes out the same.
use Rattle.std.proofs.Common.{◌≡◌, ℕ, zero, suc, ◌+◌, ◌*◌, ◌/◌, ◌%◌, ◌^◌, ◌<◌, ◌≤◌, Bool, true, false, cond, ◌&&◌, eqb, ltb, leb, [], ◌∷◌, ℤ, pos, ◌-ℤ◌, nat_abs, sym, refl, ap, ◌∙◌, ap₂, suc-mul, mul_comm, arith, ltb-true, lt-ltb, eqb-true, leb-false, leb-true}
use borrow.Author.Differences.{ints}
use Rattle.integers.specs.declared.Complex.{Complex}
use Rattle.integers.specs.Modulus.{is_modulus}
use Rattle.integers.specs.Residue.{residue, half as bound}
use Rattle.integers.proofs.Residues.{residue_below, residue_small, residue_twice, same_difference}
use Rattle.circle.specs.Spread.{spread}
use Rattle.plan.specs.declared.method.Method.{Method}
use Rattle.plan.specs.declared.method.Method.TheVariants.{Direct, Radix2, Radix4}
use Rattle.plan.specs.Methods.{sized, base, sizes, rounding}
use Rattle.plan.specs.Meaning.{figures_of, least_modulus_of, radix, growth, exact, stage}
use Rattle.plan.proofs.Powers.{carried}
use Rattle.lines.specs.Laws.{Within}
use Rattle.scheme.specs.Meaning.{Meaning, Sound, View}
use Rattle.plain.specs.Residues.{residues}
use Rattle.split.specs.declared.halves.Halves.{Halves}
use Rattle.split.proofs.Laws.{seal_splits}
use Rattle.scheme.specs.Hidden.{well_formed}
use Rattle.secrecy.specs.Secrecy.{half, hidden, hidden_pair, SealedAs}
use Rattle.secrecy.specs.Masks.{word, words}
use Rattle.secrecy.proofs.Blocks.{Pair, shares, known}
use Rattle.secrecy.proofs.Stages.{and_first, and_second}

-- ---- the modulus

module _ (n : ℕ) (modulus : is_modulus n ≡ true) where
  front : eqb (n % 2) 1 && leb 3 n ≡ true
  front = and_first (eqb (n % 2) 1 && leb 3 n) (ltb n (2 ^ 62)) modulus

  odd : n % 2 ≡ 1
  odd = eqb-true (n % 2) 1 (and_first (eqb (n % 2) 1) (leb 3 n) front)

  least : 3 ≤ n
  least = leb-true 3 n (and_second (eqb (n % 2) 1) (leb 3 n) front)

  most : n < 2 ^ 62
  most = ltb-true n (2 ^ 62) (and_second (eqb (n % 2) 1 && leb 3 n) (ltb n (2 ^ 62)) modulus)

  pub plain_sound : Sound (residues n)
  plain_sound = record { odd = odd; least = least; most = omega (arith, most); one = lt-ltb 1 n (omega (arith, least)); below = λ v x w. ltb-true x n w }

  pub positive : 0 < n
  positive = omega (arith, least)

  pub split_sound : Sound (shares n)
  split_sound = record { odd = odd; least = least; most = omega (arith, most); one = lt-ltb 1 n (omega (arith, least)); below = go }
    where
      go : (v : View) (x : Halves ℕ) → (shares n).wf x ≡ true → (shares n).reads v x < n
      go [] x w = native.Mathlib.Nat.mod-lt (x.first + x.second) positive
      go (false ∷ v) x w = ltb-true x.first n (and_first (ltb x.first n) (ltb x.second n) w)
      go (true ∷ v) x w = ltb-true x.second n (and_second (ltb x.first n) (ltb x.second n) w)

  -- ---- one word

  module _ (z : ℤ) (x : Halves ℕ) (formed : (shares n).wf x ≡ true) where
    pub word_below : (h : Bool) → word n h z x < n
    word_below false = ltb-true x.first n (and_first (ltb x.first n) (ltb x.second n) formed)
    word_below true = residue_below (z -ℤ pos x.second) n positive

    -- z less (z less y) is y
    back : (y : ℕ) → y < n → residue (z -ℤ pos (residue (z -ℤ pos y) n)) n ≡ y
    back y b =
        let e : z -ℤ (z -ℤ pos y) ≡ pos y = omega (arith, ints) in
        same_difference z z (pos (residue (z -ℤ pos y) n)) (z -ℤ pos y) n positive refl (residue_twice (z -ℤ pos y) n positive)
        ∙ ap (λ (a : ℤ). residue a n) e ∙ residue_small y n b

    pub word_half : (h : Bool) → half h (hidden n z (word n h z x)) ≡ half h x
    word_half false = refl
    word_half true = back x.second (ltb-true x.second n (and_second (ltb x.first n) (ltb x.second n) formed))

  hidden_formed : (z : ℤ) (w : ℕ) → w < n → (shares n).wf (hidden n z w) ≡ true
  hidden_formed z w b = rw (lt-ltb w n b, lt-ltb (residue (z -ℤ pos w) n) n (residue_below (z -ℤ pos w) n positive)) refl

  -- a well-formed pair, and the second sample under its words, are the same to the house
  pub words_known : (h : Bool) (z : Complex) (x : Pair) → well_formed (shares n) x ≡ true → known n h x ≡ known n h (hidden_pair n z (words n h z x))
  words_known h z x s =
      let p = and_first ((shares n).wf x.0) ((shares n).wf x.1) s in
      let q = and_second ((shares n).wf x.0) ((shares n).wf x.1) s in
      let e = sym (word_half z.re x.0 p h) in
      let f = sym (word_half z.im x.1 q h) in
      let a = hidden_formed z.re (word n h z.re x.0) (word_below z.re x.0 p h) in
      let b = hidden_formed z.im (word n h z.im x.1) (word_below z.im x.1 q h) in
      let g : well_formed (shares n) x ≡ well_formed (shares n) (hidden_pair n z (words n h z x)) = s ∙ sym (ap₂ ◌&&◌ a b) in
      λ j. ((e j, f j), g j)

  -- within the limit and half of the modulus, a sample is sealed with words below n
  pub sealed_as : (limit : ℕ) (z : Complex) (w : ℕ × ℕ) → Within limit z → limit ≤ bound n → w.0 < n → w.1 < n → SealedAs n limit z w
  sealed_as limit z w i l a b =
      record {
        pair = record {
          re = record { limited = i.re; sealed = one z.re w.0 i.re a };
          im = record { limited = i.im; sealed = one z.im w.1 i.im b };
        };
        re = record { first = refl; second = refl };
        im = record { first = refl; second = refl };
      }
    where
      one : (y : ℤ) (v : ℕ) → nat_abs y ≤ limit → v < n → Rattle.scheme.specs.Meaning.Sealed (shares n) y v (hidden n y v)
      one y v c d =
          seal_splits (residues n) plain_sound y v v (residue (y -ℤ pos v) n) (omega arith) d (lt-ltb v n d)
          (lt-ltb (residue (y -ℤ pos v) n) n (residue_below (y -ℤ pos v) n positive)) (record { first = refl; second = refl })

-- ---- the sample scale of a plan that fits is within half of the modulus

times_more : (g b : ℕ) → 1 ≤ g → b ≤ g * b
times_more zero b h = absurd (omega arith)
times_more (suc g) b h = rw suc-mul (omega arith)

part_positive : (k : Method) (m : ℕ) → 4 < m → 1 ≤ m / base k
part_positive Direct m h = omega arith
part_positive Radix2 m h = omega arith
part_positive Radix4 m h = omega arith

growth_positive : (k : Method) (q2 : ℕ) → 1 ≤ growth k q2
growth_positive Direct q2 = omega arith
growth_positive Radix2 q2 = omega arith
growth_positive Radix4 q2 = omega arith

radix_bounds : (k : Method) (d m q1 q2 : ℕ) → 1 ≤ m → q1 ≤ (radix k d m q1 q2).bound
unfolding radix
radix_bounds k zero m q1 q2 h = times_more m q1 h
radix_bounds k (suc d) m q1 q2 h = go (leb m 4) refl (λ l. radix_bounds k d (m / base k) q1 q2 (part_positive k m l))
  where
    go : (b : Bool) → leb m 4 ≡ b → (4 < m → q1 ≤ (radix k d (m / base k) q1 q2).bound) → q1 ≤ (cond b (exact m q1) (stage (growth k q2) (rounding k m) q1 q2 (radix k d (m / base k) q1 q2))).bound
    go true e f = times_more m q1 h
    go false e f =
        let l : 4 < m = leb-false m 4 e in
        omega (arith, f l, times_more (growth k q2) (radix k d (m / base k) q1 q2).bound (growth_positive k q2))

size_positive : (k : Method) (m : ℕ) → sized k m ≡ true → 1 ≤ m
size_positive Direct = carried (λ n. 1 ≤ n) (sizes Direct) (omega arith)
size_positive Radix2 = carried (λ n. 1 ≤ n) (sizes Radix2) (omega arith)
size_positive Radix4 = carried (λ n. 1 ≤ n) (sizes Radix4) (omega arith)

pub scale_bounded : (k : Method) (m q1 q2 : ℕ) → sized k m ≡ true → q1 ≤ (figures_of k m q1 q2).bound
scale_bounded Direct m q1 q2 s =
    let a = times_more m q1 (size_positive Direct m s) in
    let b = times_more (spread q2) (m * q1) (omega arith) in
    rw (mul_comm (m * q1) (spread q2)) (omega arith)
scale_bounded Radix2 m q1 q2 s = radix_bounds Radix2 6 m q1 q2 (size_positive Radix2 m s)
scale_bounded Radix4 m q1 q2 s = radix_bounds Radix4 6 m q1 q2 (size_positive Radix4 m s)

pub scale_sealed : (k : Method) (m q1 q2 n : ℕ) → sized k m ≡ true → least_modulus_of (figures_of k m q1 q2) ≤ n → q1 ≤ bound n
scale_sealed k m q1 q2 n s f = let b = scale_bounded k m q1 q2 s in omega arith
