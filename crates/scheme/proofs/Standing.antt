-- What stands for what after the calls of a scheme, stated over the meaning alone.
use Rattle.std.proofs.Common.{◌≡◌, ℕ, ◌+◌, ◌/◌, ◌%◌, ◌<◌, true, ℤ, pos, ◌+ℤ◌, ◌-ℤ◌, ◌*ℤ◌, neg_ℤ, sym, ap, ◌∙◌, arith}
use native.Mathlib.Nat.{zero-mod}
use lib.IntN.{zero-*ℤ}
use Rattle.integers.specs.declared.Complex.{Complex}
use Rattle.integers.specs.Complex.{◌⊕◌, ◌⊖◌, ◌⊗◌, ◌⊙◌, quarter_turn_of}
use Rattle.integers.specs.Residue.{residue}
use Rattle.integers.proofs.Ring.{distrib_right, neg_left, one_left}
use Rattle.integers.proofs.Residues.{residue_pos, residue_small, residue_cancels, residue_twice, same_sum, same_opposite, same_difference, same_multiple}
use Rattle.scheme.specs.Meaning.{Meaning, Sound, View, Zero, Sum, Opposite}
use Rattle.scheme.specs.Hidden.{Stands, StandsPair, WellFormed, read, read_pair}

-- ---- one number

module _ {Number : Type 0} (s : Meaning Number) (sound : Sound s) (v : View) where
  some : 0 < s.modulus
  some = omega (arith, sound.least)

  -- a well-formed number stands for what is read in it
  pub stands_itself : (x : Number) → s.wf x ≡ true → Stands s v (read s v x) x
  stands_itself x w = record { wf = w; reads = sym (residue_small (s.reads v x) s.modulus (sound.below v x w)) }

  -- it stands for every number with the same residue
  pub stands_same : (a b : ℤ) (x : Number) → residue a s.modulus ≡ residue b s.modulus → Stands s v a x → Stands s v b x
  stands_same a b x e h = record { wf = h.wf; reads = h.reads ∙ e }

  -- what is read in a number has the residue of what it stands for
  pub read_agrees : (a : ℤ) (x : Number) → Stands s v a x → residue (read s v x) s.modulus ≡ residue a s.modulus
  read_agrees a x h = ap (λ r. residue (pos r) s.modulus) h.reads ∙ residue_twice a s.modulus some

  pub zero_stands : (r : Number) → Zero s r → Stands s v (pos 0) r
  zero_stands r h = record { wf = h.wf; reads = h.reads v ∙ sym (residue_pos 0 s.modulus ∙ zero-mod s.modulus) }

  pub sum_stands : (a b : ℤ) (x y r : Number) → Stands s v a x → Stands s v b y → Sum s x y r → Stands s v (a +ℤ b) r
  sum_stands a b x y r p q h =
      record {
        wf = h.wf;
        reads =
            h.reads v
            ∙ sym (residue_pos (s.reads v x + s.reads v y) s.modulus)
            ∙ same_sum (read s v x) a (read s v y) b s.modulus some (read_agrees a x p) (read_agrees b y q);
      }

  pub opposite_stands : (a : ℤ) (x r : Number) → Stands s v a x → Opposite s x r → Stands s v (neg_ℤ a) r
  opposite_stands a x r p h =
      record {
        wf = h.wf;
        reads =
            residue_cancels (s.reads v x) (s.reads v r) s.modulus (sound.below v r h.wf) (h.cancels v)
            ∙ same_opposite (read s v x) a s.modulus some (read_agrees a x p);
      }

  -- c times what is read in x, for what x stands for
  pub carry_multiple : (c a : ℤ) (x r : Number) → Stands s v a x → Stands s v (c *ℤ read s v x) r → Stands s v (c *ℤ a) r
  carry_multiple c a x r p h = stands_same (c *ℤ read s v x) (c *ℤ a) r (same_multiple c (read s v x) a s.modulus some (read_agrees a x p)) h

  stands_equal : (a b : ℤ) (x : Number) → a ≡ b → Stands s v a x → Stands s v b x
  stands_equal a b x e h = rw e at h

  -- ---- the steps of a multiple by its binary digits

  pub none_stands : (size : ℕ) (x r : Number) → size ≡ 0 → Zero s r → Stands s v (pos size *ℤ read s v x) r
  none_stands size x r e h =
      let z : pos 0 ≡ pos size *ℤ read s v x = rw e (sym (zero-*ℤ (read s v x))) in
      stands_equal (pos 0) (pos size *ℤ read s v x) r z (zero_stands r h)

  pub one_stands : (size : ℕ) (x : Number) → size ≡ 1 → s.wf x ≡ true → Stands s v (pos size *ℤ read s v x) x
  one_stands size x e w =
      let z : read s v x ≡ pos size *ℤ read s v x = rw e (sym (one_left (read s v x))) in
      stands_equal (read s v x) (pos size *ℤ read s v x) x z (stands_itself x w)

  pub even_stands : (size : ℕ) (x y r : Number) → ¬ (size % 2 ≡ 1) → Stands s v (pos (size / 2) *ℤ read s v x) y → Sum s y y r → Stands s v (pos size *ℤ read s v x) r
  even_stands size x y r e p h =
      let z : pos (size / 2) +ℤ pos (size / 2) ≡ pos size = ap pos (omega arith) in
      stands_equal (pos (size / 2) *ℤ read s v x +ℤ pos (size / 2) *ℤ read s v x) (pos size *ℤ read s v x) r
      (sym (distrib_right (pos (size / 2)) (pos (size / 2)) (read s v x)) ∙ ap (λ c. c *ℤ read s v x) z)
      (sum_stands (pos (size / 2) *ℤ read s v x) (pos (size / 2) *ℤ read s v x) y y r p p h)

  pub odd_stands : (size : ℕ) (x y t r : Number) → size % 2 ≡ 1 → s.wf x ≡ true → Stands s v (pos (size / 2) *ℤ read s v x) y → Sum s y y t → Sum s t x r → Stands s v (pos size *ℤ read s v x) r
  odd_stands size x y t r e w p h k =
      let a = pos (size / 2) *ℤ read s v x in
      let z : pos (size / 2) +ℤ pos (size / 2) +ℤ pos 1 ≡ pos size = ap pos (omega arith) in
      stands_equal (a +ℤ a +ℤ read s v x) (pos size *ℤ read s v x) r
      (ap (λ b. a +ℤ a +ℤ b) (sym (one_left (read s v x)))
      ∙ ap (λ b. b +ℤ pos 1 *ℤ read s v x) (sym (distrib_right (pos (size / 2)) (pos (size / 2)) (read s v x)))
      ∙ sym (distrib_right (pos (size / 2) +ℤ pos (size / 2)) (pos 1) (read s v x))
      ∙ ap (λ c. c *ℤ read s v x) z)
      (sum_stands (a +ℤ a) (read s v x) t x r (sum_stands a a y y t p p h) (stands_itself x w) k)

  -- c times x, from the size of c: itself where c is not negative, an opposite where it is
  pub upright_stands : (c : ℤ) (size : ℕ) (x r : Number) → c ≡ pos size → Stands s v (pos size *ℤ read s v x) r → Stands s v (c *ℤ read s v x) r
  upright_stands c size x r e h = rw e h

  pub turned_stands : (c : ℤ) (size : ℕ) (x y r : Number) → c ≡ neg_ℤ (pos size) → Stands s v (pos size *ℤ read s v x) y → Opposite s y r → Stands s v (c *ℤ read s v x) r
  turned_stands c size x y r e h o =
      stands_equal (neg_ℤ (pos size *ℤ read s v x)) (c *ℤ read s v x) r
      (sym (neg_left (pos size) (read s v x)) ∙ ap (λ b. b *ℤ read s v x) (sym e))
      (opposite_stands (pos size *ℤ read s v x) y r h o)

  -- ---- from what is read to what is stood for

  pub difference_stands : (x y o r : Number) → s.wf x ≡ true → s.wf y ≡ true → Opposite s y o → Sum s x o r → Stands s v (read s v x -ℤ read s v y) r
  difference_stands x y o r p q h k =
      sum_stands (read s v x) (neg_ℤ (read s v y)) x o r (stands_itself x p) (opposite_stands (read s v y) y o (stands_itself y q) h) k

  pub carry_sum : (a b : ℤ) (x y r : Number) → Stands s v a x → Stands s v b y → Stands s v (read s v x +ℤ read s v y) r → Stands s v (a +ℤ b) r
  carry_sum a b x y r p q h =
      stands_same (read s v x +ℤ read s v y) (a +ℤ b) r (same_sum (read s v x) a (read s v y) b s.modulus some (read_agrees a x p) (read_agrees b y q)) h

  pub carry_difference : (a b : ℤ) (x y r : Number) → Stands s v a x → Stands s v b y → Stands s v (read s v x -ℤ read s v y) r → Stands s v (a -ℤ b) r
  carry_difference a b x y r p q h =
      stands_same (read s v x -ℤ read s v y) (a -ℤ b) r (same_difference (read s v x) a (read s v y) b s.modulus some (read_agrees a x p) (read_agrees b y q)) h

  -- ---- pairs: from what is read to what is stood for

  pub pair_itself : (p : Number × Number) → WellFormed s p → StandsPair s v (read_pair s v p) p
  pair_itself p w = record { re = stands_itself p.0 w.re; im = stands_itself p.1 w.im }

  pub pair_well_formed : (z : Complex) (p : Number × Number) → StandsPair s v z p → WellFormed s p
  pair_well_formed z p h = record { re = h.re.wf; im = h.im.wf }

  pub carry_pair_sum : (a b : Complex) (p q r : Number × Number) → StandsPair s v a p → StandsPair s v b q → StandsPair s v (read_pair s v p ⊕ read_pair s v q) r → StandsPair s v (a ⊕ b) r
  carry_pair_sum a b p q r f g h =
      record {
        re = carry_sum a.re b.re p.0 q.0 r.0 f.re g.re h.re;
        im = carry_sum a.im b.im p.1 q.1 r.1 f.im g.im h.im;
      }

  pub carry_pair_difference : (a b : Complex) (p q r : Number × Number) → StandsPair s v a p → StandsPair s v b q → StandsPair s v (read_pair s v p ⊖ read_pair s v q) r → StandsPair s v (a ⊖ b) r
  carry_pair_difference a b p q r f g h =
      record {
        re = carry_difference a.re b.re p.0 q.0 r.0 f.re g.re h.re;
        im = carry_difference a.im b.im p.1 q.1 r.1 f.im g.im h.im;
      }

  pub carry_pair_multiple : (c : ℤ) (a : Complex) (p r : Number × Number) → StandsPair s v a p → StandsPair s v (c ⊙ read_pair s v p) r → StandsPair s v (c ⊙ a) r
  carry_pair_multiple c a p r f h =
      record { re = carry_multiple c a.re p.0 r.0 f.re h.re; im = carry_multiple c a.im p.1 r.1 f.im h.im }

  pub carry_pair_product : (w a : Complex) (p r : Number × Number) → StandsPair s v a p → StandsPair s v (w ⊗ read_pair s v p) r → StandsPair s v (w ⊗ a) r
  carry_pair_product w a p r f h =
      record {
        re =
            stands_same (w.re *ℤ x -ℤ w.im *ℤ y) (w.re *ℤ a.re -ℤ w.im *ℤ a.im) r.0
            (same_difference (w.re *ℤ x) (w.re *ℤ a.re) (w.im *ℤ y) (w.im *ℤ a.im) n some (same_multiple w.re x a.re n some e) (same_multiple w.im y a.im n some d))
            h.re;
        im =
            stands_same (w.re *ℤ y +ℤ w.im *ℤ x) (w.re *ℤ a.im +ℤ w.im *ℤ a.re) r.1
            (same_sum (w.re *ℤ y) (w.re *ℤ a.im) (w.im *ℤ x) (w.im *ℤ a.re) n some (same_multiple w.re y a.im n some d) (same_multiple w.im x a.re n some e))
            h.im;
      }
    where
      n : ℕ
      n = s.modulus

      x : ℤ
      x = read s v p.0

      y : ℤ
      y = read s v p.1

      e : residue x n ≡ residue a.re n
      e = read_agrees a.re p.0 f.re

      d : residue y n ≡ residue a.im n
      d = read_agrees a.im p.1 f.im

  pub carry_pair_turn : (a : Complex) (p r : Number × Number) → StandsPair s v a p → StandsPair s v (quarter_turn_of (read_pair s v p)) r → StandsPair s v (quarter_turn_of a) r
  carry_pair_turn a p r f h =
      record {
        re = stands_same (read s v p.1) a.im r.0 (read_agrees a.im p.1 f.im) h.re;
        im = stands_same (neg_ℤ (read s v p.0)) (neg_ℤ a.re) r.1 (same_opposite (read s v p.0) a.re s.modulus some (read_agrees a.re p.0 f.re)) h.im;
      }

  -- ---- what a call owes, as what its answer stands for

  pub sum_reads : (x y r : Number) → s.wf x ≡ true → s.wf y ≡ true → Sum s x y r → Stands s v (read s v x +ℤ read s v y) r
  sum_reads x y r p q h = sum_stands (read s v x) (read s v y) x y r (stands_itself x p) (stands_itself y q) h

  pub opposite_reads : (x r : Number) → s.wf x ≡ true → Opposite s x r → Stands s v (neg_ℤ (read s v x)) r
  opposite_reads x r p h = opposite_stands (read s v x) x r (stands_itself x p) h
