-- Complex whole numbers that agree modulo n, and what blocks read of them.
use Rattle.std.proofs.Common.{◌≡◌, ℕ, zero, suc, ◌*◌, ◌/◌, ◌<◌, List, [], ◌∷◌, length, get_or, ◌*ℤ◌, sym, refl, ap, subst, le_of_suc-le-suc, not-suc-le-zero, arith}
use Rattle.integers.specs.declared.Complex.{Complex}
use Rattle.integers.specs.Complex.{◌⊕◌, ◌⊗◌}
use Rattle.integers.specs.Residue.{residue, centred}
use Rattle.integers.proofs.ComplexRing.{complex_same}
use Rattle.integers.proofs.Residues.{same_sum, same_difference, same_multiple, centred_back}
use Rattle.circle.specs.Twiddle.{twiddle}
use Rattle.lines.specs.Lines.{sum_below, direct_line_of}
use Rattle.lines.specs.Laws.{meant}
use Rattle.scheme.specs.Meaning.{Meaning, Sound}
use Rattle.scheme.specs.Hidden.{StandsPair, WellFormed}
use Rattle.scheme.specs.Sealing.{means_pair}
use Rattle.scheme.proofs.Standing.{read_agrees}
use Rattle.stages.specs.Block.{read_at}
use Rattle.stages.specs.Stage.{entries}
use Rattle.stages.proofs.Blocks.{read_there}

-- both components have the same residue modulo n
pub record Agree (n : ℕ) (x y : Complex) : Type 0 where
  pub re : residue x.re n ≡ residue y.re n
  pub im : residue x.im n ≡ residue y.im n

pub agree_meant : (n : ℕ) (x y : Complex) → Agree n x y → meant n x ≡ meant n y
agree_meant n x y h = complex_same (ap (λ (r : ℕ). centred r n) h.re) (ap (λ (r : ℕ). centred r n) h.im)

agree_sum : (n : ℕ) → 0 < n → (x y z w : Complex) → Agree n x y → Agree n z w → Agree n (x ⊕ z) (y ⊕ w)
agree_sum n some x y z w p q =
    record {
      re = same_sum x.re y.re z.re w.re n some p.re q.re;
      im = same_sum x.im y.im z.im w.im n some p.im q.im;
    }

agree_product : (n : ℕ) → 0 < n → (g x y : Complex) → Agree n x y → Agree n (g ⊗ x) (g ⊗ y)
agree_product n some g x y p =
    record {
      re =
          same_difference (g.re *ℤ x.re) (g.re *ℤ y.re) (g.im *ℤ x.im) (g.im *ℤ y.im) n some
          (same_multiple g.re x.re y.re n some p.re) (same_multiple g.im x.im y.im n some p.im);
      im =
          same_sum (g.re *ℤ x.im) (g.re *ℤ y.im) (g.im *ℤ x.re) (g.im *ℤ y.re) n some
          (same_multiple g.re x.im y.im n some p.im) (same_multiple g.im x.re y.re n some p.re);
    }

agree_sums : (n : ℕ) → 0 < n → (k : ℕ) (x y : ℕ → Complex) → ((i : ℕ) → i < k → Agree n (x i) (y i)) → Agree n (sum_below k x) (sum_below k y)
unfolding sum_below
agree_sums n some zero x y h = record { re = refl; im = refl }
agree_sums n some (suc k) x y h =
    agree_sum n some (sum_below k x) (sum_below k y) (x k) (y k) (agree_sums n some k x y (λ i l. h i (omega arith))) (h k (omega arith))

-- direct lines of samples that agree do so themselves
pub agree_direct : (n : ℕ) → 0 < n → (q size : ℕ) (x y : ℕ → Complex) (k : ℕ) → ((i : ℕ) → i < size → Agree n (x i) (y i)) → Agree n (direct_line_of q size x k) (direct_line_of q size y k)
unfolding direct_line_of
agree_direct n some q size x y k h =
    agree_sums n some size (λ i. twiddle q (i * k * (256 / size)) ⊗ x i) (λ i. twiddle q (i * k * (256 / size)) ⊗ y i)
    (λ i l. agree_product n some (twiddle q (i * k * (256 / size))) (x i) (y i) (h i l))

-- what stands at a place of a list
there : {A : Type 0} (xs : List A) (i : ℕ) → i < length xs → (x : A) × (x ≡ get_or xs i x)
there [] i h = absurd (not-suc-le-zero h)
there (x ∷ xs) zero h = (x, refl)
there (x ∷ xs) (suc i) h = there xs i (le_of_suc-le-suc h)

module _ {N : Type 0} (m : Meaning N) (ok : Sound m) where
  pub some : 0 < m.modulus
  some = omega (arith, ok.least)

  -- a well-formed pair stands for what it means
  pub stands_meant : (p : N × N) → WellFormed m p → StandsPair m [] (means_pair m p) p
  stands_meant p w =
      record {
        re = record { wf = w.re; reads = sym (centred_back (m.reads [] p.0) m.modulus (ok.below [] p.0 w.re)) };
        im = record { wf = w.im; reads = sym (centred_back (m.reads [] p.1) m.modulus (ok.below [] p.1 w.im)) };
      }

  -- what is read at a place agrees with what the place stands for
  pub read_stands : (xs : List (N × N)) (i : ℕ) (z : Complex) → i < length xs → ((d : N × N) → StandsPair m [] z (entries d xs i)) → Agree m.modulus (read_at m [] xs i) z
  read_stands xs i z h stands =
      let (p, e) = there xs i h in
      let w : StandsPair m [] z p = subst (λ (x : N × N). StandsPair m [] z x) (sym e) (stands p) in
      subst (λ (x : Complex). Agree m.modulus x z) (sym (read_there m [] xs i p h e))
      (record { re = read_agrees m ok [] z.re p.0 w.re; im = read_agrees m ok [] z.im p.1 w.im })
