-- Mixing modulo n: it depends on residues alone, and the mix of a sum is the sum of the mixes.
use Rattle.std.proofs.Common.{◌≡◌, ℕ, zero, suc, ◌*◌, ◌/◌, ◌^◌, ◌<◌, refl, ap, ◌∙◌, arith}
use borrow.Author.Differences.{ints}
use Rattle.integers.specs.declared.Complex.{Complex}
use Rattle.integers.specs.Complex.{◌⊕◌, ◌⊗◌, quarter_turn_of}
use Rattle.integers.specs.Residue.{residue}
use Rattle.integers.proofs.Residues.{same_sum, same_opposite, same_difference, same_multiple}
use Rattle.integers.proofs.ComplexRing.{complex_same, ⊗-⊕, turn-⊕}
use Rattle.circle.specs.Near.{turned}
use Rattle.lines.specs.Lines.{sum_below, weight, butterfly, mix}
use Rattle.lines.proofs.Butterflies.{sum_same}

-- both components have the same residues modulo n
pub record Agree (n : ℕ) (x y : Complex) : Type 0 where
  pub re : residue x.re n ≡ residue y.re n
  pub im : residue x.im n ≡ residue y.im n

module _ (n : ℕ) (some : 0 < n) where
  agree_sum : (x x' y y' : Complex) → Agree n x x' → Agree n y y' → Agree n (x ⊕ y) (x' ⊕ y')
  agree_sum x x' y y' p q =
      record {
        re = same_sum x.re x'.re y.re y'.re n some p.re q.re;
        im = same_sum x.im x'.im y.im y'.im n some p.im q.im;
      }

  agree_product : (w x y : Complex) → Agree n x y → Agree n (w ⊗ x) (w ⊗ y)
  agree_product w x y p =
      record {
        re = same_difference _ _ _ _ n some (same_multiple w.re x.re y.re n some p.re) (same_multiple w.im x.im y.im n some p.im);
        im = same_sum _ _ _ _ n some (same_multiple w.re x.im y.im n some p.im) (same_multiple w.im x.re y.re n some p.re);
      }

  agree_turned : (k : ℕ) (x y : Complex) → Agree n x y → Agree n (turned k x) (turned k y)
  unfolding turned
  agree_turned zero x y p = p
  agree_turned (suc k) x y p =
      let q = agree_turned k x y p in
      record { re = q.im; im = same_opposite (turned k x).re (turned k y).re n some q.re }

  agree_sums : (r : ℕ) (x y : ℕ → Complex) → ((i : ℕ) → i < r → Agree n (x i) (y i)) → Agree n (sum_below r x) (sum_below r y)
  unfolding sum_below
  agree_sums zero x y f = record { re = refl; im = refl }
  agree_sums (suc r) x y f = agree_sum (sum_below r x) (sum_below r y) (x r) (y r) (agree_sums r x y (λ i l. f i (omega arith))) (f r (omega arith))

  -- what is mixed depends on the residues of the parts alone
  pub agree_mix : (q r t k : ℕ) (x y : ℕ → Complex) (l : ℕ) → ((i : ℕ) → i < r → Agree n (x i) (y i)) → Agree n (mix q r t k x l) (mix q r t k y l)
  unfolding mix butterfly
  agree_mix q r t k x y l f =
      agree_sums r (λ i. turned (i * l * (4 / r)) (weight q (r ^ suc t) i k ⊗ x i)) (λ i. turned (i * l * (4 / r)) (weight q (r ^ suc t) i k ⊗ y i))
      (λ i b. agree_turned (i * l * (4 / r)) (weight q (r ^ suc t) i k ⊗ x i) (weight q (r ^ suc t) i k ⊗ y i) (agree_product (weight q (r ^ suc t) i k) (x i) (y i) (f i b)))

-- (a + b) + (c + d) = (a + c) + (b + d)
middle : (a b c d : Complex) → (a ⊕ b) ⊕ (c ⊕ d) ≡ (a ⊕ c) ⊕ (b ⊕ d)
middle a b c d = complex_same (omega (arith, ints)) (omega (arith, ints))

sum_both : (r : ℕ) (x y : ℕ → Complex) → sum_below r (λ i. x i ⊕ y i) ≡ sum_below r x ⊕ sum_below r y
unfolding sum_below
sum_both zero x y = refl
sum_both (suc r) x y = ap (λ (z : Complex). z ⊕ (x r ⊕ y r)) (sum_both r x y) ∙ middle (sum_below r x) (sum_below r y) (x r) (y r)

turned_sum : (k : ℕ) (x y : Complex) → turned k (x ⊕ y) ≡ turned k x ⊕ turned k y
unfolding turned
turned_sum zero x y = refl
turned_sum (suc k) x y = ap quarter_turn_of (turned_sum k x y) ∙ turn-⊕ (turned k x) (turned k y)

-- the mix of a sum is the sum of the mixes
pub mix_sum : (q r t k : ℕ) (x y : ℕ → Complex) (l : ℕ) → mix q r t k (λ i. x i ⊕ y i) l ≡ mix q r t k x l ⊕ mix q r t k y l
unfolding mix butterfly
mix_sum q r t k x y l =
    sum_same r (λ i. turned (i * l * (4 / r)) (weight q (r ^ suc t) i k ⊗ (x i ⊕ y i))) (λ i. turned (i * l * (4 / r)) (weight q (r ^ suc t) i k ⊗ x i) ⊕ turned (i * l * (4 / r)) (weight q (r ^ suc t) i k ⊗ y i))
    (λ i b. ap (turned (i * l * (4 / r))) (⊗-⊕ (weight q (r ^ suc t) i k) (x i) (y i)) ∙ turned_sum (i * l * (4 / r)) (weight q (r ^ suc t) i k ⊗ x i) (weight q (r ^ suc t) i k ⊗ y i))
    ∙ sum_both r (λ i. turned (i * l * (4 / r)) (weight q (r ^ suc t) i k ⊗ x i)) (λ i. turned (i * l * (4 / r)) (weight q (r ^ suc t) i k ⊗ y i))
