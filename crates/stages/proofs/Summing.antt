-- A direct line, summed product by product.
use Rattle.std.proofs.Common.{◌≡◌, ℕ, ◌+◌, ◌<◌, ◌≤◌, List, length, None, sym, ap, subst, add-one, arith}
use borrow.Author.Differences.{ints}
use Rattle.integers.specs.declared.Complex.{Complex}
use Rattle.integers.specs.Complex.{◌⊕◌}
use Rattle.integers.proofs.ComplexRing.{complex_same}
use Rattle.plan.specs.declared.plan.Plan.{Plan}
use Rattle.scheme.specs.Meaning.{Meaning, Sound, View}
use Rattle.scheme.specs.Hidden.{StandsPair}
use Rattle.lines.specs.Lines.{sum_below, direct_line_of}
use Rattle.stages.specs.Block.{read_at}
use Rattle.stages.specs.Search.{Found}
use Rattle.stages.specs.Direct.{Direct, Samples, term}
use Rattle.stages.proofs.Finishing.{stands_read}

pub sum_first : (f : ℕ → Complex) → f 0 ≡ sum_below 1 f
unfolding sum_below
sum_first f = complex_same {a = (f 0).re} {b = (f 0).im} (omega (arith, ints)) (omega (arith, ints))

pub sum_next : (n : ℕ) (f : ℕ → Complex) → sum_below n f ⊕ f n ≡ sum_below (n + 1) f
unfolding sum_below
sum_next n f = ap (λ k. sum_below k f) (sym (add-one n))

pub sum_direct : (q m n k : ℕ) (x : ℕ → Complex) → n ≡ m → sum_below n (term q m k x) ≡ direct_line_of q m x k
unfolding direct_line_of
sum_direct q m n k x e = ap (λ i. sum_below i (term q m k x)) e

pub summed : {Number : Type 0} (w : Meaning Number) → Sound w → (p : Plan) (k q size : ℕ) (xs : List (Number × Number)) (r : Number × Number) → size ≡ p.size → q ≡ p.twiddle_scale → size ≤ length xs → k < size → Found w xs size None → ((v : View) (x : ℕ → Complex) → Samples w v size x xs → StandsPair w v (direct_line_of q size x k) r) → Direct w p k xs r
summed w lawful p k q size xs r z e long less formed line =
    record {
      long = omega arith;
      place = omega arith;
      formed = formed';
      line = line';
      read = λ v. line' v (read_at w v xs) (λ n h d. stands_read w lawful v xs n d (omega arith) (formed' n h));
    }
  where
    formed' : Found w xs p.size None
    formed' n h = formed n (omega arith)

    line' : (v : View) (x : ℕ → Complex) → Samples w v p.size x xs → StandsPair w v (direct_line_of p.twiddle_scale p.size x k) r
    line' v x h =
        subst (λ c. StandsPair w v (direct_line_of c p.size x k) r) e
        (subst (λ n. StandsPair w v (direct_line_of q n x k) r) z (line v x (λ n i d. h n (omega arith) d)))
