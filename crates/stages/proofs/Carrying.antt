-- Whatever pairs stand for, the answers of the pair operations stand for the result; the factors of a stage as the code applies them.
use Rattle.std.proofs.Common.{◌≡◌, ℕ, zero, suc, ◌*◌, ◌/◌, ◌<◌, ◌≤◌, ℤ, pos, sym, ap, ◌∙◌, subst, mul-zero, zero-mul, arith}
use Rattle.integers.specs.declared.Complex.{Complex}
use Rattle.integers.specs.Complex.{◌⊕◌, ◌⊖◌, ◌⊗◌, ◌⊙◌, real, quarter_turn_of}
use Rattle.integers.proofs.ComplexRing.{one-⊗, real-⊗, turn_is}
use Rattle.circle.specs.Near.{turned}
use Rattle.circle.specs.Twiddle.{twiddle}
use Rattle.scheme.specs.Meaning.{Meaning, Sound, View}
use Rattle.scheme.specs.Hidden.{StandsPair, WellFormed, read_pair}
use Rattle.scheme.proofs.Standing.{pair_well_formed, carry_pair_sum, carry_pair_difference, carry_pair_multiple, carry_pair_product, carry_pair_turn}
use Rattle.lines.specs.Lines.{weight}
use Rattle.lines.proofs.Butterflies.{weight_first_small, weight_small, weight_first, weight_next}

module _ {Number : Type 0} (m : Meaning Number) (sound : Sound m) where
  pub stands_as : (v : View) (x y : Complex) (p : Number × Number) → x ≡ y → StandsPair m v x p → StandsPair m v y p
  stands_as v x y p e h = subst (λ z. StandsPair m v z p) e h

  wf : (v : View) (z : Complex) (p : Number × Number) → StandsPair m v z p → WellFormed m p
  wf v z p h = pair_well_formed m sound v z p h

  -- what the pair operations promise of an answer r
  abbrev pub Adds : (a b r : Number × Number) → Type 0
  Adds a b r = WellFormed m a → WellFormed m b → (v : View) → StandsPair m v (read_pair m v a ⊕ read_pair m v b) r

  abbrev pub Subtracts : (a b r : Number × Number) → Type 0
  Subtracts a b r = WellFormed m a → WellFormed m b → (v : View) → StandsPair m v (read_pair m v a ⊖ read_pair m v b) r

  abbrev pub Turns : (a r : Number × Number) → Type 0
  Turns a r = WellFormed m a → (v : View) → StandsPair m v (quarter_turn_of (read_pair m v a)) r

  pub carried_sum : (a b r : Number × Number) → Adds a b r → (v : View) (p q : Complex) → StandsPair m v p a → StandsPair m v q b → StandsPair m v (p ⊕ q) r
  carried_sum a b r h v p q f g = carry_pair_sum m sound v p q a b r f g (h (wf v p a f) (wf v q b g) v)

  pub carried_difference : (a b r : Number × Number) → Subtracts a b r → (v : View) (p q : Complex) → StandsPair m v p a → StandsPair m v q b → StandsPair m v (p ⊖ q) r
  carried_difference a b r h v p q f g = carry_pair_difference m sound v p q a b r f g (h (wf v p a f) (wf v q b g) v)

  pub carried_multiple : (c : ℤ) (a r : Number × Number) → (WellFormed m a → (v : View) → StandsPair m v (c ⊙ read_pair m v a) r) → (v : View) (p : Complex) → StandsPair m v p a → StandsPair m v (c ⊙ p) r
  carried_multiple c a r h v p f = carry_pair_multiple m sound v c p a r f (h (wf v p a f) v)

  pub carried_product : (w : Complex) (a r : Number × Number) → (WellFormed m a → (v : View) → StandsPair m v (w ⊗ read_pair m v a) r) → (v : View) (p : Complex) → StandsPair m v p a → StandsPair m v (w ⊗ p) r
  carried_product w a r h v p f = carry_pair_product m sound v w p a r f (h (wf v p a f) v)

  pub carried_turn : (a r : Number × Number) → Turns a r → (v : View) (p : Complex) → StandsPair m v p a → StandsPair m v (quarter_turn_of p) r
  carried_turn a r h v p f = carry_pair_turn m sound v p a r f (h (wf v p a f) v)

-- ---- the factors

pub weight_scale : (q size k : ℕ) (z : Complex) → 4 < size → pos q ⊙ z ≡ weight q size 0 k ⊗ z
weight_scale q size k z h = sym (real-⊗ (pos q) z) ∙ ap (λ w. w ⊗ z) (sym (weight_first q size k h))

pub weight_twiddle : (q size i k : ℕ) → 1 ≤ i → 4 < size → twiddle q (i * k * (256 / size)) ≡ weight q size i k
weight_twiddle q size zero k o h = absurd (omega arith)
weight_twiddle q size (suc i) k o h = sym (weight_next q size i k h)

-- ---- up to size 4 the factors are exact: 1, or −j

weight_exact : (q size i k : ℕ) → size ≤ 4 → turned (i * k * (4 / size)) (real (pos 1)) ≡ weight q size i k
unfolding turned
weight_exact q size zero k h = ap (λ n. turned n (real (pos 1))) (ap (λ n. n * (4 / size)) (zero-mul k) ∙ zero-mul (4 / size)) ∙ sym (weight_first_small q size k h)
weight_exact q size (suc i) k h = sym (weight_small q size i k h)

pub weight_none : (q size i k : ℕ) (z : Complex) → size ≤ 4 → i * k * (4 / size) ≡ 0 → z ≡ weight q size i k ⊗ z
unfolding turned
weight_none q size i k z h e =
    let w : real (pos 1) ≡ weight q size i k = ap (λ n. turned n (real (pos 1))) (sym e) ∙ weight_exact q size i k h in
    sym (one-⊗ z) ∙ ap (λ x. x ⊗ z) w

pub weight_turn : (q size i k : ℕ) (z : Complex) → size ≤ 4 → i * k * (4 / size) ≡ 1 → quarter_turn_of z ≡ weight q size i k ⊗ z
unfolding turned
weight_turn q size i k z h e =
    let w : quarter_turn_of (real (pos 1)) ≡ weight q size i k = ap (λ n. turned n (real (pos 1))) (sym e) ∙ weight_exact q size i k h in
    turn_is z ∙ ap (λ x. x ⊗ z) w

-- part i of lines k: either is 0, or both are 1 at size 4
pub at_most_one : (r span i k : ℕ) → i < r → k < span → r * span ≤ 4 → i * k * (4 / (r * span)) ≤ 1
at_most_one r span zero k hi hk h = omega (arith, zero-mul k, zero-mul (4 / (r * span)))
at_most_one r span (suc i) zero hi hk h = omega (arith, mul-zero (suc i), zero-mul (4 / (r * span)))
at_most_one zero span (suc i) (suc k) hi hk h = absurd (omega arith)
at_most_one (suc zero) span (suc i) (suc k) hi hk h = absurd (omega arith)
at_most_one (suc (suc r)) zero (suc i) (suc k) hi hk h = absurd (omega arith)
at_most_one (suc (suc r)) (suc zero) (suc i) (suc k) hi hk h = absurd (omega arith)
at_most_one (suc (suc zero)) (suc (suc zero)) (suc zero) (suc zero) hi hk h = omega arith
at_most_one (suc (suc zero)) (suc (suc zero)) (suc zero) (suc (suc k)) hi hk h = absurd (omega arith)
at_most_one (suc (suc zero)) (suc (suc zero)) (suc (suc i)) (suc k) hi hk h = absurd (omega arith)
at_most_one (suc (suc zero)) (suc (suc (suc s))) (suc i) (suc k) hi hk h = absurd (omega arith)
at_most_one (suc (suc (suc r))) (suc (suc s)) (suc i) (suc k) hi hk h = absurd (omega arith)
