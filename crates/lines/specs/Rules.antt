-- The rules of the lines, method by method, as they are stated of a transform; they have one solution.
use Rattle.std.specs.Prelude.{◌≡◌, true, ℕ, zero, suc, ◌+◌, ◌*◌, ◌/◌, ◌<◌, ◌≤◌, pos}
use Rattle.integers.specs.declared.Complex.{Complex}
use Rattle.integers.specs.Complex.{◌⊕◌, ◌⊖◌, ◌⊗◌, real}
use Rattle.circle.specs.Near.{turned}
use Rattle.circle.specs.Twiddle.{twiddle}
use Rattle.plan.specs.declared.method.Method.{Method}
use Rattle.plan.specs.declared.method.Method.TheVariants.{Direct, Radix2, Radix4}
use Rattle.plan.specs.Methods.{sized}
use Rattle.lines.specs.Lines.{sum_below, part, line_of}

-- lines k and k + h are the sum and the difference of a and b
pub record Crossing (lines : ℕ → Complex) (h k : ℕ) (a b : Complex) : Type 0 where
  pub sum : lines k ≡ a ⊕ b
  pub difference : lines (k + h) ≡ a ⊖ b

-- the factor of part i in line k of a radix-4 line from size 16 on: the scale, then twiddles
abbrev pub factor : ℕ → ℕ → ℕ → ℕ → Complex
factor q m k zero = real (pos q)
factor q m k (suc i) = twiddle q (suc i * k * (256 / m))

-- The rules: f gives line k of a method, a size m, a twiddle scale q and samples s.
pub record LineRules (f : Method → ℕ → ℕ → (ℕ → Complex) → ℕ → Complex) : Type 0 where
  -- direct: the sum over n of C(n·k·256/m) s(n)
  pub direct : (m q : ℕ) (s : ℕ → Complex) (k : ℕ) → sized Direct m ≡ true → k < m → f Direct m q s k ≡ sum_below m (λ n. twiddle q (n * k * (256 / m)) ⊗ s n)
  -- radix 2: at size 1 the sample; above, from the lines P of the even and O of the odd samples:
  -- at sizes 2 and 4 the sum and the difference of P(k) and (−j)^k O(k), from size 8 on those of q P(k) and C(k·256/m) O(k)
  pub one : (q : ℕ) (s : ℕ → Complex) → f Radix2 1 q s 0 ≡ s 0
  pub two : (q : ℕ) (s : ℕ → Complex) → Crossing (f Radix2 2 q s) 1 0 (f Radix2 1 q (part 2 0 s) 0) (f Radix2 1 q (part 2 1 s) 0)
  pub four : (q : ℕ) (s : ℕ → Complex) (k : ℕ) → k < 2 → Crossing (f Radix2 4 q s) 2 k (f Radix2 2 q (part 2 0 s) k) (turned k (f Radix2 2 q (part 2 1 s) k))
  pub halved : (m q : ℕ) (s : ℕ → Complex) (k : ℕ) → sized Radix2 m ≡ true → 8 ≤ m → k < m / 2 → Crossing (f Radix2 m q s) (m / 2) k (real (pos q) ⊗ f Radix2 (m / 2) q (part 2 0 s) k) (twiddle q (k * (256 / m)) ⊗ f Radix2 (m / 2) q (part 2 1 s) k)
  -- radix 4: at size 1 the sample; above, from the lines A(i) of the samples with n modulo 4 equal to i, the sum over i of (−j)^(i·l) G A(i)(k),
  -- where at size 4 each G is 1, and from size 16 on G is q for i = 0 and C(i·k·256/m) otherwise
  pub single : (q : ℕ) (s : ℕ → Complex) → f Radix4 1 q s 0 ≡ s 0
  pub quartet : (q : ℕ) (s : ℕ → Complex) (l : ℕ) → l < 4 → f Radix4 4 q s l ≡ sum_below 4 (λ i. turned (i * l) (f Radix4 1 q (part 4 i s) 0))
  pub quartered : (m q : ℕ) (s : ℕ → Complex) (k l : ℕ) → sized Radix4 m ≡ true → 16 ≤ m → k < m / 4 → l < 4 → f Radix4 m q s (k + l * (m / 4)) ≡ sum_below 4 (λ i. turned (i * l) (factor q m k i ⊗ f Radix4 (m / 4) q (part 4 i s) k))

-- The rules hold of the definition, and of nothing else at lawful sizes and lines below the size.
pub record OneTransform : Type 0 where
  pub keeps : LineRules line_of
  pub only : (f : Method → ℕ → ℕ → (ℕ → Complex) → ℕ → Complex) → LineRules f → (k : Method) (m q : ℕ) (s : ℕ → Complex) (j : ℕ) → sized k m ≡ true → j < m → f k m q s j ≡ line_of k m q s j
