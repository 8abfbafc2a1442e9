-- The transforms over whole numbers. Samples are s(0), s(1), ..; the lines of a size m are S(0) to S(m − 1), and S(k) is also called line k.
use Rattle.std.specs.Prelude.{cond, ℕ, zero, suc, ◌+◌, ◌*◌, ◌/◌, ◌%◌, ◌^◌, leb, pos}
use Rattle.integers.specs.declared.Complex.{Complex}
use Rattle.integers.specs.Complex.{complex, ◌⊕◌, ◌⊗◌, real}
use Rattle.circle.specs.Near.{turned}
use Rattle.circle.specs.Fine.{fine}
use Rattle.circle.specs.Twiddle.{twiddle}
use Rattle.plan.specs.declared.method.Method.{Method}
use Rattle.plan.specs.declared.method.Method.TheVariants.{Direct, Radix2, Radix4}

-- x(0) + .. + x(n − 1)
unfoldable pub sum_below : ℕ → (ℕ → Complex) → Complex
sum_below zero x = complex (pos 0) (pos 0)
sum_below (suc n) x = sum_below n x ⊕ x n

-- the fine transform X(k): the sum over n of F(n·k·256/m) s(n)
unfoldable pub fine_line_of : ℕ → (ℕ → Complex) → ℕ → Complex
fine_line_of m s k = sum_below m (λ n. fine (n * k * (256 / m)) ⊗ s n)

-- the direct transform with twiddles of scale q: the sum over n of C(n·k·256/m) s(n)
unfoldable pub direct_line_of : ℕ → ℕ → (ℕ → Complex) → ℕ → Complex
direct_line_of q m s k = sum_below m (λ n. twiddle q (n * k * (256 / m)) ⊗ s n)

-- the samples s(n) with n modulo r equal to i
abbrev pub part : ℕ → ℕ → (ℕ → Complex) → ℕ → Complex
part r i s n = s (r * n + i)

-- the factor of part i in line k of size m: exactly 1 or a power of −j up to size 4; above, the scale q for part 0 and a twiddle for the others
unfoldable pub weight : ℕ → ℕ → ℕ → ℕ → Complex
weight q m zero k = cond (leb m 4) (real (pos 1)) (real (pos q))
weight q m (suc i) k =
    let exact = turned (suc i * k * (4 / m)) (real (pos 1)) in
    let rounded = twiddle q (suc i * k * (256 / m)) in
    cond (leb m 4) exact rounded

-- output l of a butterfly of radix r, 2 or 4: the sum over i of (−j)^(i·l·4/r) x(i)
unfoldable pub butterfly : ℕ → (ℕ → Complex) → ℕ → Complex
butterfly r x l = sum_below r (λ i. turned (i * l * (4 / r)) (x i))

-- the butterfly that makes lines k + l·r^t of size r^(t + 1) from the lines k of size r^t of the r parts, x(0) to x(r − 1)
unfoldable pub mix : ℕ → ℕ → ℕ → ℕ → (ℕ → Complex) → ℕ → Complex
mix q r t k x l = butterfly r (λ i. weight q (r ^ suc t) i k ⊗ x i) l

-- line k of size r^t, radix r, twiddle scale q
unfoldable pub radix_line_of : ℕ → ℕ → ℕ → (ℕ → Complex) → ℕ → Complex
radix_line_of q r zero s k = s 0
radix_line_of q r (suc t) s k = mix q r t (k % r ^ t) (λ i. radix_line_of q r t (part r i s) (k % r ^ t)) (k / r ^ t)

-- how often m can be divided by r before it comes to 1, at most d times
unfoldable pub divisions : ℕ → ℕ → ℕ → ℕ
divisions r zero m = 0
divisions r (suc d) m = cond (leb m 1) 0 (suc (divisions r d (m / r)))

-- the number of stages of a method at a size: none for direct lines, else t where the size is r^t
abbrev pub stage_count : Method → ℕ → ℕ
stage_count Direct m = 0
stage_count Radix2 m = divisions 2 8 m
stage_count Radix4 m = divisions 4 8 m

-- line k of a method, a size and a twiddle scale
abbrev pub line_of : Method → ℕ → ℕ → (ℕ → Complex) → ℕ → Complex
line_of Direct m q s k = direct_line_of q m s k
line_of Radix2 m q s k = radix_line_of q 2 (stage_count Radix2 m) s k
line_of Radix4 m q s k = radix_line_of q 4 (stage_count Radix4 m) s k
