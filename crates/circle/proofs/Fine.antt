-- The fine twiddles: their rules have exactly one solution; quarter turns, period, sizes and products.
use Rattle.std.proofs.Common.{◌≡◌, ℕ, zero, suc, ◌+◌, ◌*◌, ◌/◌, ◌%◌, ◌^◌, ◌<◌, ◌≤◌, Bool, true, ◌&&◌, leb, pos, ◌-ℤ◌, neg_ℤ, nat_abs, sym, refl, ap, ◌∙◌, arith}
use Rattle.std.proofs.lemmas.Bool.{and_parts, leb-true}
use Rattle.integers.specs.declared.Complex.{Complex}
use Rattle.integers.specs.Complex.{complex, quarter_turn_of, ◌⊗◌}
use Rattle.circle.specs.declared.Point.{Point}
use Rattle.circle.specs.Near.{Near, sizes, multiple, turned}
use Rattle.circle.specs.Circle.{Circle, circle, cosine, sine, point, halved, nearest_root, floor_root}
use Rattle.circle.specs.Fine.{FineTwiddles, FineDetermined, FineProducts, fine}
use Rattle.circle.proofs.Circle as Circles
use Rattle.circle.proofs.Table.{every_at, grid_at}
use Rattle.integers.proofs.ComplexRing.{complex_same}
use Rattle.circle.proofs.Turns.{turned_add, turned_mod, turned_four, turned_mul, mul_turned, multiple_turned, sizes_turned, near_turned}

-- (c, −s) at v
abbrev pub first_quarter : ℕ → Complex
first_quarter v = complex (pos (cosine v)) (neg_ℤ (pos (sine v)))

-- 64·k further on stands what was turned k quarter turns
pub fine_turned : (u k : ℕ) → fine (u + 64 * k) ≡ turned k (fine u)
unfolding fine
fine_turned u k =
    let e : (u + 64 * k) / 64 ≡ k + u / 64 = omega arith in
    let f : (u + 64 * k) % 64 ≡ u % 64 = omega arith in
    let x = first_quarter (u % 64) in
    ap (λ (n : ℕ). turned ((u + 64 * k) / 64 % 4) (first_quarter n)) f ∙ turned_mod ((u + 64 * k) / 64) x ∙ ap (λ (n : ℕ). turned n x) e
    ∙ turned_add k (u / 64) x ∙ ap (turned k) (sym (turned_mod (u / 64) x))

pub fine_turn : (u : ℕ) → fine (u + 64) ≡ quarter_turn_of (fine u)
unfolding turned
fine_turn u = fine_turned u 1

pub fine_period : (u : ℕ) → fine (u + 256) ≡ fine u
fine_period u = fine_turned u 4 ∙ turned_four (fine u)

-- the fine twiddle of the remainder
pub fine_mod : (u : ℕ) → fine (u % 256) ≡ fine u
unfolding fine
fine_mod u =
    let e : u % 256 / 64 % 4 ≡ u / 64 % 4 = omega arith in
    let f : u % 256 % 64 ≡ u % 64 = omega arith in
    ap (λ (n : ℕ). turned n (first_quarter (u % 256 % 64))) e ∙ ap (λ (n : ℕ). turned (u / 64 % 4) (first_quarter n)) f

pub fine_first : (u : ℕ) → u < 64 → fine u ≡ first_quarter u
unfolding fine turned
fine_first u h =
    let e : u / 64 % 4 ≡ 0 = omega arith in
    let f : u % 64 ≡ u = omega arith in
    ap (λ (n : ℕ). turned n (first_quarter (u % 64))) e ∙ ap first_quarter f

-- the fine twiddle at u is one of the first quarter, turned
pub fine_split : (u : ℕ) → fine u ≡ turned (u / 64) (fine (u % 64))
fine_split u = ap fine (omega arith) ∙ fine_turned (u % 64) (u / 64)

pub solves : FineTwiddles cosine sine fine
solves = record { first = fine_first; turn = fine_turn; period = fine_period }

-- any solution is turned as `fine` is
only_turned : (c s : ℕ → ℕ) (f : ℕ → Complex) → FineTwiddles c s f → (k u : ℕ) → f (u + 64 * k) ≡ turned k (f u)
unfolding turned
only_turned c s f p zero u = ap f (omega arith)
only_turned c s f p (suc k) u = ap f (omega arith) ∙ p.turn (u + 64 * k) ∙ ap quarter_turn_of (only_turned c s f p k u)

only_first : (c s : ℕ → ℕ) (f : ℕ → Complex) → Circle c s → FineTwiddles c s f → (u : ℕ) → u < 64 → f u ≡ fine u
only_first c s f q p u h =
    let e : c u ≡ cosine u = (Circles.determined).only_cosine c s q u (omega arith) in
    let g : s u ≡ sine u = (Circles.determined).only_sine c s q u (omega arith) in
    p.first u h ∙ complex_same (ap pos e) (ap (λ (n : ℕ). neg_ℤ (pos n)) g) ∙ sym (fine_first u h)

only : (c s : ℕ → ℕ) (f : ℕ → Complex) → Circle c s → FineTwiddles c s f → (u : ℕ) → f u ≡ fine u
only c s f q p u =
    ap f (omega arith) ∙ only_turned c s f p (u / 64) (u % 64) ∙ ap (turned (u / 64)) (only_first c s f q p (u % 64) (omega arith)) ∙ sym (fine_split u)

pub determined : FineDetermined
determined = record { solves = solves; only = only }

-- the sizes of an entry's components: one computed test of the first quarter, carried on by turns
is_short : Complex → Bool
is_short x = leb (sizes x) (3 * 2 ^ 29)

shorts : (u : ℕ) → u < 64 → is_short (fine u) ≡ true
unfolding is_short fine turned circle point halved nearest_root floor_root
shorts = every_at is_short fine 64 refl

pub fine_sizes : (u : ℕ) → sizes (fine u) ≤ 3 * 2 ^ 29
unfolding is_short
fine_sizes u =
    let h : sizes (fine (u % 64)) ≤ 3 * 2 ^ 29 = leb-true _ _ (shorts (u % 64) (omega arith)) in
    rw (fine_split u, sizes_turned) h

-- the first quarter's twiddle over a point
abbrev pub over : Point → Complex
over p = complex (pos p.cos) (neg_ℤ (pos p.sin))

-- what is turned as often as u stands past the first quarter is the fine twiddle at u
pub fine_found : (u k : ℕ) (p : Point) (x : Complex) → p ≡ circle (u % 64) → u / 64 % 4 ≡ k → x ≡ turned k (over p) → x ≡ fine u
unfolding fine
fine_found u k p x e f g = g ∙ ap (λ (q : Point). turned k (over q)) e ∙ ap (λ (n : ℕ). turned n (first_quarter (u % 64))) (sym f)

pub turned_sizes : (u k : ℕ) (p : Point) (x : Complex) → p ≡ circle (u % 64) → x ≡ turned k (over p) → sizes x ≤ 3 * 2 ^ 29
turned_sizes u k p x e g =
    let h : u % 64 < 64 = omega arith in
    let f : x ≡ turned k (fine (u % 64)) = g ∙ ap (λ (q : Point). turned k (over q)) e ∙ ap (turned k) (sym (fine_first (u % 64) h)) in
    rw (f, sizes_turned) (fine_sizes (u % 64))

-- products: one computed test of the first quarter's pairs, carried on by turns
is_product : Complex → Complex → Complex → Bool
is_product x y z =
    leb (nat_abs ((x ⊗ y).re -ℤ (multiple (2 ^ 30) z).re)) (8 * 2 ^ 30)
    && leb (nat_abs ((x ⊗ y).im -ℤ (multiple (2 ^ 30) z).im)) (8 * 2 ^ 30)

products : (u v : ℕ) → u < 64 → v < 64 → is_product (fine u) (fine v) (fine (u + v)) ≡ true
unfolding is_product fine turned circle point halved nearest_root floor_root
products = grid_at is_product fine 64 128 refl

first_product : (u v : ℕ) → u < 64 → v < 64 → Near (8 * 2 ^ 30) (fine u ⊗ fine v) (multiple (2 ^ 30) (fine (u + v)))
unfolding is_product
first_product u v h k =
    let (re, im) = and_parts _ _ (products u v h k) in record { re = leb-true _ _ re; im = leb-true _ _ im }

pub fine_product : FineProducts
fine_product u v =
    let a = fine (u % 64) in
    let b = fine (v % 64) in
    let j = u / 64 in
    let k = v / 64 in
    let e : fine u ⊗ fine v ≡ turned (j + k) (a ⊗ b) =
    ap (λ (x : Complex). x ⊗ fine v) (fine_split u) ∙ ap (λ (x : Complex). turned j a ⊗ x) (fine_split v) ∙ turned_mul j a (turned k b)
    ∙ ap (turned j) (mul_turned k a b) ∙ sym (turned_add j k (a ⊗ b)) in
    let f : multiple (2 ^ 30) (fine (u + v)) ≡ turned (j + k) (multiple (2 ^ 30) (fine (u % 64 + v % 64))) =
    ap (λ (n : ℕ). multiple (2 ^ 30) (fine n)) (omega arith) ∙ ap (multiple (2 ^ 30)) (fine_turned (u % 64 + v % 64) (j + k)) ∙ multiple_turned (2 ^ 30) (j + k) (fine (u % 64 + v % 64)) in
    rw (e, f) (near_turned (8 * 2 ^ 30) (j + k) _ _ (first_product (u % 64) (v % 64) (omega arith) (omega arith)))
