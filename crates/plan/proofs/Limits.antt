-- No figure of a lawful plan passes what 128 bits hold: figures grow with the scales, and at the largest scales they are computed.
use Rattle.std.proofs.Common.{◌≡◌, ℕ, zero, suc, ◌+◌, ◌*◌, ◌/◌, ◌^◌, ◌<◌, ◌≤◌, Bool, true, false, cond, T, ltb, leb, le_trans, le_refl, lt_of_lt_of_le, lt_of_le_of_lt, add-le-add, mul-le-mul, arith, lit<, ltb→lt, leb→le, Fits}
use mir.Syntax.{w128}
use Rattle.std.proofs.lemmas.Nat.{mul-lt}
use Rattle.circle.specs.Spread.{spread}
use Rattle.plan.specs.declared.method.Method.{Method}
use Rattle.plan.specs.declared.method.Method.TheVariants.{Direct, Radix2, Radix4}
use Rattle.plan.specs.declared.figures.Figures.{Figures}
use Rattle.plan.specs.Methods.{sizes, sized, base, rounding}
use Rattle.plan.specs.Meaning.{directly, exact, stage, growth, radix, figures_of, Representable}
use Rattle.plan.proofs.Powers.{carried, at_most_256}

-- no figure of f passes that of g
pub record Under (f g : Figures) : Type 0 where
  pub scale : f.scale ≤ g.scale
  pub bound : f.bound ≤ g.bound
  pub distance : f.distance ≤ g.distance

spread_grows : (q r : ℕ) → q ≤ r → spread q ≤ spread r
spread_grows q r h = omega arith

growth_grows : (k : Method) (q r : ℕ) → q ≤ r → growth k q ≤ growth k r
growth_grows Direct q r h = omega arith
growth_grows Radix2 q r h = omega arith
growth_grows Radix4 q r h = add-le-add h (mul-le-mul (le_refl 3) (spread_grows q r h))

exact_grows : (m q r : ℕ) → q ≤ r → Under (exact m q) (exact m r)
exact_grows m q r h = record { scale = le_refl 1; bound = mul-le-mul (le_refl m) h; distance = le_refl 0 }

stage_grows : (g h w q1 r1 q2 r2 : ℕ) (e f : Figures) → g ≤ h → q1 ≤ r1 → q2 ≤ r2 → Under e f → Under (stage g w q1 q2 e) (stage h w r1 r2 f)
stage_grows g h w q1 r1 q2 r2 e f a b c u =
    let x : g * e.distance ≤ h * f.distance = mul-le-mul a u.distance in
    let y : e.scale * w * q1 ≤ f.scale * w * r1 = mul-le-mul (mul-le-mul u.scale (le_refl w)) b in
    record { scale = mul-le-mul c u.scale; bound = mul-le-mul a u.bound; distance = omega arith }

either_grows : (b : Bool) (d e f g : Figures) → Under d f → Under e g → Under (cond b d e) (cond b f g)
either_grows true d e f g u v = u
either_grows false d e f g u v = v

radix_grows : (k : Method) (d m q1 r1 q2 r2 : ℕ) → q1 ≤ r1 → q2 ≤ r2 → Under (radix k d m q1 q2) (radix k d m r1 r2)
unfolding radix
radix_grows k zero m q1 r1 q2 r2 a b = exact_grows m q1 r1 a
radix_grows k (suc d) m q1 r1 q2 r2 a b =
    either_grows (leb m 4) _ _ _ _ (exact_grows m q1 r1 a)
    (stage_grows _ _ (rounding k m) q1 r1 q2 r2 _ _ (growth_grows k q2 r2 b) a b (radix_grows k d (m / base k) q1 r1 q2 r2 a b))

-- small enough for a stage on top
pub record Limited (f : Figures) : Type 0 where
  pub scale : f.scale < 2 ^ 76
  pub bound : f.bound < 2 ^ 100
  pub distance : f.distance < 2 ^ 103

limited_under : (f g : Figures) → Under f g → Limited g → Limited f
limited_under f g u l = record {
  scale = lt_of_le_of_lt u.scale l.scale;
  bound = lt_of_le_of_lt u.bound l.bound;
  distance = lt_of_le_of_lt u.distance l.distance;
}

-- the figures of the size below n, at the largest scales
abbrev LargestAt : Method → ℕ → Type 0
LargestAt k n = Limited (radix k 6 (n / base k) 32767 32768)

computed : (f : Figures) → T (ltb f.scale (2 ^ 76)) → T (ltb f.bound (2 ^ 100)) → T (ltb f.distance (2 ^ 103)) → Limited f
computed f a b c = record { scale = ltb→lt _ _ a; bound = ltb→lt _ _ b; distance = ltb→lt _ _ c }

largest : (k : Method) (m : ℕ) → sized k m ≡ true → LargestAt k m
unfolding radix
largest Direct = carried (LargestAt Direct) (sizes Direct) (computed _ tt tt tt, (computed _ tt tt tt, (computed _ tt tt tt, (computed _ tt tt tt, (computed _ tt tt tt, (computed _ tt tt tt, (computed _ tt tt tt, (computed _ tt tt tt, (computed _ tt tt tt, tt)))))))))
largest Radix2 = carried (LargestAt Radix2) (sizes Radix2) (computed _ tt tt tt, (computed _ tt tt tt, (computed _ tt tt tt, (computed _ tt tt tt, (computed _ tt tt tt, (computed _ tt tt tt, (computed _ tt tt tt, (computed _ tt tt tt, (computed _ tt tt tt, tt)))))))))
largest Radix4 = carried (LargestAt Radix4) (sizes Radix4) (computed _ tt tt tt, (computed _ tt tt tt, (computed _ tt tt tt, (computed _ tt tt tt, (computed _ tt tt tt, tt)))))

pub growth_limited : (k : Method) (q : ℕ) → q ≤ 32768 → growth k q < 2 ^ 18
growth_limited k q h = lt_of_le_of_lt (growth_grows k q 32768 h) (at k)
  where
    at : (k : Method) → growth k 32768 < 2 ^ 18
    at Direct = lit< tt
    at Radix2 = lit< tt
    at Radix4 = lit< tt

pub rounding_limited : (k : Method) (m : ℕ) → m ≤ 256 → rounding k m < 2 ^ 9
rounding_limited Direct m h = omega arith
rounding_limited Radix2 m h = omega arith
rounding_limited Radix4 m h = omega arith

-- the size below a lawful one leaves room for a stage of growth g and rounding w
pub record Room (f : Figures) (g w : ℕ) : Type 0 where
  pub below : Limited f
  pub growth : g < 2 ^ 18
  pub rounding : w < 2 ^ 9

pub room : (k : Method) (m q1 q2 g w : ℕ) (f : Figures) → sized k m ≡ true → q1 ≤ 32767 → q2 ≤ 32768 → f ≡ radix k 6 (m / base k) q1 q2 → g ≡ growth k q2 → w ≡ rounding k m → Room f g w
room k m q1 q2 g w f h a b i u v = record {
  below = rw i (limited_under _ _ (radix_grows k 6 (m / base k) q1 32767 q2 32768 a b) (largest k m h));
  growth = rw u (growth_limited k q2 b);
  rounding = rw v (rounding_limited k m (at_most_256 k m h));
}

-- the figures at size n and the largest scales
abbrev TopAt : Method → ℕ → Type 0
TopAt k n = Representable (figures_of k n 32767 32768)

represented : (f : Figures) → T (leb f.scale (2 ^ 90)) → T (ltb f.bound (2 ^ 115)) → T (ltb f.distance (2 ^ 102)) → Representable f
represented f a b c = record { scale = leb→le _ _ a; bound = ltb→lt _ _ b; distance = ltb→lt _ _ c }

top : (k : Method) (m : ℕ) → sized k m ≡ true → TopAt k m
unfolding radix
top Direct = carried (TopAt Direct) (sizes Direct) (represented _ tt tt tt, (represented _ tt tt tt, (represented _ tt tt tt, (represented _ tt tt tt, (represented _ tt tt tt, (represented _ tt tt tt, (represented _ tt tt tt, (represented _ tt tt tt, (represented _ tt tt tt, tt)))))))))
top Radix2 = carried (TopAt Radix2) (sizes Radix2) (represented _ tt tt tt, (represented _ tt tt tt, (represented _ tt tt tt, (represented _ tt tt tt, (represented _ tt tt tt, (represented _ tt tt tt, (represented _ tt tt tt, (represented _ tt tt tt, (represented _ tt tt tt, tt)))))))))
top Radix4 = carried (TopAt Radix4) (sizes Radix4) (represented _ tt tt tt, (represented _ tt tt tt, (represented _ tt tt tt, (represented _ tt tt tt, (represented _ tt tt tt, tt)))))

directly_grows : (m q1 r1 q2 r2 : ℕ) → q1 ≤ r1 → q2 ≤ r2 → Under (directly m q1 q2) (directly m r1 r2)
directly_grows m q1 r1 q2 r2 a b = record {
  scale = b;
  bound = mul-le-mul (mul-le-mul (le_refl m) a) (spread_grows q2 r2 b);
  distance = mul-le-mul (le_refl m) a;
}

figures_grow : (k : Method) (m q1 r1 q2 r2 : ℕ) → q1 ≤ r1 → q2 ≤ r2 → Under (figures_of k m q1 q2) (figures_of k m r1 r2)
figures_grow Direct m q1 r1 q2 r2 a b = directly_grows m q1 r1 q2 r2 a b
figures_grow Radix2 m q1 r1 q2 r2 a b = radix_grows Radix2 6 m q1 r1 q2 r2 a b
figures_grow Radix4 m q1 r1 q2 r2 a b = radix_grows Radix4 6 m q1 r1 q2 r2 a b

-- every figure of a lawful plan fits its word
pub representable : (k : Method) (m q1 q2 : ℕ) → sized k m ≡ true → q1 ≤ 32767 → q2 ≤ 32768 → Representable (figures_of k m q1 q2)
representable k m q1 q2 h a b =
    let u = figures_grow k m q1 32767 q2 32768 a b in
    let t = top k m h in
    record {
      scale = le_trans u.scale t.scale;
      bound = lt_of_le_of_lt u.bound t.bound;
      distance = lt_of_le_of_lt u.distance t.distance;
    }

-- a product of two bounded numbers fits 128 bits
pub product_fits : (a b m n : ℕ) → a < m → b < n → T (leb (m * n) (2 ^ 128)) → Fits w128 (a * b)
product_fits a b m n x y t = record { fits = lt_of_lt_of_le (mul-lt a b m n x y) (leb→le _ _ t) }

pub sum_fits : (a b : ℕ) {m n : ℕ} → a < m → b < n → T (leb (m + n) (2 ^ 128)) → Fits w128 (a + b)
sum_fits a b {m} {n} x y t = let l : m + n ≤ 2 ^ 128 = leb→le _ _ t in record { fits = omega arith }
