-- Counting: groups, offsets and powers.
use Rattle.std.proofs.Common.{◌≡◌, ℕ, suc, ◌+◌, ◌-◌, ◌*◌, ◌/◌, ◌^◌, ◌<◌, ◌≤◌, true, sym, ap, ◌∙◌, mul-le-mul_right, suc-mul, mul_comm, mul-le-mul_left, pow-suc, mul-div_cancel, arith, pow-add}
use native.Mathlib.Nat.{pow-succ', pow-le-pow_right, pow-le-pow_left, one-le-pow}
use native.Mathlib.Decide.{dec_lt}
use Rattle.plan.specs.declared.method.Method.{Method}
use Rattle.plan.specs.declared.method.Method.TheVariants.{Direct, Radix2, Radix4}
use Rattle.plan.specs.declared.plan.Plan.{Plan}
use Rattle.plan.specs.Methods.{base, sized}
use Rattle.plan.proofs.Powers.{at_most_256}
use Rattle.lines.specs.Lines.{stage_count}
use Rattle.lines.proofs.Sizes.{size2, size4}
use Rattle.stages.specs.Stage.{stages_in}

-- a group ends within all of them
pub group_fits : (group groups n limit : ℕ) → group < groups → groups * n ≤ limit → group * n + n ≤ limit
group_fits group groups n limit h l = let a : suc group * n ≤ groups * n = mul-le-mul_right n h in omega (arith, suc-mul group n)

-- powers are ordered as their exponents
pub power_orders : (r t n : ℕ) → 1 < r → r ^ t < r ^ n → t < n
power_orders r t n h l = go (dec_lt t n)
  where
    go : Dec (t < n) → t < n
    go (yes a) = a
    go (no a) = let b : r ^ n ≤ r ^ t = pow-le-pow_right {n = r} (omega arith) {i = n} {j = t} (omega arith) in absurd (omega arith)

pub power_reaches : (r t n : ℕ) → 1 < r → r ^ n ≤ r ^ t → n ≤ t
power_reaches r t n h l = go (dec_lt t n)
  where
    go : Dec (t < n) → n ≤ t
    go (no a) = omega arith
    go (yes a) =
        let some : 0 < r ^ t = one-le-pow t r (omega arith) in
        let b : r ^ suc t ≤ r ^ n = pow-le-pow_right {n = r} (omega arith) {i = suc t} {j = n} a in
        let c : r ^ t * 2 ≤ r ^ t * r = mul-le-mul_left (r ^ t) h in
        absurd (omega (arith, pow-suc r t))

-- no size is above the ninth power of a radix
pub power_large : (r t size : ℕ) → 1 < r → 9 ≤ t → size ≤ 256 → size ≤ r ^ t
power_large r t size h l s =
    let a : 2 ^ 9 ≤ r ^ 9 = pow-le-pow_left h 9 in
    let b : r ^ 9 ≤ r ^ t = pow-le-pow_right {n = r} (omega arith) {i = 9} {j = t} l in
    omega arith

-- r^n = r^(n − (t + 1)) · (r · r^t)
pub power_splits : (r t n : ℕ) → t < n → r ^ n ≡ r ^ (n - suc t) * (r * r ^ t)
power_splits r t n h =
    let e : n ≡ n - suc t + suc t = omega arith in
    ap (λ x. r ^ x) e ∙ pow-add r (n - suc t) (suc t) ∙ ap (λ x. r ^ (n - suc t) * x) (pow-suc r t ∙ mul_comm (r ^ t) r)

pub groups_are : (r t n size span : ℕ) → 1 < r → t < n → size ≡ r ^ n → span ≡ r ^ t → size / (r * span) ≡ r ^ (n - suc t)
groups_are r t n size span one h e f =
    let some : 0 < r ^ suc t = one-le-pow (suc t) r (omega arith) in
    let pos : 0 < r * r ^ t = omega (arith, pow-suc r t, mul_comm (r ^ t) r) in
    ap (λ x. size / (r * x)) f ∙ ap (λ x. x / (r * r ^ t)) (e ∙ power_splits r t n h) ∙ mul-div_cancel (r ^ (n - suc t)) pos

-- the methods that go by stages
abbrev pub Staging : Method → Type 0
Staging Direct = ⊥
Staging Radix2 = Unit {0}
Staging Radix4 = Unit {0}

pub staging_of : (k : Method) (m t : ℕ) → t < stage_count k m → Staging k
staging_of Direct m t h = omega arith
staging_of Radix2 m t h = tt
staging_of Radix4 m t h = tt

pub base_two : (k : Method) → 1 < base k
base_two Direct = omega arith
base_two Radix2 = omega arith
base_two Radix4 = omega arith

-- their sizes are powers of the radix, one for each stage
pub powered : (k : Method) → Staging k → (m : ℕ) → sized k m ≡ true → m ≡ base k ^ stage_count k m
powered Direct n m h = absurd n
powered Radix2 n m h = sym (size2 m h)
powered Radix4 n m h = sym (size4 m h)

-- the plan has a stage t + 1, r is its radix and `span` is r^t
pub record Shape (p : Plan) (t r span : ℕ) : Type 0 where
  pub moment : t < stages_in p
  pub radix : r ≡ base p.method
  pub power : span ≡ base p.method ^ t

pub shaped : (p : Plan) (t r span : ℕ) → r ≡ base p.method → p.size ≡ r ^ stages_in p → span ≡ r ^ t → span < p.size → Shape p t r span
shaped p t r span rb z sp less = record { moment = power_orders r t (stages_in p) (omega (arith, base_two p.method)) (omega arith); radix = rb; power = sp ∙ ap (λ x. x ^ t) rb }

pub unshaped : (p : Plan) (t r : ℕ) → r ≡ base p.method → p.size ≡ r ^ stages_in p → p.size ≤ r ^ t → stages_in p ≤ t
unshaped p t r rb z more = power_reaches r t (stages_in p) (omega (arith, base_two p.method)) (omega arith)

-- the lines that a stage makes are no longer than the size
pub size_step : (p : Plan) (t r span : ℕ) → Shape p t r span → (0 < span) × (0 < r * span) × (r * span ≤ 256)
size_step p t r span shape =
    let b = base p.method in
    let z : p.size ≡ b ^ stages_in p = powered p.method (staging_of p.method p.size t shape.moment) p.size p.size_lawful in
    let e : r * span ≡ b ^ suc t = ap (λ x. x * span) shape.radix ∙ ap (λ x. b * x) shape.power ∙ sym (pow-succ' b t) in
    let up : b ^ suc t ≤ b ^ stages_in p = pow-le-pow_right {n = b} (omega (arith, base_two p.method)) {i = suc t} {j = stages_in p} shape.moment in
    let some : 0 < b ^ suc t = one-le-pow (suc t) b (omega (arith, base_two p.method)) in
    let few : 0 < b ^ t = one-le-pow t b (omega (arith, base_two p.method)) in
    let top : p.size ≤ 256 = at_most_256 p.method p.size p.size_lawful in
    (omega (arith, shape.power), omega arith, omega arith)
