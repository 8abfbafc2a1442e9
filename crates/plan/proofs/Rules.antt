-- The rules of the figures hold of the definition, and at lawful sizes of nothing else.
use Rattle.std.proofs.Common.{◌≡◌, ℕ, ◌*◌, ◌/◌, ◌<◌, ◌≤◌, true, sym, refl, ap, ◌∙◌, arith, le-leb}
use Rattle.plan.specs.declared.method.Method.{Method}
use Rattle.plan.specs.declared.method.Method.TheVariants.{Direct, Radix2, Radix4}
use Rattle.plan.specs.declared.figures.Figures.{Figures}
use Rattle.plan.specs.Methods.{sizes, sized, base, rounding}
use Rattle.plan.specs.Meaning.{exact, stage, growth, radix, figures_of, FigureRules, OneMeaning}
use Rattle.plan.proofs.Powers.{carried}

-- at size n a radix line is a stage on top of the size below
abbrev StepAt : Method → ℕ → ℕ → ℕ → Type 0
StepAt k q1 q2 n = 4 < n → radix k 6 n q1 q2 ≡ stage (growth k q2) (rounding k n) q1 q2 (radix k 6 (n / base k) q1 q2)

-- which holds at every lawful size above 4
pub radix_step : (k : Method) (q1 q2 m : ℕ) → sized k m ≡ true → StepAt k q1 q2 m
unfolding radix
radix_step Direct q1 q2 = carried (StepAt Direct q1 q2) (sizes Direct) (λ h. absurd (omega arith), (λ h. absurd (omega arith), (λ h. absurd (omega arith), (λ h. refl, (λ h. refl, (λ h. refl, (λ h. refl, (λ h. refl, (λ h. refl, tt)))))))))
radix_step Radix2 q1 q2 = carried (StepAt Radix2 q1 q2) (sizes Radix2) (λ h. absurd (omega arith), (λ h. absurd (omega arith), (λ h. absurd (omega arith), (λ h. refl, (λ h. refl, (λ h. refl, (λ h. refl, (λ h. refl, (λ h. refl, tt)))))))))
radix_step Radix4 q1 q2 = carried (StepAt Radix4 q1 q2) (sizes Radix4) (λ h. absurd (omega arith), (λ h. absurd (omega arith), (λ h. refl, (λ h. refl, (λ h. refl, tt)))))

-- a stage on top of what are the figures of the size below
pub radix_from : (k : Method) (m q1 q2 : ℕ) (f : Figures) → sized k m ≡ true → 4 < m → f ≡ radix k 6 (m / base k) q1 q2 → stage (growth k q2) (rounding k m) q1 q2 f ≡ radix k 6 m q1 q2
radix_from k m q1 q2 f h l e = rw e (sym (radix_step k q1 q2 m h l))

-- up to size 4 a radix line is exact
pub small : (k : Method) (m q1 q2 : ℕ) → m ≤ 4 → radix k 6 m q1 q2 ≡ exact m q1
unfolding radix
small k m q1 q2 h = rw (le-leb m 4 h) refl

rules : FigureRules figures_of
rules = record {
  direct = λ m q1 q2 h. refl;
  small2 = λ m q1 q2 h. small Radix2 m q1 q2;
  small4 = λ m q1 q2 h. small Radix4 m q1 q2;
  halved = λ m q1 q2 h l. radix_step Radix2 q1 q2 m h (omega arith);
  quartered = λ m q1 q2 h l. radix_step Radix4 q1 q2 m h (omega arith);
}

-- at size n whatever keeps the rules is the definition
abbrev OnlyAt : (Method → ℕ → ℕ → ℕ → Figures) → Method → ℕ → ℕ → ℕ → Type 0
OnlyAt f k q1 q2 n = f k n q1 q2 ≡ figures_of k n q1 q2

-- from one size to the next: both sides are a stage on top of equal figures
halved_again : (f : Method → ℕ → ℕ → ℕ → Figures) → FigureRules f → (q1 q2 m : ℕ) → sized Radix2 m ≡ true → 8 ≤ m → OnlyAt f Radix2 q1 q2 (m / 2) → OnlyAt f Radix2 q1 q2 m
halved_again f r q1 q2 m h l e = r.halved m q1 q2 h l ∙ ap (stage (growth Radix2 q2) m q1 q2) e ∙ sym (rules.halved m q1 q2 h l)

quartered_again : (f : Method → ℕ → ℕ → ℕ → Figures) → FigureRules f → (q1 q2 m : ℕ) → sized Radix4 m ≡ true → 16 ≤ m → OnlyAt f Radix4 q1 q2 (m / 4) → OnlyAt f Radix4 q1 q2 m
quartered_again f r q1 q2 m h l e = r.quartered m q1 q2 h l ∙ ap (stage (growth Radix4 q2) (5 * m / 4) q1 q2) e ∙ sym (rules.quartered m q1 q2 h l)

only : (f : Method → ℕ → ℕ → ℕ → Figures) → FigureRules f → (k : Method) (q1 q2 m : ℕ) → sized k m ≡ true → OnlyAt f k q1 q2 m
unfolding radix
only f r Direct q1 q2 m h = r.direct m q1 q2 h
only f r Radix2 q1 q2 m h =
    let s1 : OnlyAt f Radix2 q1 q2 1 = r.small2 1 q1 q2 refl (omega arith) in
    let s2 : OnlyAt f Radix2 q1 q2 2 = r.small2 2 q1 q2 refl (omega arith) in
    let s4 : OnlyAt f Radix2 q1 q2 4 = r.small2 4 q1 q2 refl (omega arith) in
    let s8 : OnlyAt f Radix2 q1 q2 8 = halved_again f r q1 q2 8 refl (omega arith) s4 in
    let s16 : OnlyAt f Radix2 q1 q2 16 = halved_again f r q1 q2 16 refl (omega arith) s8 in
    let s32 : OnlyAt f Radix2 q1 q2 32 = halved_again f r q1 q2 32 refl (omega arith) s16 in
    let s64 : OnlyAt f Radix2 q1 q2 64 = halved_again f r q1 q2 64 refl (omega arith) s32 in
    let s128 : OnlyAt f Radix2 q1 q2 128 = halved_again f r q1 q2 128 refl (omega arith) s64 in
    let s256 : OnlyAt f Radix2 q1 q2 256 = halved_again f r q1 q2 256 refl (omega arith) s128 in
    carried (OnlyAt f Radix2 q1 q2) (sizes Radix2) (s1, (s2, (s4, (s8, (s16, (s32, (s64, (s128, (s256, tt))))))))) m h
only f r Radix4 q1 q2 m h =
    let s1 : OnlyAt f Radix4 q1 q2 1 = r.small4 1 q1 q2 refl (omega arith) in
    let s4 : OnlyAt f Radix4 q1 q2 4 = r.small4 4 q1 q2 refl (omega arith) in
    let s16 : OnlyAt f Radix4 q1 q2 16 = quartered_again f r q1 q2 16 refl (omega arith) s4 in
    let s64 : OnlyAt f Radix4 q1 q2 64 = quartered_again f r q1 q2 64 refl (omega arith) s16 in
    let s256 : OnlyAt f Radix4 q1 q2 256 = quartered_again f r q1 q2 256 refl (omega arith) s64 in
    carried (OnlyAt f Radix4 q1 q2) (sizes Radix4) (s1, (s4, (s16, (s64, (s256, tt))))) m h

pub one_meaning : OneMeaning
one_meaning = record { keeps = rules; only = λ f r k m q1 q2 h. only f r k q1 q2 m h }
