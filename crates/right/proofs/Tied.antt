-- What the state and the block of a window are tied to: the plan in force and the samples last loaded.
use Rattle.std.proofs.Common.{◌≡◌, ℕ, suc, ◌-◌, ◌^◌, ◌<◌, ◌≤◌, Bool, true, false, cond, eqb, [], length, Some, Option, sym, refl, subst, arith, lit≤, eqb-true}
use borrow.Author.Tests.{eqb-false}
use Rattle.integers.specs.declared.Complex.{Complex}
use Rattle.plan.specs.declared.method.Method.{Method}
use Rattle.plan.specs.declared.method.Method.TheVariants.{Direct, Radix2, Radix4}
use Rattle.plan.specs.declared.plan.Plan.{Plan}
use Rattle.plan.specs.Methods.{sized, base}
use Rattle.plan.specs.Meaning.{least_modulus_of}
use Rattle.plan.specs.Making.{meaning_of}
use Rattle.lines.specs.Lines.{stage_count, line_of}
use Rattle.lines.specs.Places.{place_of, Standing, Staged}
use Rattle.lines.proofs.Places.{stage_made, loaded, finished}
use Rattle.lines.proofs.Sizes.{size2, size4}
use Rattle.scheme.specs.Meaning.{Meaning}
use Rattle.scheme.specs.Hidden.{StandsPair}
use Rattle.stages.specs.Stage.{entries}
use Rattle.states.specs.declared.Kept.{Kept}
use Rattle.states.specs.declared.State.{State}
use Rattle.states.specs.declared.State.TheVariants.{Idle, Filling, Running, Finished}
use Rattle.states.specs.Step.{Pairs, stages_for, progress}
use Rattle.states.specs.History.{Numbers}

-- the numbers of a plan
abbrev pub numbers_of : Plan → Numbers
numbers_of p = record { method = p.method; size = p.size; sample = p.sample_scale; twiddle = p.twiddle_scale }

-- what a block holds after t stages of a method over the samples s
abbrev pub Held : {N : Type 0} → Meaning N → Method → (size q t : ℕ) → (ℕ → Complex) → Pairs N → Type 0
Held {N} m Direct size q t s bl = (n : ℕ) → n < size → (d : N × N) → StandsPair m [] (s n) (entries d bl n)
Held {N} m Radix2 size q t s bl = (d : N × N) → Standing (StandsPair m []) q 2 t (stage_count Radix2 size - t) s (entries d bl)
Held {N} m Radix4 size q t s bl = (d : N × N) → Standing (StandsPair m []) q 4 t (stage_count Radix4 size - t) s (entries d bl)

module _ {N : Type 0} (m : Meaning N) where
  -- samples at their places are what a block holds before any stage
  pub held_first : (k : Method) (size q : ℕ) (s : ℕ → Complex) (bl : Pairs N) → sized k size ≡ true → ((n : ℕ) → n < size → (d : N × N) → StandsPair m [] (s n) (entries d bl (place_of k size n))) → Held m k size q 0 s bl
  held_first Direct size q s bl h placed = placed
  held_first Radix2 size q s bl h placed =
      λ d.
      let u : ℕ = stage_count Radix2 size in
      let e : u ≡ u - 0 = omega arith in
      let p : 2 ^ u ≡ size = size2 size h in
      subst (λ (v : ℕ). Standing (StandsPair m []) q 2 0 v s (entries d bl)) e
      (loaded (StandsPair m []) q 2 u s (entries d bl) (lit≤ tt) (λ i l. placed i (subst (λ (x : ℕ). i < x) p l) d))
  held_first Radix4 size q s bl h placed =
      λ d.
      let u : ℕ = stage_count Radix4 size in
      let e : u ≡ u - 0 = omega arith in
      let p : 4 ^ u ≡ size = size4 size h in
      subst (λ (v : ℕ). Standing (StandsPair m []) q 4 0 v s (entries d bl)) e
      (loaded (StandsPair m []) q 4 u s (entries d bl) (lit≤ tt) (λ i l. placed i (subst (λ (x : ℕ). i < x) p l) d))

  -- one stage more
  pub held_next : (k : Method) (size q t : ℕ) (s : ℕ → Complex) (bl after : Pairs N) → t < stage_count k size → Held m k size q t s bl → ((d : N × N) → Staged (StandsPair m []) q (base k) t (stage_count k size - suc t) (entries d bl) (entries d after)) → Held m k size q (suc t) s after
  held_next Direct size q t s bl after l held staged = absurd (omega arith)
  held_next Radix2 size q t s bl after l held staged =
      λ d.
      let u : ℕ = stage_count Radix2 size in
      let e : u - t ≡ suc (u - suc t) = omega arith in
      stage_made (StandsPair m []) q 2 t (u - suc t) s (entries d bl) (entries d after) (lit≤ tt)
      (subst (λ (v : ℕ). Standing (StandsPair m []) q 2 t v s (entries d bl)) e (held d)) (staged d)
  held_next Radix4 size q t s bl after l held staged =
      λ d.
      let u : ℕ = stage_count Radix4 size in
      let e : u - t ≡ suc (u - suc t) = omega arith in
      stage_made (StandsPair m []) q 4 t (u - suc t) s (entries d bl) (entries d after) (lit≤ tt)
      (subst (λ (v : ℕ). Standing (StandsPair m []) q 4 t v s (entries d bl)) e (held d)) (staged d)

-- what place n stands for when no stage is due: the sample for direct lines, the line for the others
abbrev pub end_of : Method → (size q : ℕ) → (ℕ → Complex) → ℕ → Complex
end_of Direct size q s n = s n
end_of Radix2 size q s n = line_of Radix2 size q s n
end_of Radix4 size q s n = line_of Radix4 size q s n

module _ {N : Type 0} (m : Meaning N) where
  pub held_last : (k : Method) (size q : ℕ) (s : ℕ → Complex) (bl : Pairs N) → sized k size ≡ true → Held m k size q (stage_count k size) s bl → (n : ℕ) → n < size → (d : N × N) → StandsPair m [] (end_of k size q s n) (entries d bl n)
  held_last Direct size q s bl h held n l d = held n l d
  held_last Radix2 size q s bl h held n l d =
      let u : ℕ = stage_count Radix2 size in
      let e : u - u ≡ 0 = omega arith in
      let p : 2 ^ u ≡ size = size2 size h in
      finished (StandsPair m []) q 2 u s (entries d bl) (subst (λ (v : ℕ). Standing (StandsPair m []) q 2 u v s (entries d bl)) e (held d)) n
      (subst (λ (x : ℕ). n < x) (sym p) l)
  held_last Radix4 size q s bl h held n l d =
      let u : ℕ = stage_count Radix4 size in
      let e : u - u ≡ 0 = omega arith in
      let p : 4 ^ u ≡ size = size4 size h in
      finished (StandsPair m []) q 4 u s (entries d bl) (subst (λ (v : ℕ). Standing (StandsPair m []) q 4 u v s (entries d bl)) e (held d)) n
      (subst (λ (x : ℕ). n < x) (sym p) l)

-- A kept plan is the one in force, its lines fit the modulus, and the block has a pair for every place.
pub record InForce {N : Type 0} (m : Meaning N) (force : Option Numbers) (p : Plan) (bl : Pairs N) : Type 0 where
  pub plan : force ≡ Some (numbers_of p)
  pub fits : least_modulus_of (meaning_of p) ≤ m.modulus
  pub long : p.size ≤ length bl

-- The first `count` samples are loaded, and stand at their places.
pub record Filled {N : Type 0} (m : Meaning N) (p : Plan) (given : ℕ → Option Complex) (count : ℕ) (bl : Pairs N) : Type 0 where
  pub most : count ≤ p.size
  pub samples : ℕ → Complex
  pub loads : (n : ℕ) → n < count → given n ≡ Some (samples n)
  pub placed : (n : ℕ) → n < count → (d : N × N) → StandsPair m [] (samples n) (entries d bl (place_of p.method p.size n))

-- All samples are loaded, and the block holds what t stages make of them.
pub record Ran {N : Type 0} (m : Meaning N) (p : Plan) (given : ℕ → Option Complex) (t : ℕ) (bl : Pairs N) : Type 0 where
  pub samples : ℕ → Complex
  pub loads : (n : ℕ) → n < p.size → given n ≡ Some (samples n)
  pub held : Held m p.method p.size p.twiddle_scale t samples bl

-- The state and the block are tied to the plan in force and the samples given.
abbrev pub Tied : {N : Type 0} → Meaning N → Option Numbers → (ℕ → Option Complex) → State → Pairs N → Type 0
Tied m force given Idle bl = Unit {0}
Tied m force given (Filling kept count) bl = InForce m force kept.plan bl × Filled m kept.plan given count bl
Tied m force given (Running kept t) bl = InForce m force kept.plan bl × Ran m kept.plan given t bl × (t < stages_for kept.plan)
Tied m force given (Finished kept) bl = InForce m force kept.plan bl × Ran m kept.plan given (stages_for kept.plan) bl

-- a block as long is as good for the plan in force
pub force_long : {N : Type 0} (m : Meaning N) (force : Option Numbers) (p : Plan) (bl after : Pairs N) → length after ≡ length bl → InForce m force p bl → InForce m force p after
force_long m force p bl after e h = record { plan = h.plan; fits = h.fits; long = subst (λ (n : ℕ). p.size ≤ n) (sym e) h.long }

module _ {N : Type 0} (m : Meaning N) (force : Option Numbers) (given : ℕ → Option Complex) where
  -- the state after t stages is tied, whether or not more are due
  pub progress_tied : (kept : Kept) (t : ℕ) (bl : Pairs N) → t ≤ stages_for kept.plan → InForce m force kept.plan bl → Ran m kept.plan given t bl → Tied m force given (progress kept t) bl
  progress_tied kept t bl l f r = go (eqb t (stages_for kept.plan)) refl
    where
      go : (e : Bool) → eqb t (stages_for kept.plan) ≡ e → Tied m force given (cond e (Finished kept) (Running kept t)) bl
      go true e = (f, subst (λ (u : ℕ). Ran m kept.plan given u bl) (eqb-true t (stages_for kept.plan) e) r)
      go false e = let ne : ¬ (t ≡ stages_for kept.plan) = eqb-false t (stages_for kept.plan) e in (f, r, omega arith)

  -- where all samples are loaded
  pub filled_ran : (p : Plan) (count : ℕ) (bl : Pairs N) → p.size ≤ count → Filled m p given count bl → Ran m p given 0 bl
  filled_ran p count bl l h =
      record {
        samples = h.samples;
        loads = λ n b. h.loads n (omega arith);
        held = held_first m p.method p.size p.twiddle_scale h.samples bl p.size_lawful (λ n b. h.placed n (omega arith));
      }

  -- after a stage
  pub ran_next : (p : Plan) (t : ℕ) (bl after : Pairs N) → t < stages_for p → ((d : N × N) → Staged (StandsPair m []) p.twiddle_scale (base p.method) t (stages_for p - suc t) (entries d bl) (entries d after)) → Ran m p given t bl → Ran m p given (suc t) after
  ran_next p t bl after l staged h =
      record { samples = h.samples; loads = h.loads; held = held_next m p.method p.size p.twiddle_scale t h.samples bl after l h.held staged }

-- with no sample loaded
pub filled_none : {N : Type 0} (m : Meaning N) (given : ℕ → Option Complex) (p : Plan) (z : Complex) (bl : Pairs N) → Filled m p given 0 bl
filled_none m given p z bl = record { most = omega arith; samples = λ n. z; loads = λ n l. absurd (omega arith); placed = λ n l. absurd (omega arith) }
