-- One call on two windows that a house cannot tell apart.
use Rattle.std.proofs.Common.{◌≡◌, ℕ, suc, ◌<◌, ◌≤◌, Bool, true, false, cond, ◌&&◌, eqb, ltb, leb, map, length, set, Some, None, Ok, Err, Option, Result, sym, refl, ap, ◌∙◌, subst, arith, leb-true}
use borrow.Author.Tests.{eqb-false}
use Rattle.refusal.specs.declared.kinds.Refusal.{Refusal}
use Rattle.refusal.specs.declared.kinds.Refusal.TheVariants.{Block, Narrow, Place, Strange, Malformed}
use Rattle.plan.specs.declared.method.Method.{Method}
use Rattle.plan.specs.declared.method.Method.TheVariants.{Direct, Radix2, Radix4}
use Rattle.plan.specs.declared.plan.Plan.{Plan}
use Rattle.plan.specs.Meaning.{figures_of, least_modulus_of}
use Rattle.plan.specs.Making.{meaning_of, refused}
use Rattle.lines.specs.Places.{place_of}
use Rattle.scheme.specs.Meaning.{Sound}
use Rattle.split.specs.declared.halves.Halves.{Halves}
use Rattle.states.specs.declared.Kept.{Kept}
use Rattle.states.specs.declared.State.{State}
use Rattle.states.specs.declared.State.TheVariants.{Idle, Filling, Running, Finished}
use Rattle.states.specs.declared.Call.{Call}
use Rattle.states.specs.declared.Call.TheVariants.{Plan as PlanCall, Load, Begin, Advance, Line as LineCall, Restart}
use Rattle.states.specs.declared.Line.{Line}
use Rattle.states.specs.Step.{Pairs, Step, StepBy, Accepted, Becomes, Planned, Advanced, declined, plan_declined, line_malformed, unless, first, malformed, first_malformed_place, progress, stages_for}
use Rattle.states.specs.History.{Numbers, plan_after}
use Rattle.states.proofs.Declining.{unless_none, first_none, malformed_none}
use Rattle.secrecy.specs.Secrecy.{bringing, refusal_of}
use Rattle.secrecy.proofs.Plans.{same_plan}
use Rattle.secrecy.proofs.Blocks.{Pair, Known, shares, known, Alike, alike_length, alike_formed, alike_malformed, alike_set}
use Rattle.secrecy.proofs.Stages.{stage_alike}

-- ---- the plan kept in a state is the plan in force by calls and answers

pub record InForce (n : ℕ) (p : Option Numbers) (kept : Kept) : Type 0 where
  pub numbers : Numbers
  pub force : p ≡ Some numbers
  pub sample : kept.plan.sample_scale ≡ numbers.sample
  pub fits : least_modulus_of (meaning_of kept.plan) ≤ n

abbrev pub Tied : ℕ → Option Numbers → State → Type 0
Tied n p Idle = Unit {0}
Tied n p (Filling kept count) = InForce n p kept
Tied n p (Running kept t) = InForce n p kept × (t < stages_for kept.plan)
Tied n p (Finished kept) = InForce n p kept

tied_as : (n : ℕ) (p : Option Numbers) (c : Call (Halves ℕ)) (a a' : Result (Option Line) Refusal) (st st' : State) → a ≡ a' → st ≡ st' → Tied n (plan_after a' c p) st' → Tied n (plan_after a c p) st
tied_as n p c a a' st st' e f h = subst (λ (s : State). Tied n (plan_after a c p) s) (sym f) (subst (λ (b : Result (Option Line) Refusal). Tied n (plan_after b c p) st') (sym e) h)

tied_progress : (n : ℕ) (p : Option Numbers) (kept : Kept) (t : ℕ) → InForce n p kept → t ≤ stages_for kept.plan → Tied n p (progress kept t)
tied_progress n p kept t f l = go (eqb t (stages_for kept.plan)) refl
  where
    go : (b : Bool) → eqb t (stages_for kept.plan) ≡ b → Tied n p (cond b (Finished kept) (Running kept t))
    go true e = f
    go false e = (f, let d = eqb-false t (stages_for kept.plan) e in omega arith)

module _ (n : ℕ) (p : Option Numbers) where
  tied_plan : (bl : Pairs (Halves ℕ)) (k : Method) (size q1 q2 : ℕ) (a : Result (Option Line) Refusal) (st' : State) (bl' : Pairs (Halves ℕ)) → plan_declined (shares n) bl k size q1 q2 ≡ None → Planned (shares n) bl k size q1 q2 a st' bl' → Tied n (plan_after {N = Halves ℕ} a (PlanCall k size q1 q2) p) st'
  tied_plan bl k size q1 q2 a st' bl' e s =
      let f = s.has in
      let figures : meaning_of s.plan ≡ figures_of k size q1 q2 =
      λ j. figures_of (f.method j) (f.size j) (f.sample j) (f.twiddle j) in
      let (made, later) = first_none (refused k size q1 q2) (unless (leb size (length bl)) Block (unless (leb (least_modulus_of (figures_of k size q1 q2)) n) Narrow None)) e in
      let (long, last) = unless_none (leb size (length bl)) Block (unless (leb (least_modulus_of (figures_of k size q1 q2)) n) Narrow None) later in
      let (fitting, end) = unless_none (leb (least_modulus_of (figures_of k size q1 q2)) n) Narrow None last in
      tied_as n p (PlanCall k size q1 q2) a (Ok None) st' (Filling (record { plan = s.plan; modulus = n }) 0) s.becomes.answer s.becomes.after
      (record {
        numbers = record { method = k; size = size; sample = q1; twiddle = q2 };
        force = refl;
        sample = f.sample;
        fits = rw figures (leb-true (least_modulus_of (figures_of k size q1 q2)) n fitting);
      })

  tied_accepted : (c : Call (Halves ℕ)) (st : State) (bl : Pairs (Halves ℕ)) (a : Result (Option Line) Refusal) (st' : State) (bl' : Pairs (Halves ℕ)) → Tied n p st → declined (shares n) st bl c ≡ None → Accepted (shares n) st bl c a st' bl' → Tied n (plan_after a c p) st'
  tied_accepted (PlanCall k size q1 q2) st bl a st' bl' t e s = tied_plan bl k size q1 q2 a st' bl' e s
  tied_accepted (Load i x) Idle bl a st' bl' t e s = absurd s
  tied_accepted (Load i x) (Filling kept count) bl a st' bl' t e s = tied_as n p (Load i x) a (Ok None) st' (Filling kept (cond (eqb i count) (suc count) count)) s.answer s.after t
  tied_accepted (Load i x) (Running kept j) bl a st' bl' t e s = absurd s
  tied_accepted (Load i x) (Finished kept) bl a st' bl' t e s = absurd s
  tied_accepted Begin Idle bl a st' bl' t e s = absurd s
  tied_accepted Begin (Filling kept count) bl a st' bl' t e s = tied_as n p Begin a (Ok None) st' (progress kept 0) s.answer s.after (tied_progress n p kept 0 t (omega arith))
  tied_accepted Begin (Running kept j) bl a st' bl' t e s = absurd s
  tied_accepted Begin (Finished kept) bl a st' bl' t e s = absurd s
  tied_accepted Advance Idle bl a st' bl' t e s = absurd s
  tied_accepted Advance (Filling kept count) bl a st' bl' t e s = absurd s
  tied_accepted Advance (Running kept j) bl a st' bl' t e s = tied_as n p Advance a (Ok None) st' (progress kept (suc j)) s.becomes.answer s.becomes.after (tied_progress n p kept (suc j) t.0 t.1)
  tied_accepted Advance (Finished kept) bl a st' bl' t e s = absurd s
  tied_accepted (LineCall k) Idle bl a st' bl' t e s = absurd s
  tied_accepted (LineCall k) (Filling kept count) bl a st' bl' t e s = absurd s
  tied_accepted (LineCall k) (Running kept j) bl a st' bl' t e s = absurd s
  tied_accepted (LineCall k) (Finished kept) bl a st' bl' t e s = tied_as n p (LineCall k) a (Ok _) st' (Finished kept) s.answer s.after t
  tied_accepted Restart Idle bl a st' bl' t e s = absurd s
  tied_accepted Restart (Filling kept count) bl a st' bl' t e s = tied_as n p Restart a (Ok None) st' (Filling kept 0) s.answer s.after t
  tied_accepted Restart (Running kept j) bl a st' bl' t e s = tied_as n p Restart a (Ok None) st' (Filling kept 0) s.answer s.after t.0
  tied_accepted Restart (Finished kept) bl a st' bl' t e s = tied_as n p Restart a (Ok None) st' (Filling kept 0) s.answer s.after t

  pub tied_step : (c : Call (Halves ℕ)) (st : State) (bl : Pairs (Halves ℕ)) (a : Result (Option Line) Refusal) (st' : State) (bl' : Pairs (Halves ℕ)) → Tied n p st → Step (shares n) st bl c a st' bl' → Tied n (plan_after a c p) st'
  tied_step c st bl a st' bl' t s = go (declined (shares n) st bl c) refl s
    where
      go : (o : Option Refusal) → declined (shares n) st bl c ≡ o → StepBy o (shares n) st bl c a st' bl' → Tied n (plan_after a c p) st'
      go None e s = tied_accepted c st bl a st' bl' t e s
      go (Some x) e s = tied_as n p c a (Err x) st' st s.answer s.after t

-- ---- the same refusals

-- a load brings a pair that is the same to the house; no other call brings one
abbrev pub AlikeLoad : ℕ → Bool → Call (Halves ℕ) → Pair → Type 0
AlikeLoad n h (PlanCall k size q1 q2) y = Unit {0}
AlikeLoad n h (Load i x) y = known n h x ≡ known n h y
AlikeLoad n h Begin y = Unit {0}
AlikeLoad n h Advance y = Unit {0}
AlikeLoad n h (LineCall k) y = Unit {0}
AlikeLoad n h Restart y = Unit {0}

module _ (n : ℕ) (h : Bool) (xs ys : Pairs (Halves ℕ)) (alike : Alike n h xs ys) where
  line_same : (k : Method) (size i : ℕ) → line_malformed (shares n) k xs size i ≡ line_malformed (shares n) k ys size i
  line_same Direct size i = ap malformed (alike_malformed n h xs ys alike size)
  line_same Radix2 size i = ap (λ (b : Bool). unless b (Malformed i) None) (alike_formed n h xs ys alike i)
  line_same Radix4 size i = ap (λ (b : Bool). unless b (Malformed i) None) (alike_formed n h xs ys alike i)

  pub declined_same : (c : Call (Halves ℕ)) (y : Pair) (st : State) → AlikeLoad n h c y → declined (shares n) st xs c ≡ declined (shares n) st ys (bringing y c)
  declined_same (PlanCall k size q1 q2) y st e =
      ap (λ (l : ℕ). first (refused k size q1 q2) (unless (leb size l) Block (unless (leb (least_modulus_of (figures_of k size q1 q2)) n) Narrow None))) (alike_length n h xs ys alike)
  declined_same (Load i x) y Idle e = refl
  declined_same (Load i x) y (Filling kept count) e =
      ap (λ (k : Known). unless (leb i count && ltb i kept.plan.size) Place (unless (eqb n kept.modulus) Strange (unless k.1 (Malformed i) None))) e
  declined_same (Load i x) y (Running kept t) e = refl
  declined_same (Load i x) y (Finished kept) e = refl
  declined_same Begin y Idle e = refl
  declined_same Begin y (Filling kept count) e = refl
  declined_same Begin y (Running kept t) e = refl
  declined_same Begin y (Finished kept) e = refl
  declined_same Advance y Idle e = refl
  declined_same Advance y (Filling kept count) e = refl
  declined_same Advance y (Running kept t) e =
      ap (λ (o : Option ℕ). unless (eqb n kept.modulus) Strange (malformed o)) (alike_malformed n h xs ys alike kept.plan.size)
  declined_same Advance y (Finished kept) e = refl
  declined_same (LineCall k) y Idle e = refl
  declined_same (LineCall k) y (Filling kept count) e = refl
  declined_same (LineCall k) y (Running kept t) e = refl
  declined_same (LineCall k) y (Finished kept) e =
      ap (λ (o : Option Refusal). unless (ltb k kept.plan.size) Place (unless (eqb n kept.modulus) Strange o)) (line_same kept.plan.method kept.plan.size k)
  declined_same Restart y Idle e = refl
  declined_same Restart y (Filling kept count) e = refl
  declined_same Restart y (Running kept t) e = refl
  declined_same Restart y (Finished kept) e = refl

-- ---- the same to the house

-- the answers are the same refusal or both none, the states are equal, the blocks alike
pub record Same (n : ℕ) (h : Bool) (a a' : Result (Option Line) Refusal) (st st' : State) (xs ys : Pairs (Halves ℕ)) : Type 0 where
  pub refusal : refusal_of a ≡ refusal_of a'
  pub state : st ≡ st'
  pub blocks : Alike n h xs ys

-- two accepted calls that come to the same state and alike blocks
becomes_same : (n : ℕ) (h : Bool) (r r' : Option Line) (st : State) (xs ys : Pairs (Halves ℕ)) (a a' : Result (Option Line) Refusal) (st₁ st₂ : State) (xs' ys' : Pairs (Halves ℕ)) → Alike n h xs ys → Becomes r st xs a st₁ xs' → Becomes r' st ys a' st₂ ys' → Same n h a a' st₁ st₂ xs' ys'
becomes_same n h r r' st xs ys a a' st₁ st₂ xs' ys' e s s' =
    record {
      refusal = ap refusal_of s.answer ∙ sym (ap refusal_of s'.answer);
      state = s.after ∙ sym s'.after;
      blocks = ap (map (known n h)) s.holds ∙ e ∙ sym (ap (map (known n h)) s'.holds);
    }

module _ (n : ℕ) (lawful : Sound (shares n)) (h : Bool) (p : Option Numbers) (xs ys : Pairs (Halves ℕ)) (alike : Alike n h xs ys) (a a' : Result (Option Line) Refusal) (st₁ st₂ : State) (xs' ys' : Pairs (Halves ℕ)) where
  plan_same : (k : Method) (size q1 q2 : ℕ) → Planned (shares n) xs k size q1 q2 a st₁ xs' → Planned (shares n) ys k size q1 q2 a' st₂ ys' → Same n h a a' st₁ st₂ xs' ys'
  plan_same k size q1 q2 s s' =
      let e : s'.plan ≡ s.plan = same_plan s'.plan s.plan k size q1 q2 s'.has s.has in
      becomes_same n h None None (Filling (record { plan = s.plan; modulus = n }) 0) xs ys a a' st₁ st₂ xs' ys' alike s.becomes
      (record { answer = s'.becomes.answer; after = s'.becomes.after ∙ ap (λ (q : Plan). Filling (record { plan = q; modulus = n }) 0) e; holds = s'.becomes.holds })

  advance_same : (kept : Kept) (t : ℕ) → t < stages_for kept.plan → first_malformed_place (shares n) xs kept.plan.size ≡ None → Advanced (shares n) kept t xs a st₁ xs' → Advanced (shares n) kept t ys a' st₂ ys' → Same n h a a' st₁ st₂ xs' ys'
  advance_same kept t due clean s s' =
      becomes_same n h None None (progress kept (suc t)) xs' ys' a a' st₁ st₂ xs' ys'
      (stage_alike n lawful h kept.plan t due xs xs' ys ys' alike s.stage s'.stage clean (sym (alike_malformed n h xs ys alike kept.plan.size) ∙ clean))
      s.becomes s'.becomes

  accepted_same : (c : Call (Halves ℕ)) (y : Pair) (st : State) → Tied n p st → AlikeLoad n h c y → declined (shares n) st xs c ≡ None → Accepted (shares n) st xs c a st₁ xs' → Accepted (shares n) st ys (bringing y c) a' st₂ ys' → Same n h a a' st₁ st₂ xs' ys'
  accepted_same (PlanCall k size q1 q2) y st t e d s s' = plan_same k size q1 q2 s s'
  accepted_same (Load i x) y Idle t e d s s' = absurd s
  accepted_same (Load i x) y (Filling kept count) t e d s s' =
      let at : ℕ = place_of kept.plan.method kept.plan.size i in
      becomes_same n h None None (Filling kept (cond (eqb i count) (suc count) count)) (set xs at x) (set ys at y) a a' st₁ st₂ xs' ys' (alike_set n h xs ys at x y alike e) s s'
  accepted_same (Load i x) y (Running kept j) t e d s s' = absurd s
  accepted_same (Load i x) y (Finished kept) t e d s s' = absurd s
  accepted_same Begin y Idle t e d s s' = absurd s
  accepted_same Begin y (Filling kept count) t e d s s' = becomes_same n h None None (progress kept 0) xs ys a a' st₁ st₂ xs' ys' alike s s'
  accepted_same Begin y (Running kept j) t e d s s' = absurd s
  accepted_same Begin y (Finished kept) t e d s s' = absurd s
  accepted_same Advance y Idle t e d s s' = absurd s
  accepted_same Advance y (Filling kept count) t e d s s' = absurd s
  accepted_same Advance y (Running kept j) t e d s s' =
      advance_same kept j t.1
      (malformed_none (first_malformed_place (shares n) xs kept.plan.size) (unless_none (eqb n kept.modulus) Strange (malformed (first_malformed_place (shares n) xs kept.plan.size)) d).1) s s'
  accepted_same Advance y (Finished kept) t e d s s' = absurd s
  accepted_same (LineCall k) y Idle t e d s s' = absurd s
  accepted_same (LineCall k) y (Filling kept count) t e d s s' = absurd s
  accepted_same (LineCall k) y (Running kept j) t e d s s' = absurd s
  accepted_same (LineCall k) y (Finished kept) t e d s s' = becomes_same n h _ _ (Finished kept) xs ys a a' st₁ st₂ xs' ys' alike s s'
  accepted_same Restart y Idle t e d s s' = absurd s
  accepted_same Restart y (Filling kept count) t e d s s' = becomes_same n h None None (Filling kept 0) xs ys a a' st₁ st₂ xs' ys' alike s s'
  accepted_same Restart y (Running kept j) t e d s s' = becomes_same n h None None (Filling kept 0) xs ys a a' st₁ st₂ xs' ys' alike s s'
  accepted_same Restart y (Finished kept) t e d s s' = becomes_same n h None None (Filling kept 0) xs ys a a' st₁ st₂ xs' ys' alike s s'

  step_by : (c : Call (Halves ℕ)) (y : Pair) (st : State) → Tied n p st → AlikeLoad n h c y → (o : Option Refusal) → declined (shares n) st xs c ≡ o → StepBy o (shares n) st xs c a st₁ xs' → StepBy o (shares n) st ys (bringing y c) a' st₂ ys' → Same n h a a' st₁ st₂ xs' ys'
  step_by c y st t e None d s s' = accepted_same c y st t e d s s'
  step_by c y st t e (Some x) d s s' =
      record {
        refusal = ap refusal_of s.answer ∙ sym (ap refusal_of s'.answer);
        state = s.after ∙ sym s'.after;
        blocks = ap (map (known n h)) s.holds ∙ alike ∙ sym (ap (map (known n h)) s'.holds);
      }

  -- one call in the same state, over alike blocks, with an alike load
  pub step_same : (c : Call (Halves ℕ)) (y : Pair) (st : State) → Tied n p st → AlikeLoad n h c y → Step (shares n) st xs c a st₁ xs' → Step (shares n) st ys (bringing y c) a' st₂ ys' → Same n h a a' st₁ st₂ xs' ys'
  step_same c y st t e s s' =
      step_by c y st t e (declined (shares n) st xs c) refl s
      (subst (λ (o : Option Refusal). StepBy o (shares n) st ys (bringing y c) a' st₂ ys') (sym (declined_same n h xs ys alike c y st e)) s')
