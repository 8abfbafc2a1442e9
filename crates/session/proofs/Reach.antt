-- Which refusals a window of the console can meet: its block has 256 pairs, its scheme stays, and what it holds is well formed.
use Rattle.std.proofs.Common.{◌≡◌, ℕ, suc, ◌+◌, ◌-◌, ◌*◌, ◌^◌, ◌<◌, ◌≤◌, Bool, true, false, cond, ◌&&◌, eqb, ltb, leb, List, [], ◌∷◌, length, get_or, Some, None, Ok, Err, Option, sym, refl, ap, ◌∙◌, subst, arith, lit<, length-set, ltb-true, eq-eqb, le-leb}
use Rattle.integers.specs.declared.Complex.{Complex}
use Rattle.refusal.specs.declared.kinds.Refusal.{Refusal}
use Rattle.refusal.specs.declared.kinds.Refusal.TheVariants.{Size, SampleScale, TwiddleScale, Block, Narrow, Moment, Place, Strange, Malformed, Short}
use Rattle.plan.specs.declared.method.Method.{Method}
use Rattle.plan.specs.declared.method.Method.TheVariants.{Direct, Radix2, Radix4}
use Rattle.plan.specs.Methods.{sized}
use Rattle.plan.specs.Meaning.{figures_of, least_modulus_of}
use Rattle.plan.specs.Making.{within, refused}
use Rattle.plan.proofs.Powers.{at_most_256}
use Rattle.lines.specs.Lines.{stage_count, radix_line_of}
use Rattle.lines.specs.Places.{share}
use Rattle.lines.proofs.Sizes.{size2, size4}
use Rattle.scheme.specs.Meaning.{Meaning, Sound}
use Rattle.scheme.specs.Hidden.{StandsPair}
use Rattle.stages.specs.Block.{is_well_formed_at}
use Rattle.scheme.specs.Hidden.{well_formed}
use Rattle.stages.specs.Stage.{entries}
use Rattle.stages.proofs.Blocks.{entry_itself, both, sound_there}
use Rattle.states.specs.declared.Kept.{Kept}
use Rattle.states.specs.declared.State.{State}
use Rattle.states.specs.declared.State.TheVariants.{Idle, Filling, Running, Finished}
use Rattle.states.specs.declared.Call.{Call}
use Rattle.states.specs.declared.Call.TheVariants.{Plan as PlanCall, Load as LoadCall, Begin as BeginCall, Advance as AdvanceCall, Line as LineCall, Restart as RestartCall}
use Rattle.states.specs.Step.{Pairs, unless, first, malformed, first_malformed_place, plan_declined, line_malformed, declined, stages_for, progress, Step, StepBy}
use Rattle.states.specs.History.{Numbers, Event, Reached, plan_in, samples_in}
use Rattle.right.proofs.Steps.{reached_tied}
use Rattle.right.proofs.Tied.{Held, end_of, held_last, Tied}
use Rattle.window.proofs.Searching.{found_first}
use Rattle.std.proofs.lemmas.Option.{same_Some, none-some}
use Rattle.session.specs.Session.{Answer}
use Rattle.session.specs.Typed.{Reachable}

-- a refusal that can be met
abbrev Met : Refusal → Type 0
Met x = Reachable (Err x)

met_same : (x y : Refusal) → Met x → ◌≡◌ {A = Option Refusal} (Some x) (Some y) → Met y
met_same x y h e = subst Met (same_Some _ _ e) h

-- where the test holds the refusal is the later one
unless_true : (b : Bool) (x y : Refusal) (later : Option Refusal) → b ≡ true → unless b x later ≡ Some y → later ≡ Some y
unless_true true x y later h e = e
unless_true false x y later h e = absurd (let z : ◌≡◌ {A = ℕ} 0 1 = cc in omega arith)

-- a refusal that can be met, or the later one
unless_met : (b : Bool) (x y : Refusal) (later : Option Refusal) → Met x → (later ≡ Some y → Met y) → unless b x later ≡ Some y → Met y
unless_met true x y later here others e = others e
unless_met false x y later here others e = met_same x y here e

module _ {N : Type 0} (m : Meaning N) (ok : Sound m) where
  -- the modulus that a state keeps is the scheme's
  abbrev pub Keeps : State → Type 0
  Keeps Idle = Unit {0}
  Keeps (Filling kept count) = kept.modulus ≡ m.modulus
  Keeps (Running kept t) = kept.modulus ≡ m.modulus
  Keeps (Finished kept) = kept.modulus ≡ m.modulus

  -- once the samples are loaded all places of the plan are well formed
  abbrev pub Formed : State → Pairs N → Type 0
  Formed Idle bl = Unit {0}
  Formed (Filling kept count) bl = Unit {0}
  Formed (Running kept t) bl = (i : ℕ) → i < kept.plan.size → is_well_formed_at m bl i ≡ true
  Formed (Finished kept) bl = (i : ℕ) → i < kept.plan.size → is_well_formed_at m bl i ≡ true

  pub record Fit (st : State) (bl : Pairs N) : Type 0 where
    pub long : length bl ≡ 256
    pub keeps : Keeps st
    pub formed : Formed st bl

  -- a load brings a well-formed pair
  abbrev pub Brings : Call N → Type 0
  Brings (PlanCall k size q1 q2) = Unit {0}
  Brings (LoadCall n x) = well_formed m x ≡ true
  Brings BeginCall = Unit {0}
  Brings AdvanceCall = Unit {0}
  Brings (LineCall k) = Unit {0}
  Brings RestartCall = Unit {0}

  -- ---- declined calls

  refused_met : (k : Method) (size q1 q2 : ℕ) (y : Refusal) → refused k size q1 q2 ≡ Some y → Met y
  refused_met k size q1 q2 y e = size-met (sized k size) e
    where
      twiddle-met : (b : Bool) → cond b None (Some TwiddleScale) ≡ Some y → Met y
      twiddle-met true e = absurd (none-some _ e)
      twiddle-met false e = met_same TwiddleScale y tt e

      sample-met : (b : Bool) → cond b (cond (within 32768 q2) None (Some TwiddleScale)) (Some SampleScale) ≡ Some y → Met y
      sample-met true e = twiddle-met (within 32768 q2) e
      sample-met false e = met_same SampleScale y tt e

      size-met : (b : Bool) → cond b (cond (within 32767 q1) (cond (within 32768 q2) None (Some TwiddleScale)) (Some SampleScale)) (Some Size) ≡ Some y → Met y
      size-met true e = sample-met (within 32767 q1) e
      size-met false e = met_same Size y tt e

  refused_sized : (k : Method) (size q1 q2 : ℕ) → refused k size q1 q2 ≡ None → sized k size ≡ true
  refused_sized k size q1 q2 e = go (sized k size) e
    where
      go : (b : Bool) → cond b (cond (within 32767 q1) (cond (within 32768 q2) None (Some TwiddleScale)) (Some SampleScale)) (Some Size) ≡ None → b ≡ true
      go true e = refl
      go false e = absurd (none-some _ (sym e))

  plan_met : (bl : Pairs N) → length bl ≡ 256 → (k : Method) (size q1 q2 : ℕ) (y : Refusal) → plan_declined m bl k size q1 q2 ≡ Some y → Met y
  plan_met bl long k size q1 q2 y e = go (refused k size q1 q2) refl e
    where
      go : (o : Option Refusal) → refused k size q1 q2 ≡ o → first o (unless (leb size (length bl)) Block (unless (leb (least_modulus_of (figures_of k size q1 q2)) m.modulus) Narrow None)) ≡ Some y → Met y
      go (Some x) is e = refused_met k size q1 q2 y (is ∙ e)
      go None is e =
          let small : size ≤ 256 = at_most_256 k size (refused_sized k size q1 q2 is) in
          let fits : leb size (length bl) ≡ true = ap (leb size) long ∙ le-leb size 256 small in
          unless_met (leb (least_modulus_of (figures_of k size q1 q2)) m.modulus) Narrow y None tt (λ e. absurd (none-some _ e)) (unless_true (leb size (length bl)) Block y (unless (leb (least_modulus_of (figures_of k size q1 q2)) m.modulus) Narrow None) fits e)

  same_modulus : (kept : Kept) → kept.modulus ≡ m.modulus → eqb m.modulus kept.modulus ≡ true
  same_modulus kept e = eq-eqb m.modulus kept.modulus (sym e)

  none_malformed : (bl : Pairs N) (n : ℕ) → ((i : ℕ) → i < n → is_well_formed_at m bl i ≡ true) → first_malformed_place m bl n ≡ None
  none_malformed bl n formed = found_first m bl n None formed

  line_none : (k : Method) (bl : Pairs N) (size i : ℕ) (y : Refusal) → i < size → ((j : ℕ) → j < size → is_well_formed_at m bl j ≡ true) → line_malformed m k bl size i ≡ Some y → Met y
  line_none Direct bl size i y low formed e = absurd (none-some _ (sym (ap malformed (none_malformed bl size formed)) ∙ e))
  line_none Radix2 bl size i y low formed e = absurd (none-some _ (unless_true (is_well_formed_at m bl i) (Malformed i) y None (formed i low) e))
  line_none Radix4 bl size i y low formed e = absurd (none-some _ (unless_true (is_well_formed_at m bl i) (Malformed i) y None (formed i low) e))

  declined_met : (st : State) (bl : Pairs N) → Fit st bl → (c : Call N) → Brings c → (y : Refusal) → declined m st bl c ≡ Some y → Met y
  declined_met st bl h (PlanCall k size q1 q2) b y e = plan_met bl h.long k size q1 q2 y e
  declined_met Idle bl h (LoadCall n x) b y e = met_same Moment y tt e
  declined_met (Filling kept count) bl h (LoadCall n x) b y e =
      unless_met (leb n count && ltb n kept.plan.size) Place y (unless (eqb m.modulus kept.modulus) Strange (unless (well_formed m x) (Malformed n) None)) tt
      (λ e. absurd (none-some _ (unless_true (well_formed m x) (Malformed n) y None b (unless_true (eqb m.modulus kept.modulus) Strange y (unless (well_formed m x) (Malformed n) None) (same_modulus kept h.keeps) e)))) e
  declined_met (Running kept t) bl h (LoadCall n x) b y e = met_same Moment y tt e
  declined_met (Finished kept) bl h (LoadCall n x) b y e = met_same Moment y tt e
  declined_met Idle bl h BeginCall b y e = met_same Moment y tt e
  declined_met (Filling kept count) bl h BeginCall b y e = unless_met (leb kept.plan.size count) Short y None tt (λ e. absurd (none-some _ e)) e
  declined_met (Running kept t) bl h BeginCall b y e = met_same Moment y tt e
  declined_met (Finished kept) bl h BeginCall b y e = met_same Moment y tt e
  declined_met Idle bl h AdvanceCall b y e = met_same Moment y tt e
  declined_met (Filling kept count) bl h AdvanceCall b y e = met_same Moment y tt e
  declined_met (Running kept t) bl h AdvanceCall b y e =
      absurd (none-some _ (sym (ap malformed (none_malformed bl kept.plan.size h.formed)) ∙ unless_true (eqb m.modulus kept.modulus) Strange y (malformed (first_malformed_place m bl kept.plan.size)) (same_modulus kept h.keeps) e))
  declined_met (Finished kept) bl h AdvanceCall b y e = met_same Moment y tt e
  declined_met Idle bl h (LineCall k) b y e = met_same Moment y tt e
  declined_met (Filling kept count) bl h (LineCall k) b y e = met_same Moment y tt e
  declined_met (Running kept t) bl h (LineCall k) b y e = met_same Moment y tt e
  declined_met (Finished kept) bl h (LineCall k) b y e = line-met (ltb k kept.plan.size) refl e
    where
      line-met : (low : Bool) → ltb k kept.plan.size ≡ low → unless low Place (unless (eqb m.modulus kept.modulus) Strange (line_malformed m kept.plan.method bl kept.plan.size k)) ≡ Some y → Met y
      line-met true is e = line_none kept.plan.method bl kept.plan.size k y (ltb-true k kept.plan.size is) h.formed (unless_true (eqb m.modulus kept.modulus) Strange y (line_malformed m kept.plan.method bl kept.plan.size k) (same_modulus kept h.keeps) e)
      line-met false is e = met_same Place y tt e
  declined_met Idle bl h RestartCall b y e = met_same Moment y tt e
  declined_met (Filling kept count) bl h RestartCall b y e = absurd (none-some _ e)
  declined_met (Running kept t) bl h RestartCall b y e = absurd (none-some _ e)
  declined_met (Finished kept) bl h RestartCall b y e = absurd (none-some _ e)

  -- ---- accepted calls

  -- a pair that stands for something is well formed
  formed_at : (z : Complex) (bl : Pairs N) (i : ℕ) → i < length bl → ((d : N × N) → StandsPair m [] z (entries d bl i)) → (d : N × N) → is_well_formed_at m bl i ≡ true
  formed_at z bl i low stands d =
      let p : N × N = get_or bl i d in
      let s : StandsPair m [] z p = stands d in
      sound_there m bl i p low (entry_itself bl i d low) ∙ both s.re.wf s.im.wf

  -- some pair of the block
  some_pair : (bl : Pairs N) → length bl ≡ 256 → N × N
  some_pair [] long = absurd (omega arith)
  some_pair (x ∷ bl) long = x

  -- before the first stage every place stands for a sample
  held_none : (k : Method) (size q : ℕ) (s : ℕ → Complex) (bl : Pairs N) → sized k size ≡ true → Held m k size q 0 s bl → (i : ℕ) → i < size → (z : Complex) × ((d : N × N) → StandsPair m [] z (entries d bl i))
  held_none Direct size q s bl lawful held i low = (s i, held i low)
  held_none Radix2 size q s bl lawful held i low =
      let u : ℕ = stage_count Radix2 size in
      let below : i < 2 ^ (u - 0) = subst (λ (v : ℕ). i < 2 ^ v) (omega arith) (subst (λ (x : ℕ). i < x) (sym (size2 size lawful)) low) in
      let e : i * 1 + 0 ≡ i = omega arith in
      (radix_line_of q 2 0 (share 2 (u - 0) i s) 0, λ d. subst (λ (j : ℕ). StandsPair m [] (radix_line_of q 2 0 (share 2 (u - 0) i s) 0) (entries d bl j)) e (held d i 0 below (lit< tt)))
  held_none Radix4 size q s bl lawful held i low =
      let u : ℕ = stage_count Radix4 size in
      let below : i < 4 ^ (u - 0) = subst (λ (v : ℕ). i < 4 ^ v) (omega arith) (subst (λ (x : ℕ). i < x) (sym (size4 size lawful)) low) in
      let e : i * 1 + 0 ≡ i = omega arith in
      (radix_line_of q 4 0 (share 4 (u - 0) i s) 0, λ d. subst (λ (j : ℕ). StandsPair m [] (radix_line_of q 4 0 (share 4 (u - 0) i s) 0) (entries d bl j)) e (held d i 0 below (lit< tt)))

  -- so all places are well formed once the stages begin
  begun_formed : (kept : Kept) (bl : Pairs N) → length bl ≡ 256 → (force : Option Numbers) (given : ℕ → Option Complex) (b : Bool) → eqb 0 (stages_for kept.plan) ≡ b → Tied m force given (cond b (Finished kept) (Running kept 0)) bl → Formed (cond b (Finished kept) (Running kept 0)) bl
  begun_formed kept bl long force given true is tied = λ i low.
      formed_at (end_of kept.plan.method kept.plan.size kept.plan.twiddle_scale tied.1.samples i) bl i (omega (arith, tied.0.long)) (held_last m kept.plan.method kept.plan.size kept.plan.twiddle_scale tied.1.samples bl kept.plan.size_lawful tied.1.held i low) (some_pair bl long)
  begun_formed kept bl long force given false is tied = λ i low.
      let held = held_none kept.plan.method kept.plan.size kept.plan.twiddle_scale tied.1.samples bl kept.plan.size_lawful tied.1.held i low in
      formed_at held.0 bl i (omega (arith, tied.0.long)) held.1 (some_pair bl long)

  keeps_progress : (kept : Kept) (t : ℕ) (b : Bool) → kept.modulus ≡ m.modulus → Keeps (cond b (Finished kept) (Running kept t))
  keeps_progress kept t true e = e
  keeps_progress kept t false e = e

  formed_progress : (kept : Kept) (t : ℕ) (bl : Pairs N) (b : Bool) → ((i : ℕ) → i < kept.plan.size → is_well_formed_at m bl i ≡ true) → Formed (cond b (Finished kept) (Running kept t)) bl
  formed_progress kept t bl true h = h
  formed_progress kept t bl false h = h

  fit_same : (st st' : State) (bl bl' : Pairs N) → Fit st bl → st' ≡ st → bl' ≡ bl → Fit st' bl'
  fit_same st st' bl bl' h e f = subst (λ (s : State). Fit s bl') (sym e) (subst (λ (b : Pairs N). Fit st b) (sym f) h)

  accepted_met : (a : Answer) → a ≡ Ok None → Reachable a
  accepted_met a e = subst Reachable (sym e) tt

  -- what one call leaves
  abbrev FitAfter : State → Pairs N → Answer → Type 0
  FitAfter st bl a = Fit st bl × Reachable a

  step_by : (o : Option Refusal) (start : Pairs N) (events : List (Event N)) (st : State) (bl : Pairs N) → Reached m start events st bl → Fit st bl → (c : Call N) → Brings c → (a : Answer) (st' : State) (bl' : Pairs N) → declined m st bl c ≡ o → Step m st bl c a st' bl' → StepBy o m st bl c a st' bl' → FitAfter st' bl' a
  step_by (Some x) start events st bl r h c b a st' bl' is step s = (fit_same st st' bl bl' h s.after s.holds, subst Reachable (sym s.answer) (declined_met st bl h c b x is))
  step_by None start events st bl r h (PlanCall k size q1 q2) b a st' bl' is step s =
      let made = s.becomes in
      (fit_same _ st' bl bl' (record { long = h.long; keeps = refl; formed = tt }) made.after made.holds, accepted_met a made.answer)
  step_by None start events Idle bl r h (LoadCall n x) b a st' bl' is step s = absurd s
  step_by None start events (Filling kept count) bl r h (LoadCall n x) b a st' bl' is step s =
      (fit_same _ st' _ bl' (record { long = length-set bl _ x ∙ h.long; keeps = h.keeps; formed = tt }) s.after s.holds, accepted_met a s.answer)
  step_by None start events (Running kept t) bl r h (LoadCall n x) b a st' bl' is step s = absurd s
  step_by None start events (Finished kept) bl r h (LoadCall n x) b a st' bl' is step s = absurd s
  step_by None start events Idle bl r h BeginCall b a st' bl' is step s = absurd s
  step_by None start events (Filling kept count) bl r h BeginCall b a st' bl' is step s =
      let after : st' ≡ progress kept 0 = s.after in
      let holds : bl' ≡ bl = s.holds in
      let past : List (Event N) = record { call = BeginCall; answer = a } ∷ events in
      let tied : Tied m (plan_in past) (samples_in m past) st' bl' = reached_tied m ok start past st' bl' (Filling kept count, bl, r, step) in
      let here : Tied m (plan_in past) (samples_in m past) (progress kept 0) bl = subst (λ (u : State). Tied m (plan_in past) (samples_in m past) u bl) after (subst (λ (y : Pairs N). Tied m (plan_in past) (samples_in m past) st' y) holds tied) in
      (fit_same (progress kept 0) st' bl bl' (record { long = h.long; keeps = keeps_progress kept 0 (eqb 0 (stages_for kept.plan)) h.keeps; formed = begun_formed kept bl h.long (plan_in past) (samples_in m past) (eqb 0 (stages_for kept.plan)) refl here }) after holds, accepted_met a s.answer)
  step_by None start events (Running kept t) bl r h BeginCall b a st' bl' is step s = absurd s
  step_by None start events (Finished kept) bl r h BeginCall b a st' bl' is step s = absurd s
  step_by None start events Idle bl r h AdvanceCall b a st' bl' is step s = absurd s
  step_by None start events (Filling kept count) bl r h AdvanceCall b a st' bl' is step s = absurd s
  step_by None start events (Running kept t) bl r h AdvanceCall b a st' bl' is step s =
      (fit_same (progress kept (suc t)) st' bl' bl' (record { long = s.stage.long ∙ h.long; keeps = keeps_progress kept (suc t) (eqb (suc t) (stages_for kept.plan)) h.keeps; formed = formed_progress kept (suc t) bl' (eqb (suc t) (stages_for kept.plan)) s.stage.formed }) s.becomes.after refl, accepted_met a s.becomes.answer)
  step_by None start events (Finished kept) bl r h AdvanceCall b a st' bl' is step s = absurd s
  step_by None start events Idle bl r h (LineCall k) b a st' bl' is step s = absurd s
  step_by None start events (Filling kept count) bl r h (LineCall k) b a st' bl' is step s = absurd s
  step_by None start events (Running kept t) bl r h (LineCall k) b a st' bl' is step s = absurd s
  step_by None start events (Finished kept) bl r h (LineCall k) b a st' bl' is step s =
      (fit_same (Finished kept) st' bl bl' h s.after s.holds, subst Reachable (sym s.answer) tt)
  step_by None start events Idle bl r h RestartCall b a st' bl' is step s = absurd s
  step_by None start events (Filling kept count) bl r h RestartCall b a st' bl' is step s =
      (fit_same (Filling kept 0) st' bl bl' (record { long = h.long; keeps = h.keeps; formed = tt }) s.after s.holds, accepted_met a s.answer)
  step_by None start events (Running kept t) bl r h RestartCall b a st' bl' is step s =
      (fit_same (Filling kept 0) st' bl bl' (record { long = h.long; keeps = h.keeps; formed = tt }) s.after s.holds, accepted_met a s.answer)
  step_by None start events (Finished kept) bl r h RestartCall b a st' bl' is step s =
      (fit_same (Filling kept 0) st' bl bl' (record { long = h.long; keeps = h.keeps; formed = tt }) s.after s.holds, accepted_met a s.answer)

  pub step_fit : (start : Pairs N) (events : List (Event N)) (st : State) (bl : Pairs N) → Reached m start events st bl → Fit st bl → (c : Call N) → Brings c → (a : Answer) (st' : State) (bl' : Pairs N) → Step m st bl c a st' bl' → Fit st' bl' × Reachable a
  step_fit start events st bl r h c b a st' bl' step = step_by (declined m st bl c) start events st bl r h c b a st' bl' refl step step
