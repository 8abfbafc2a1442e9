-- Opened lines are right by what was typed.
use Rattle.std.proofs.Common.{◌≡◌, ℕ, ◌<◌, Bool, true, false, cond, ◌&&◌, eqb, ltb, leb, List, [], ◌∷◌, length, Some, None, Ok, Err, Option, Result, sym, refl, ap, ◌∙◌, subst}
use Rattle.integers.specs.declared.Complex.{Complex}
use Rattle.refusal.specs.declared.kinds.Refusal.{Refusal}
use Rattle.refusal.specs.declared.kinds.Refusal.TheVariants.{Size, SampleScale, TwiddleScale, Block, Narrow, Moment, Place, Strange, Malformed, Short, Large, Mask, Modulus, Garbled, Long}
use Rattle.plan.specs.declared.method.Method.{Method}
use Rattle.lines.specs.Laws.{Within, Samples}
use Rattle.scheme.specs.Meaning.{Meaning, Sound}
use Rattle.scheme.specs.Hidden.{well_formed}
use Rattle.stages.proofs.Blocks.{both}
use Rattle.scheme.specs.Sealing.{SealsPair, means_pair}
use Rattle.states.specs.declared.State.{State}
use Rattle.states.specs.declared.State.TheVariants.{Idle, Filling, Running, Finished}
use Rattle.states.specs.declared.Kept.{Kept}
use Rattle.states.specs.declared.Call.{Call}
use Rattle.states.specs.declared.Call.TheVariants.{Plan as PlanCall, Load as LoadCall, Begin as BeginCall, Advance as AdvanceCall, Line as LineCall, Restart as RestartCall}
use Rattle.states.specs.declared.Line.{Line as OpenedLine}
use Rattle.states.specs.Step.{Pairs, Step, Declined}
use Rattle.states.specs.History.{Numbers, Event, plan_after, plan_in, samples_after, samples_in, Reached, RightBy}
use Rattle.right.proofs.Steps.{reached_tied}
use Rattle.right.proofs.Tied.{numbers_of}
use Rattle.secrecy.specs.Secrecy.{InScale}
use Rattle.runs.specs.Runs.{RightAnswer as RightCall}
use Rattle.runs.proofs.Running.{right_answer}
use Rattle.runs.proofs.Guards.{sealed_within}
use Rattle.command.specs.declared.kinds.Command.{Command}
use Rattle.command.specs.declared.kinds.Command.TheVariants.{Choose, Plan, Load, Begin, Advance, Line, Restart}
use Rattle.std.proofs.lemmas.Option.{same_Some, none-some}
use Rattle.session.specs.Session.{Decoded, Answer, Does, LoadsSealed, LoadsWithin, limit_in}
use Rattle.session.specs.Typed.{Typed, plan_typed_after, plan_typed, samples_typed_after, samples_typed, RightTyped, RightAnswer, Reachable}
use Rattle.session.proofs.Reach.{Fit, Brings, step_fit}

-- a refusal to seal can be met
seal_met : {N : Type 0} (m : Meaning N) (limit : ℕ) (z : Complex) (words : ℕ × ℕ) (e : Refusal) → SealsPair m limit z words (Err e) → Reachable (Err e)
seal_met m limit z words Large h = tt
seal_met m limit z words Mask h = tt
seal_met m limit z words Size h = absurd h
seal_met m limit z words SampleScale h = absurd h
seal_met m limit z words TwiddleScale h = absurd h
seal_met m limit z words Block h = absurd h
seal_met m limit z words Narrow h = absurd h
seal_met m limit z words Moment h = absurd h
seal_met m limit z words Place h = absurd h
seal_met m limit z words Strange h = absurd h
seal_met m limit z words Short h = absurd h
seal_met m limit z words Modulus h = absurd h
seal_met m limit z words Garbled h = absurd h
seal_met m limit z words Long h = absurd h
seal_met m limit z words (Malformed i) h = absurd h

-- one line more
abbrev pub more : Decoded → Answer → List Typed → List Typed
more d a past = record { line = d; answer = a } ∷ past

module _ {N : Type 0} (m : Meaning N) (ok : Sound m) where
  -- what is known of a window after what was typed: the calls that led to it, with the plan and the samples that were typed; the samples lie within the
  -- sample scale of the plan in force; and which refusals it can meet
  pub record Holds (past : List Typed) (st : State) (bl : Pairs N) : Type 0 where
    pub start : Pairs N
    pub events : List (Event N)
    pub reached : Reached m start events st bl
    pub plan : plan_in events ≡ plan_typed past
    pub samples : (i : ℕ) → samples_in m events i ≡ samples_typed past i
    pub within : (i : ℕ) (z : Complex) → samples_typed past i ≡ Some z → InScale (plan_typed past) z
    pub fit : Fit m ok st bl

  -- a new window, where what was typed leaves no plan and no sample in force
  pub holds_new : (past : List Typed) (bl : Pairs N) → length bl ≡ 256 → plan_typed past ≡ None → ((i : ℕ) → samples_typed past i ≡ None) → Holds past Idle bl
  holds_new past bl long plan samples =
      record { start = bl; events = []; reached = (refl, refl); plan = sym plan; samples = λ i. sym (samples i); within = λ i z e. absurd (none-some _ (sym (samples i) ∙ e)); fit = record { long = long; keeps = tt; formed = tt } }

  -- a line that is declined changes nothing
  pub holds_declined : (d : Decoded) (x : Refusal) (past : List Typed) (st : State) (bl : Pairs N) → Holds past st bl → Holds (more d (Err x) past) st bl
  holds_declined d x past st bl h = record { start = h.start; events = h.events; reached = h.reached; plan = h.plan; samples = h.samples; within = h.within; fit = h.fit }

  -- one call more, which does to plan and samples what the line does
  pub holds_more : (past : List Typed) (st : State) (bl : Pairs N) → Holds past st bl → (c : Call N) (d : Decoded) (a : Answer) (st' : State) (bl' : Pairs N) → Step m st bl c a st' bl' → ((p : Option Numbers) → plan_after a c p ≡ plan_typed_after a d p) → ((f g : ℕ → Option Complex) → ((i : ℕ) → f i ≡ g i) → (i : ℕ) → samples_after m a c f i ≡ samples_typed_after a d g i) → ((i : ℕ) (z : Complex) → samples_typed (more d a past) i ≡ Some z → InScale (plan_typed (more d a past)) z) → Fit m ok st' bl' → Holds (more d a past) st' bl'
  holds_more past st bl h c d a st' bl' step plans same within fit =
      record {
        start = h.start;
        events = record { call = c; answer = a } ∷ h.events;
        reached = (st, bl, h.reached, step);
        plan = plans (plan_in h.events) ∙ ap (λ (p : Option Numbers). plan_typed_after a d p) h.plan;
        samples = same (samples_in m h.events) (samples_typed past) h.samples;
        within = within;
        fit = fit;
      }

  -- a line that is right by the calls is right by what was typed
  right_typed : (past : List Typed) (st : State) (bl : Pairs N) (h : Holds past st bl) (k : ℕ) (l : OpenedLine) → RightBy m h.events k l → RightTyped past k l
  right_typed past st bl h k l r =
      let force : plan_typed past ≡ Some r.plan = sym h.plan ∙ r.force in
      let typed : (i : ℕ) → i < r.plan.size → samples_typed past i ≡ Some (r.samples i) = λ i low. sym (h.samples i) ∙ r.loaded i low in
      let within : Samples r.plan.size r.plan.sample r.samples = λ i low. subst (λ (p : Option Numbers). InScale p (r.samples i)) force (h.within i (r.samples i) (typed i low)) in
      record { plan = r.plan; samples = r.samples; force = force; below = r.within; typed = typed; within = within; right = r.right within }

  -- what a line leaves: what is known of the window, that its answer is right, and that it is one that can be met
  abbrev pub Leaves : List Typed → Decoded → Answer → State → Pairs N → Type 0
  Leaves past d a st bl = Holds (more d a past) st bl × RightAnswer past a d × Reachable a

  module _ (past : List Typed) (st : State) (bl : Pairs N) (h : Holds past st bl) where
    -- the answer of a call is right
    right_call : (c : Call N) (a : Answer) (st' : State) (bl' : Pairs N) → Step m st bl c a st' bl' → RightCall m h.events a c
    right_call c a st' bl' step = right_answer m ok h.start h.events st bl h.reached c a st' bl' step

    fit_call : (c : Call N) → Brings m ok c → (a : Answer) (st' : State) (bl' : Pairs N) → Step m st bl c a st' bl' → Fit m ok st' bl' × Reachable a
    fit_call c b a st' bl' step = step_fit m ok h.start h.events st bl h.reached h.fit c b a st' bl' step

    leaves_declined : (d : Decoded) (x : Refusal) → Reachable (Err x) → (a : Answer) (st' : State) (bl' : Pairs N) → Declined x st bl a st' bl' → Leaves past d a st' bl'
    leaves_declined d x met a st' bl' e =
        let here : Leaves past d (Err x) st bl = (holds_declined d x past st bl h, tt, met) in
        subst (λ (y : Answer). Leaves past d y st' bl') (sym e.answer) (subst (λ (s : State). Leaves past d (Err x) s bl') (sym e.after) (subst (λ (b : Pairs N). Leaves past d (Err x) st b) (sym e.holds) here))

    -- a call that leaves plan and samples as they are
    leaves_kept : (c : Call N) → Brings m ok c → (d : Decoded) (a : Answer) (st' : State) (bl' : Pairs N) → Step m st bl c a st' bl' → ((p : Option Numbers) → plan_after a c p ≡ p) → ((p : Option Numbers) → plan_typed_after a d p ≡ p) → ((f : ℕ → Option Complex) (i : ℕ) → samples_after m a c f i ≡ f i) → ((f : ℕ → Option Complex) (i : ℕ) → samples_typed_after a d f i ≡ f i) → Holds (more d a past) st' bl'
    leaves_kept c b d a st' bl' step p1 p2 s1 s2 =
        holds_more past st bl h c d a st' bl' step (λ p. p1 p ∙ sym (p2 p)) (λ f g e i. s1 f i ∙ (e i ∙ sym (s2 g i))) (λ i z e. subst (λ (p : Option Numbers). InScale p z) (sym (p2 (plan_typed past))) (h.within i z (sym (s2 (samples_typed past) i) ∙ e))) (fit_call c b a st' bl' step).0

    leaves_plan : (k : Method) (size q1 q2 : ℕ) (a : Answer) (st' : State) (bl' : Pairs N) → Step m st bl (PlanCall k size q1 q2) a st' bl' → Leaves past (Ok (Plan k size q1 q2)) a st' bl'
    leaves_plan k size q1 q2 (Err x) st' bl' step = (leaves_kept (PlanCall k size q1 q2) tt (Ok (Plan k size q1 q2)) (Err x) st' bl' step (λ p. refl) (λ p. refl) (λ f i. refl) (λ f i. refl), tt, (fit_call (PlanCall k size q1 q2) tt (Err x) st' bl' step).1)
    leaves_plan k size q1 q2 (Ok None) st' bl' step = (holds_more past st bl h (PlanCall k size q1 q2) (Ok (Plan k size q1 q2)) (Ok None) st' bl' step (λ p. refl) (λ f g e i. refl) (λ i z e. absurd (none-some _ e)) (fit_call (PlanCall k size q1 q2) tt (Ok None) st' bl' step).0, tt, (fit_call (PlanCall k size q1 q2) tt (Ok None) st' bl' step).1)
    leaves_plan k size q1 q2 (Ok (Some l)) st' bl' step = absurd (right_call (PlanCall k size q1 q2) (Ok (Some l)) st' bl' step)

    leaves_begin : (a : Answer) (st' : State) (bl' : Pairs N) → Step m st bl BeginCall a st' bl' → Leaves past (Ok Begin) a st' bl'
    leaves_begin (Err x) st' bl' step = (leaves_kept BeginCall tt (Ok Begin) (Err x) st' bl' step (λ p. refl) (λ p. refl) (λ f i. refl) (λ f i. refl), tt, (fit_call BeginCall tt (Err x) st' bl' step).1)
    leaves_begin (Ok None) st' bl' step = (leaves_kept BeginCall tt (Ok Begin) (Ok None) st' bl' step (λ p. refl) (λ p. refl) (λ f i. refl) (λ f i. refl), tt, (fit_call BeginCall tt (Ok None) st' bl' step).1)
    leaves_begin (Ok (Some l)) st' bl' step = absurd (right_call BeginCall (Ok (Some l)) st' bl' step)

    leaves_advance : (a : Answer) (st' : State) (bl' : Pairs N) → Step m st bl AdvanceCall a st' bl' → Leaves past (Ok Advance) a st' bl'
    leaves_advance (Err x) st' bl' step = (leaves_kept AdvanceCall tt (Ok Advance) (Err x) st' bl' step (λ p. refl) (λ p. refl) (λ f i. refl) (λ f i. refl), tt, (fit_call AdvanceCall tt (Err x) st' bl' step).1)
    leaves_advance (Ok None) st' bl' step = (leaves_kept AdvanceCall tt (Ok Advance) (Ok None) st' bl' step (λ p. refl) (λ p. refl) (λ f i. refl) (λ f i. refl), tt, (fit_call AdvanceCall tt (Ok None) st' bl' step).1)
    leaves_advance (Ok (Some l)) st' bl' step = absurd (right_call AdvanceCall (Ok (Some l)) st' bl' step)

    leaves_line : (k : ℕ) (a : Answer) (st' : State) (bl' : Pairs N) → Step m st bl (LineCall k) a st' bl' → Leaves past (Ok (Line k)) a st' bl'
    leaves_line k (Err x) st' bl' step = (leaves_kept (LineCall k) tt (Ok (Line k)) (Err x) st' bl' step (λ p. refl) (λ p. refl) (λ f i. refl) (λ f i. refl), tt, (fit_call (LineCall k) tt (Err x) st' bl' step).1)
    leaves_line k (Ok None) st' bl' step = (leaves_kept (LineCall k) tt (Ok (Line k)) (Ok None) st' bl' step (λ p. refl) (λ p. refl) (λ f i. refl) (λ f i. refl), tt, (fit_call (LineCall k) tt (Ok None) st' bl' step).1)
    leaves_line k (Ok (Some l)) st' bl' step = (
      leaves_kept (LineCall k) tt (Ok (Line k)) (Ok (Some l)) st' bl' step (λ p. refl) (λ p. refl) (λ f i. refl) (λ f i. refl),
      right_typed past st bl h k l (right_call (LineCall k) (Ok (Some l)) st' bl' step),
      tt,
    )

    leaves_restart : (a : Answer) (st' : State) (bl' : Pairs N) → Step m st bl RestartCall a st' bl' → Leaves past (Ok Restart) a st' bl'
    leaves_restart (Err x) st' bl' step = (leaves_kept RestartCall tt (Ok Restart) (Err x) st' bl' step (λ p. refl) (λ p. refl) (λ f i. refl) (λ f i. refl), tt, (fit_call RestartCall tt (Err x) st' bl' step).1)
    leaves_restart (Ok None) st' bl' step = (holds_more past st bl h RestartCall (Ok Restart) (Ok None) st' bl' step (λ p. refl) (λ f g e i. refl) (λ i z e. absurd (none-some _ e)) (fit_call RestartCall tt (Ok None) st' bl' step).0, tt, (fit_call RestartCall tt (Ok None) st' bl' step).1)
    leaves_restart (Ok (Some l)) st' bl' step = absurd (right_call RestartCall (Ok (Some l)) st' bl' step)

    -- a sealed sample is loaded: its pair means the sample as typed
    same_load : (n : ℕ) (z : Complex) (x : N × N) → means_pair m x ≡ z → (f g : ℕ → Option Complex) → ((i : ℕ) → f i ≡ g i) → (i : ℕ) → cond (eqb i n) (Some (means_pair m x)) (f i) ≡ cond (eqb i n) (Some z) (g i)
    same_load n z x e f g same i = ap (λ (y : Complex). cond (eqb i n) (Some y) (f i)) e ∙ ap (λ (y : Option Complex). cond (eqb i n) (Some z) y) (same i)

    within_load : (b : Bool) (y z : Complex) (before : Option Complex) → InScale (plan_typed past) z → (before ≡ Some y → InScale (plan_typed past) y) → cond b (Some z) before ≡ Some y → InScale (plan_typed past) y
    within_load true y z before this others e = subst (λ (v : Complex). InScale (plan_typed past) v) (same_Some _ _ e) this
    within_load false y z before this others e = others e

    leaves_sealed : (n : ℕ) (z : Complex) (words : ℕ × ℕ) (x : N × N) → well_formed m x ≡ true → means_pair m x ≡ z → InScale (plan_typed past) z → (a : Answer) (st' : State) (bl' : Pairs N) → Step m st bl (LoadCall n x) a st' bl' → Leaves past (Ok (Load n z words)) a st' bl'
    leaves_sealed n z words x formed e scale (Err y) st' bl' step = (leaves_kept (LoadCall n x) formed (Ok (Load n z words)) (Err y) st' bl' step (λ p. refl) (λ p. refl) (λ f i. refl) (λ f i. refl), tt, (fit_call (LoadCall n x) formed (Err y) st' bl' step).1)
    leaves_sealed n z words x formed e scale (Ok None) st' bl' step = (
      holds_more past st bl h (LoadCall n x) (Ok (Load n z words)) (Ok None) st' bl' step (λ p. refl) (same_load n z x e) (λ i y is. within_load (eqb i n) y z (samples_typed past i) scale (h.within i y) is) (fit_call (LoadCall n x) formed (Ok None) st' bl' step).0,
      tt,
      tt,
    )
    leaves_sealed n z words x formed e scale (Ok (Some l)) st' bl' step = absurd (right_call (LoadCall n x) (Ok (Some l)) st' bl' step)

    leaves_seal : (n : ℕ) (z : Complex) (words : ℕ × ℕ) (limit : ℕ) → (Within limit z → InScale (plan_typed past) z) → (r : Result (N × N) Refusal) → SealsPair m limit z words r → (a : Answer) (st' : State) (bl' : Pairs N) → LoadsSealed m st bl n r a st' bl' → Leaves past (Ok (Load n z words)) a st' bl'
    leaves_seal n z words limit scale (Ok x) sealed a st' bl' step =
        let means = sealed_within N m ok limit z words x sealed in
        leaves_sealed n z words x (both sealed.re.sealed.wf sealed.im.sealed.wf) means.0 (scale (subst (λ (y : Complex). Within limit y) means.0 means.1)) a st' bl' step
    leaves_seal n z words limit scale (Err e) sealed a st' bl' declined = leaves_declined (Ok (Load n z words)) e (seal_met m limit z words e sealed) a st' bl' declined

  leaves_filling : (past : List Typed) (kept : Kept) (count : ℕ) (bl : Pairs N) → Holds past (Filling kept count) bl → (n : ℕ) (z : Complex) (words : ℕ × ℕ) (b : Bool) (a : Answer) (st' : State) (bl' : Pairs N) → LoadsWithin m (Filling kept count) bl n z words (cond b (Ok kept.plan.sample_scale) (Err Place)) a st' bl' → Leaves past (Ok (Load n z words)) a st' bl'
  leaves_filling past kept count bl h n z words true a st' bl' (r, sealed, loads) =
      let force : plan_typed past ≡ Some (numbers_of kept.plan) = sym h.plan ∙ (reached_tied m ok h.start h.events (Filling kept count) bl h.reached).0.plan in
      leaves_seal past (Filling kept count) bl h n z words kept.plan.sample_scale (λ w. subst (λ (p : Option Numbers). InScale p z) (sym force) w) r sealed a st' bl' loads
  leaves_filling past kept count bl h n z words false a st' bl' declined = leaves_declined past (Filling kept count) bl h (Ok (Load n z words)) Place tt a st' bl' declined

  leaves_load : (past : List Typed) (st : State) (bl : Pairs N) → Holds past st bl → (n : ℕ) (z : Complex) (words : ℕ × ℕ) (a : Answer) (st' : State) (bl' : Pairs N) → LoadsWithin m st bl n z words (limit_in st n) a st' bl' → Leaves past (Ok (Load n z words)) a st' bl'
  leaves_load past Idle bl h n z words a st' bl' does = leaves_declined past Idle bl h (Ok (Load n z words)) Moment tt a st' bl' does
  leaves_load past (Filling kept count) bl h n z words a st' bl' does = leaves_filling past kept count bl h n z words (leb n count && ltb n kept.plan.size) a st' bl' does
  leaves_load past (Running kept t) bl h n z words a st' bl' does = leaves_declined past (Running kept t) bl h (Ok (Load n z words)) Moment tt a st' bl' does
  leaves_load past (Finished kept) bl h n z words a st' bl' does = leaves_declined past (Finished kept) bl h (Ok (Load n z words)) Moment tt a st' bl' does

  -- what each command leaves
  pub does_leaves : (past : List Typed) (st : State) (bl : Pairs N) → Holds past st bl → (c : Command) (a : Answer) (st' : State) (bl' : Pairs N) → Does m st bl c a st' bl' → Leaves past (Ok c) a st' bl'
  does_leaves past st bl h (Choose c) a st' bl' does = absurd does
  does_leaves past st bl h (Plan k size q1 q2) a st' bl' does = leaves_plan past st bl h k size q1 q2 a st' bl' does
  does_leaves past st bl h (Load n z words) a st' bl' does = leaves_load past st bl h n z words a st' bl' does
  does_leaves past st bl h Begin a st' bl' does = leaves_begin past st bl h a st' bl' does
  does_leaves past st bl h Advance a st' bl' does = leaves_advance past st bl h a st' bl' does
  does_leaves past st bl h (Line k) a st' bl' does = leaves_line past st bl h k a st' bl' does
  does_leaves past st bl h Restart a st' bl' does = leaves_restart past st bl h a st' bl' does
