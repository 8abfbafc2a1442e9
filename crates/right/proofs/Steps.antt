-- Every call keeps the state and the block tied to the plan in force and the samples last loaded.
use Rattle.std.proofs.Common.{◌≡◌, ℕ, suc, ◌≤◌, Bool, true, false, cond, ◌&&◌, eqb, ltb, leb, List, [], ◌∷◌, length, set, pos, Some, None, Ok, Err, Option, Result, sym, refl, ap, subst, arith, length-set, ltb-true, leb-true}
use Rattle.integers.specs.declared.Complex.{Complex}
use Rattle.integers.specs.Complex.{real}
use Rattle.refusal.specs.declared.kinds.Refusal.{Refusal}
use Rattle.refusal.specs.declared.kinds.Refusal.TheVariants.{Block, Narrow, Place, Strange, Malformed, Short}
use Rattle.plan.specs.declared.method.Method.{Method}
use Rattle.plan.specs.declared.plan.Plan.{Plan}
use Rattle.plan.specs.Meaning.{figures_of, least_modulus_of}
use Rattle.plan.specs.Making.{Has, refused}
use Rattle.lines.specs.Places.{place_of}
use Rattle.scheme.specs.Meaning.{Meaning, Sound}
use Rattle.scheme.specs.Hidden.{WellFormed, well_formed}
use Rattle.stages.proofs.Blocks.{both_true}
use Rattle.states.specs.declared.Kept.{Kept}
use Rattle.states.specs.declared.State.{State}
use Rattle.states.specs.declared.State.TheVariants.{Idle, Filling, Running, Finished}
use Rattle.states.specs.declared.Call.{Call}
use Rattle.states.specs.declared.Call.TheVariants.{Plan as PlanCall, Load, Begin, Advance, Line as LineCall, Restart}
use Rattle.states.specs.declared.Line.{Line}
use Rattle.states.specs.Step.{Pairs, Step, StepBy, Accepted, Declined, Becomes, Planned, Advanced, declined, plan_declined, unless, first, progress}
use Rattle.states.specs.History.{Event, Numbers, plan_after, samples_after, plan_in, samples_in, Reached}
use Rattle.states.proofs.Declining.{unless_none, first_none}
use Rattle.right.proofs.Tied.{numbers_of, Tied, force_long, progress_tied, filled_ran, ran_next, filled_none}
use Rattle.right.proofs.Loading.{filled_more}

-- ---- what it takes not to be declined

nothing : Complex
nothing = real (pos 0)

module _ {N : Type 0} (m : Meaning N) (ok : Sound m) (force : Option Numbers) (given : ℕ → Option Complex) where
  -- what is tied after one more call
  abbrev After : Call N → Result (Option Line) Refusal → State → Pairs N → Type 0
  After c a st bl = Tied m (plan_after a c force) (samples_after m a c given) st bl

  becomes : (c : Call N) (reply : Option Line) (st : State) (bl : Pairs N) (a : Result (Option Line) Refusal) (st' : State) (bl' : Pairs N) → Becomes reply st bl a st' bl' → After c (Ok reply) st bl → After c a st' bl'
  becomes c reply st bl a st' bl' h t =
      subst (λ (x : Result (Option Line) Refusal). After c x st' bl') (sym h.answer)
      (subst (λ (x : State). After c (Ok reply) x bl') (sym h.after) (subst (λ (x : Pairs N). After c (Ok reply) st x) (sym h.holds) t))

  -- a declined call
  stays : (c : Call N) (x : Refusal) (st : State) (bl : Pairs N) (a : Result (Option Line) Refusal) (st' : State) (bl' : Pairs N) → Declined x st bl a st' bl' → Tied m force given st bl → After c a st' bl'
  stays c x st bl a st' bl' h t =
      subst (λ (y : Result (Option Line) Refusal). After c y st' bl') (sym h.answer)
      (subst (λ (y : State). After c (Err x) y bl') (sym h.after) (subst (λ (y : Pairs N). After c (Err x) st y) (sym h.holds) t))

  -- an accepted plan
  planned : (k : Method) (size q1 q2 : ℕ) (bl : Pairs N) (a : Result (Option Line) Refusal) (st' : State) (bl' : Pairs N) → plan_declined m bl k size q1 q2 ≡ None → Planned m bl k size q1 q2 a st' bl' → After (PlanCall k size q1 q2) a st' bl'
  planned k size q1 q2 bl a st' bl' d h =
      let p : Plan = h.plan in
      let has : Has p k size q1 q2 = h.has in
      let (made, tests) = first_none (refused k size q1 q2) _ d in
      let (long, later) = unless_none (leb size (length bl)) Block _ tests in
      let (fits, last) = unless_none (leb (least_modulus_of (figures_of k size q1 q2)) m.modulus) Narrow None later in
      let same : ◌≡◌ {A = Numbers} (record { method = k; size = size; sample = q1; twiddle = q2 }) (numbers_of p) = cc in
      let l : size ≤ length bl = leb-true size (length bl) long in
      let f : least_modulus_of (figures_of k size q1 q2) ≤ m.modulus = leb-true _ _ fits in
      becomes (PlanCall k size q1 q2) None (Filling (record { plan = p; modulus = m.modulus }) 0) bl a st' bl' h.becomes (
        record {
          plan = ap {B = Option Numbers} Some same;
          fits = subst (λ (w : Numbers). least_modulus_of (figures_of w.method w.size w.sample w.twiddle) ≤ m.modulus) same f;
          long = subst (λ (w : Numbers). w.size ≤ length bl) same l;
        },
        filled_none m (λ n. None) p nothing bl,
      )

  -- an accepted load
  load_kept : (kept : Kept) (count n : ℕ) (x : N × N) (bl : Pairs N) (a : Result (Option Line) Refusal) (st' : State) (bl' : Pairs N) → declined m (Filling kept count) bl (Load n x) ≡ None → Accepted m (Filling kept count) bl (Load n x) a st' bl' → Tied m force given (Filling kept count) bl → After (Load n x) a st' bl'
  load_kept kept count n x bl a st' bl' d h (f, t) =
      let (place, later) = unless_none (leb n count && ltb n kept.plan.size) Place _ d in
      let (modulus, last) = unless_none (eqb m.modulus kept.modulus) Strange _ later in
      let (formed, end) = unless_none (well_formed m x) (Malformed n) None last in
      let (low, below) = both_true (leb n count) (ltb n kept.plan.size) place in
      let (re, im) = both_true (m.wf x.0) (m.wf x.1) formed in
      let w : WellFormed m x = record { re = re; im = im } in
      let i : ℕ = place_of kept.plan.method kept.plan.size n in
      becomes (Load n x) None (Filling kept (cond (eqb n count) (suc count) count)) (set bl i x) a st' bl' h (
        force_long m force kept.plan bl (set bl i x) (length-set bl i x) f,
        filled_more m ok kept.plan given n count x bl (ltb-true n kept.plan.size below) f.long w t,
      )

  -- an accepted begin
  begin_kept : (kept : Kept) (count : ℕ) (bl : Pairs N) (a : Result (Option Line) Refusal) (st' : State) (bl' : Pairs N) → declined m (Filling kept count) bl Begin ≡ None → Accepted m (Filling kept count) bl Begin a st' bl' → Tied m force given (Filling kept count) bl → After Begin a st' bl'
  begin_kept kept count bl a st' bl' d h (f, t) =
      let (full, end) = unless_none (leb kept.plan.size count) Short None d in
      becomes Begin None (progress kept 0) bl a st' bl' h
      (progress_tied m force given kept 0 bl (omega arith) f (filled_ran m force given kept.plan count bl (leb-true kept.plan.size count full) t))

  -- an accepted advance
  advance_kept : (kept : Kept) (t : ℕ) (bl : Pairs N) (a : Result (Option Line) Refusal) (st' : State) (bl' : Pairs N) → Advanced m kept t bl a st' bl' → Tied m force given (Running kept t) bl → After Advance a st' bl'
  advance_kept kept t bl a st' bl' h (f, r, due) =
      becomes Advance None (progress kept (suc t)) bl' a st' bl' h.becomes
      (progress_tied m force given kept (suc t) bl' (omega arith) (force_long m force kept.plan bl bl' h.stage.long f)
      (ran_next m force given kept.plan t bl bl' due (h.stage.staged []) r))

  -- an accepted call
  accepted : (c : Call N) (st : State) (bl : Pairs N) (a : Result (Option Line) Refusal) (st' : State) (bl' : Pairs N) → declined m st bl c ≡ None → Accepted m st bl c a st' bl' → Tied m force given st bl → After c a st' bl'
  accepted (PlanCall k size q1 q2) st bl a st' bl' d h t = planned k size q1 q2 bl a st' bl' d h
  accepted (Load n x) Idle bl a st' bl' d h t = absurd h
  accepted (Load n x) (Filling kept count) bl a st' bl' d h t = load_kept kept count n x bl a st' bl' d h t
  accepted (Load n x) (Running kept k) bl a st' bl' d h t = absurd h
  accepted (Load n x) (Finished kept) bl a st' bl' d h t = absurd h
  accepted Begin Idle bl a st' bl' d h t = absurd h
  accepted Begin (Filling kept count) bl a st' bl' d h t = begin_kept kept count bl a st' bl' d h t
  accepted Begin (Running kept k) bl a st' bl' d h t = absurd h
  accepted Begin (Finished kept) bl a st' bl' d h t = absurd h
  accepted Advance Idle bl a st' bl' d h t = absurd h
  accepted Advance (Filling kept count) bl a st' bl' d h t = absurd h
  accepted Advance (Running kept k) bl a st' bl' d h t = advance_kept kept k bl a st' bl' h t
  accepted Advance (Finished kept) bl a st' bl' d h t = absurd h
  accepted (LineCall k) Idle bl a st' bl' d h t = absurd h
  accepted (LineCall k) (Filling kept count) bl a st' bl' d h t = absurd h
  accepted (LineCall k) (Running kept u) bl a st' bl' d h t = absurd h
  accepted (LineCall k) (Finished kept) bl a st' bl' d h t = becomes (LineCall k) _ (Finished kept) bl a st' bl' h t
  accepted Restart Idle bl a st' bl' d h t = absurd h
  accepted Restart (Filling kept count) bl a st' bl' d h (f, t) = becomes Restart None (Filling kept 0) bl a st' bl' h (f, filled_none m (λ n. None) kept.plan nothing bl)
  accepted Restart (Running kept k) bl a st' bl' d h (f, t, due) = becomes Restart None (Filling kept 0) bl a st' bl' h (f, filled_none m (λ n. None) kept.plan nothing bl)
  accepted Restart (Finished kept) bl a st' bl' d h (f, t) = becomes Restart None (Filling kept 0) bl a st' bl' h (f, filled_none m (λ n. None) kept.plan nothing bl)

  -- any call
  step_by : (o : Option Refusal) (c : Call N) (st : State) (bl : Pairs N) (a : Result (Option Line) Refusal) (st' : State) (bl' : Pairs N) → declined m st bl c ≡ o → StepBy o m st bl c a st' bl' → Tied m force given st bl → After c a st' bl'
  step_by (Some x) c st bl a st' bl' e h t = stays c x st bl a st' bl' h t
  step_by None c st bl a st' bl' e h t = accepted c st bl a st' bl' e h t

  pub step_good : (c : Call N) (st : State) (bl : Pairs N) (a : Result (Option Line) Refusal) (st' : State) (bl' : Pairs N) → Step m st bl c a st' bl' → Tied m force given st bl → After c a st' bl'
  step_good c st bl a st' bl' h t = step_by (declined m st bl c) c st bl a st' bl' refl h t

-- after every list of calls
pub reached_tied : {N : Type 0} (m : Meaning N) → Sound m → (start : Pairs N) (past : List (Event N)) (st : State) (bl : Pairs N) → Reached m start past st bl → Tied m (plan_in past) (samples_in m past) st bl
reached_tied m ok start [] st bl (e, b) = subst (λ (x : State). Tied m None (samples_in m []) x bl) (sym e) tt
reached_tied m ok start (e ∷ past) st bl (st₀, bl₀, h, step) =
    step_good m ok (plan_in past) (samples_in m past) e.call st₀ bl₀ e.answer st bl step (reached_tied m ok start past st₀ bl₀ h)
