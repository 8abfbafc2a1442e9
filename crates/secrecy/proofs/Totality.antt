-- Under the split over plain residues every list of calls has a run.
use Rattle.std.proofs.Common.{◌≡◌, ℕ, suc, Bool, true, false, cond, eqb, leb, List, [], ◌∷◌, length, set, Some, None, Ok, Err, Option, Result, sym, refl, subst, leb-true}
use Rattle.integers.specs.Modulus.{is_modulus}
use Rattle.refusal.specs.declared.kinds.Refusal.{Refusal}
use Rattle.refusal.specs.declared.kinds.Refusal.TheVariants.{Size, SampleScale, TwiddleScale, Block, Narrow, Strange}
use Rattle.plan.specs.declared.method.Method.{Method}
use Rattle.plan.specs.declared.plan.Plan.{Plan}
use Rattle.plan.specs.Meaning.{figures_of, least_modulus_of}
use Rattle.plan.specs.Methods.{sized}
use Rattle.plan.specs.Making.{Has, refused, within}
use Rattle.lines.specs.Places.{place_of}
use Rattle.split.specs.declared.halves.Halves.{Halves}
use Rattle.states.specs.declared.State.{State}
use Rattle.states.specs.declared.State.TheVariants.{Idle, Filling, Running, Finished}
use Rattle.states.specs.declared.Call.{Call}
use Rattle.states.specs.declared.Call.TheVariants.{Plan as PlanCall, Load, Begin, Advance, Line as LineCall, Restart}
use Rattle.states.specs.declared.Line.{Line}
use Rattle.states.specs.Step.{Pairs, Step, StepBy, Accepted, Becomes, declined, unless, malformed, first_malformed_place, progress, stated, line_read}
use Rattle.states.specs.History.{Numbers, plan_after}
use Rattle.states.proofs.Declining.{unless_none, first_none, malformed_none}
use Rattle.secrecy.specs.Secrecy.{After, Run}
use Rattle.secrecy.proofs.Blocks.{shares}
use Rattle.secrecy.proofs.Steps.{Tied, tied_step}
use Rattle.secrecy.proofs.Masks.{positive}
use Rattle.secrecy.proofs.Making.{after, stage_made}

-- ---- the plan of lawful numbers

both : (a b : Bool) → cond a b false ≡ true → (a ≡ true) × (b ≡ true)
both true b e = (refl, e)
both false b e = cc

pub record Made (k : Method) (m q1 q2 : ℕ) : Type 0 where
  pub plan : Plan
  pub has : Has plan k m q1 q2

pub plan_made : (k : Method) (m q1 q2 : ℕ) → refused k m q1 q2 ≡ None → Made k m q1 q2
plan_made k m q1 q2 e =
    let second : Option Refusal = cond (within 32768 q2) None (Some TwiddleScale) in
    let sample : Option Refusal = cond (within 32767 q1) second (Some SampleScale) in
    let (lawful, e1) = unless_none (sized k m) Size sample e in
    let (w1, e2) = unless_none (within 32767 q1) SampleScale second e1 in
    let (w2, end) = unless_none (within 32768 q2) TwiddleScale None e2 in
    let (least1, most1) = both (leb 1 q1) (leb q1 32767) w1 in
    let (least2, most2) = both (leb 1 q2) (leb q2 32768) w2 in
    record {
      plan = record {
        method = k;
        size = m;
        sample_scale = q1;
        twiddle_scale = q2;
        size_lawful = lawful;
        sample_positive = leb-true 1 q1 least1;
        sample_limited = leb-true q1 32767 most1;
        twiddle_positive = leb-true 1 q2 least2;
        twiddle_limited = leb-true q2 32768 most2;
      };
      has = record { method = refl; size = refl; sample = refl; twiddle = refl };
    }

-- ---- one call

record Goes (n : ℕ) (st : State) (bl : Pairs (Halves ℕ)) (c : Call (Halves ℕ)) : Type 0 where
  answer : Result (Option Line) Refusal
  state : State
  block : Pairs (Halves ℕ)
  step : Accepted (shares n) st bl c answer state block

pub record Steps (n : ℕ) (st : State) (bl : Pairs (Halves ℕ)) (c : Call (Halves ℕ)) : Type 0 where
  pub answer : Result (Option Line) Refusal
  pub state : State
  pub block : Pairs (Halves ℕ)
  pub step : Step (shares n) st bl c answer state block

moment : (x : Refusal) (T : Type 0) → Some x ≡ None → T
moment x T e = cc

module _ (n : ℕ) (modulus : is_modulus n ≡ true) (p : Option Numbers) (bl : Pairs (Halves ℕ)) where
  simply : (r : Option Line) (st : State) (bl' : Pairs (Halves ℕ)) → Becomes r st bl' (Ok r) st bl'
  simply r st bl' = record { answer = refl; after = refl; holds = refl }

  goes : (c : Call (Halves ℕ)) (st : State) → Tied n p st → declined (shares n) st bl c ≡ None → Goes n st bl c
  goes (PlanCall k size q1 q2) st t d =
      let made = plan_made k size q1 q2 (first_none (refused k size q1 q2) (unless (leb size (length bl)) Block (unless (leb (least_modulus_of (figures_of k size q1 q2)) n) Narrow None)) d).0 in
      let st' : State = Filling (record { plan = made.plan; modulus = n }) 0 in
      record { answer = Ok None; state = st'; block = bl; step = record { plan = made.plan; has = made.has; becomes = simply None st' bl } }
  goes (Load i x) Idle t d = moment _ _ d
  goes (Load i x) (Filling kept count) t d = record { answer = Ok None; state = _; block = _; step = simply None (Filling kept (cond (eqb i count) (suc count) count)) (set bl (place_of kept.plan.method kept.plan.size i) x) }
  goes (Load i x) (Running kept j) t d = moment _ _ d
  goes (Load i x) (Finished kept) t d = moment _ _ d
  goes Begin Idle t d = moment _ _ d
  goes Begin (Filling kept count) t d = record { answer = Ok None; state = _; block = _; step = simply None (progress kept 0) bl }
  goes Begin (Running kept j) t d = moment _ _ d
  goes Begin (Finished kept) t d = moment _ _ d
  goes Advance Idle t d = moment _ _ d
  goes Advance (Filling kept count) t d = moment _ _ d
  goes Advance (Running kept j) t d =
      let clean : first_malformed_place (shares n) bl kept.plan.size ≡ None = malformed_none (first_malformed_place (shares n) bl kept.plan.size) (unless_none (eqb n kept.modulus) Strange (malformed (first_malformed_place (shares n) bl kept.plan.size)) d).1 in
      let bl' : Pairs (Halves ℕ) = after n (positive n modulus) kept.plan j t.1 bl clean in
      record { answer = Ok None; state = progress kept (suc j); block = bl'; step = record { stage = stage_made n (positive n modulus) kept.plan j t.1 bl clean; becomes = simply None (progress kept (suc j)) bl' } }
  goes Advance (Finished kept) t d = moment _ _ d
  goes (LineCall k) Idle t d = moment _ _ d
  goes (LineCall k) (Filling kept count) t d = moment _ _ d
  goes (LineCall k) (Running kept j) t d = moment _ _ d
  goes (LineCall k) (Finished kept) t d =
      let r : (Option Line) = Some (stated (shares n) kept.plan k (line_read (shares n) kept.plan kept.plan.method bl k)) in
      record { answer = Ok r; state = Finished kept; block = bl; step = simply r (Finished kept) bl }
  goes Restart Idle t d = moment _ _ d
  goes Restart (Filling kept count) t d = record { answer = Ok None; state = _; block = _; step = simply None (Filling kept 0) bl }
  goes Restart (Running kept j) t d = record { answer = Ok None; state = _; block = _; step = simply None (Filling kept 0) bl }
  goes Restart (Finished kept) t d = record { answer = Ok None; state = _; block = _; step = simply None (Filling kept 0) bl }

  pub steps : (c : Call (Halves ℕ)) (st : State) → Tied n p st → Steps n st bl c
  steps c st t = go (declined (shares n) st bl c) refl
    where
      go : (o : Option Refusal) → declined (shares n) st bl c ≡ o → Steps n st bl c
      go None d =
          let f = goes c st t d in
          record { answer = f.answer; state = f.state; block = f.block; step = subst (λ (o : Option Refusal). StepBy o (shares n) st bl c f.answer f.state f.block) (sym d) f.step }
      go (Some x) d =
          record { answer = Err x; state = st; block = bl; step = subst (λ (o : Option Refusal). StepBy o (shares n) st bl c (Err x) st bl) (sym d) (record { answer = refl; after = refl; holds = refl }) }

-- ---- every list

pub lists_run : (n : ℕ) (modulus : is_modulus n ≡ true) (cs : List (Call (Halves ℕ))) (p : Option Numbers) (st : State) (bl : Pairs (Halves ℕ)) → Tied n p st → (ts : List (After (Halves ℕ))) × Run (shares n) st bl cs ts
lists_run n modulus [] p st bl t = ([], tt)
lists_run n modulus (c ∷ cs) p st bl t =
    let f = steps n modulus p bl c st t in
    let more = lists_run n modulus cs (plan_after f.answer c p) f.state f.block (tied_step n p c st bl f.answer f.state f.block t f.step) in
    (record { answer = f.answer; block = f.block } ∷ more.0, (f.state, f.step, more.1))
