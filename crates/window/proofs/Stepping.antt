-- From the parts of a call to its step.
use Rattle.std.proofs.Common.{◌≡◌, ℕ, zero, suc, ◌/◌, ◌≤◌, Bool, true, false, cond, leb, None, Ok, refl, ap, arith}
use Rattle.plan.specs.declared.method.Method.{Method}
use Rattle.plan.specs.declared.method.Method.TheVariants.{Direct, Radix2, Radix4}
use Rattle.lines.specs.Lines.{divisions, stage_count}
use Rattle.scheme.specs.Meaning.{Meaning}
use Rattle.states.specs.declared.Kept.{Kept}
use Rattle.states.specs.declared.State.{State}
use Rattle.states.specs.declared.State.TheVariants.{Filling}
use Rattle.states.specs.declared.Call.{Call}
use Rattle.states.specs.declared.Call.TheVariants.{Plan as PlanCall}
use Rattle.states.specs.Step.{Pairs, Step, Planned, plan_declined}
use Rattle.window.specs.Parts.{Planning}

-- there are at most 8 stages
divided : (r d m : ℕ) → divisions r d m ≤ d
unfolding divisions
divided r zero m = omega arith
divided r (suc d) m = go (leb m 1) (divided r d (m / r))
  where
    go : (b : Bool) → divisions r d (m / r) ≤ d → cond b 0 (suc (divisions r d (m / r))) ≤ suc d
    go true h = omega arith
    go false h = omega arith

pub stages_few : (k : Method) (m : ℕ) → stage_count k m ≤ 8
stages_few Direct m = omega arith
stages_few Radix2 m = divided 2 8 m
stages_few Radix4 m = divided 4 8 m

module _ {N : Type 0} (m : Meaning N) (st : State) (bl : Pairs N) where
  pub planned : (c : Call N) (k : Method) (size q1 q2 : ℕ) (kept : Kept) → c ≡ PlanCall k size q1 q2 → Planning m bl k size q1 q2 (Ok kept) → Step m st bl c (Ok None) (Filling kept 0) bl
  planned c k size q1 q2 kept is h =
      let e : plan_declined m bl k size q1 q2 ≡ None = h.0 in
      let t : Planned m bl k size q1 q2 (Ok None) (Filling kept 0) bl =
      record {
        plan = kept.plan;
        has = h.1;
        becomes = record { answer = refl; after = ap (λ n. Filling (record { plan = kept.plan; modulus = n }) 0) h.2; holds = refl };
      }
      in
      rw (is, e) t
