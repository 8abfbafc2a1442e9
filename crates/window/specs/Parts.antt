-- What the parts of a call answer: declined as the step says, with the block as it was, or done.
use Rattle.std.specs.Prelude.{◌≡◌, ℕ, ◌<◌, ◌==◌, true, false, [], Some, None, Ok, Err, Result, slice_set}
use Rattle.refusal.specs.declared.kinds.Refusal.{Refusal}
use Rattle.refusal.specs.declared.kinds.Refusal.TheVariants.{Strange}
use Rattle.plan.specs.declared.method.Method.{Method}
use Rattle.plan.specs.declared.plan.Plan.{Plan}
use Rattle.plan.specs.Making.{Has}
use Rattle.lines.specs.Places.{place_of}
use Rattle.scheme.specs.Meaning.{Meaning}
use Rattle.scheme.specs.Hidden.{StandsPair}
use Rattle.states.specs.declared.Kept.{Kept}
use Rattle.states.specs.declared.State.TheVariants.{Filling, Running, Finished}
use Rattle.states.specs.declared.Call.TheVariants.{Load, Advance, Line as LineCall}
use Rattle.states.specs.declared.Line.{Line}
use Rattle.states.specs.Step.{Pairs, plan_declined, declined, line_malformed, line_read, stated, StageDone}

-- the plan of these numbers, with the modulus, where it is not declined
abbrev pub Planning : {N : Type 0} → Meaning N → Pairs N → Method → ℕ → ℕ → ℕ → Result Kept Refusal → Type 0
Planning m bl k size q1 q2 (Ok kept) = (plan_declined m bl k size q1 q2 ≡ None) × Has kept.plan k size q1 q2 × (kept.modulus ≡ m.modulus)
Planning m bl k size q1 q2 (Err x) = plan_declined m bl k size q1 q2 ≡ Some x

-- the scheme has the modulus that the plan was made for
abbrev pub Same : {N : Type 0} → Meaning N → Kept → Result (Unit {0}) Refusal → Type 0
Same m kept (Ok _) = (m.modulus == kept.modulus) ≡ true
Same m kept (Err e) = ((m.modulus == kept.modulus) ≡ false) × (e ≡ Strange)

-- loading the pair as sample n, which there is, is not declined, whatever the block holds
abbrev pub Checking : {N : Type 0} → Meaning N → Kept → ℕ → ℕ → N × N → Result (Unit {0}) Refusal → Type 0
Checking m kept count n x (Ok _) = (declined m (Filling kept count) [] (Load n x) ≡ None) × (n < kept.plan.size)
Checking m kept count n x (Err e) = declined m (Filling kept count) [] (Load n x) ≡ Some e

-- the pair at the place of sample n, where it is not declined
abbrev pub Loading : {N : Type 0} → Meaning N → Kept → ℕ → ℕ → N × N → Pairs N → Pairs N → Result (Unit {0}) Refusal → Type 0
Loading m kept count n x before after (Ok _) = (declined m (Filling kept count) before (Load n x) ≡ None) × (after ≡ slice_set before (place_of kept.plan.method kept.plan.size n) x)
Loading m kept count n x before after (Err e) = (declined m (Filling kept count) before (Load n x) ≡ Some e) × (after ≡ before)

-- stage t + 1, where it is not declined
abbrev pub Advancing : {N : Type 0} → Meaning N → Kept → ℕ → Pairs N → Pairs N → Result (Unit {0}) Refusal → Type 0
Advancing m kept t before after (Ok _) = (declined m (Running kept t) before Advance ≡ None) × StageDone m kept.plan t before after
Advancing m kept t before after (Err e) = (declined m (Running kept t) before Advance ≡ Some e) × (after ≡ before)

-- a hidden pair that stands for the number that line k is read from, where the pairs read are well formed
abbrev pub Reading : {N : Type 0} → Meaning N → Plan → ℕ → Pairs N → Result (N × N) Refusal → Type 0
Reading m p k bl (Ok x) = (line_malformed m p.method bl p.size k ≡ None) × StandsPair m [] (line_read m p p.method bl k) x
Reading m p k bl (Err e) = line_malformed m p.method bl p.size k ≡ Some e

-- line k as it is stated, where it is not declined
abbrev pub Opening : {N : Type 0} → Meaning N → Kept → ℕ → Pairs N → Result Line Refusal → Type 0
Opening m kept k bl (Ok l) = (declined m (Finished kept) bl (LineCall k) ≡ None) × (l ≡ stated m kept.plan k (line_read m kept.plan kept.plan.method bl k))
Opening m kept k bl (Err e) = declined m (Finished kept) bl (LineCall k) ≡ Some e
