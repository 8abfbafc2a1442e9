-- Plans of the same numbers are equal.
use Rattle.std.proofs.Common.{◌≡◌, ℕ, ◌≤◌, true, sym, ◌∙◌}
use mathlib.Core.HLevel.{is_prop→PathP}
use native.Mathlib.Bridge.{le_prop}
use mathlib.Core.Bool.{Bool-set}
use Rattle.plan.specs.declared.plan.Plan.{Plan}
use Rattle.plan.specs.declared.method.Method.{Method}
use Rattle.plan.specs.Making.{Has}
use Rattle.plan.specs.Methods.{sized}

pub same_plan : (p q : Plan) (k : Method) (m q1 q2 : ℕ) → Has p k m q1 q2 → Has q k m q1 q2 → p ≡ q
same_plan p q k m q1 q2 a b =
    let e0 : p.method ≡ q.method = a.method ∙ sym b.method in
    let e1 : p.size ≡ q.size = a.size ∙ sym b.size in
    let e2 : p.sample_scale ≡ q.sample_scale = a.sample ∙ sym b.sample in
    let e3 : p.twiddle_scale ≡ q.twiddle_scale = a.twiddle ∙ sym b.twiddle in
    λ j. record {
      method = e0 j;
      size = e1 j;
      sample_scale = e2 j;
      twiddle_scale = e3 j;
      size_lawful = is_prop→PathP (λ k. sized (e0 k) (e1 k) ≡ true) (λ k. Bool-set _ _) p.size_lawful q.size_lawful j;
      sample_positive = is_prop→PathP (λ k. 1 ≤ e2 k) (λ k. le_prop) p.sample_positive q.sample_positive j;
      sample_limited = is_prop→PathP (λ k. e2 k ≤ 32767) (λ k. le_prop) p.sample_limited q.sample_limited j;
      twiddle_positive = is_prop→PathP (λ k. 1 ≤ e3 k) (λ k. le_prop) p.twiddle_positive q.twiddle_positive j;
      twiddle_limited = is_prop→PathP (λ k. e3 k ≤ 32768) (λ k. le_prop) p.twiddle_limited q.twiddle_limited j;
    }
