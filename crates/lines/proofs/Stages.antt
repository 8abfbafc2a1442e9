-- Stages compose: the theorem on places, at relations that a test decides.
use mathlib.Core.Path.{◌≡◌, sym, subst}
use Prim.Native.Nat.{ℕ, ◌-◌, ◌^◌, ◌<◌, ◌≤◌}
use native.Mathlib.Omega.{arith}
use lib.Dec.{lit≤}
use Rattle.integers.specs.declared.Complex.{Complex}
use Rattle.plan.specs.declared.method.Method.TheVariants.{Radix2, Radix4}
use Rattle.lines.specs.Lines.{radix_line_of, stage_count}
use Rattle.lines.specs.Places.{Standing, Run, Holds, StagesCompose}
use Rattle.lines.proofs.Places.{run_stands, finished}
use Rattle.lines.proofs.Sizes.{size2, size4}

-- after all n stages
pub run_finished : {E : Type 0} (Stands : Complex → E → Type 0) (q r n : ℕ) (s : ℕ → Complex) (blocks : ℕ → ℕ → E) → 1 ≤ r → Run Stands q r n s blocks → (k : ℕ) → k < r ^ n → Stands (radix_line_of q r n s k) (blocks n k)
run_finished Stands q r n s blocks one run k h =
    let e : n - n ≡ 0 = omega arith in
    finished Stands q r n s (blocks n) (subst (λ (u : ℕ). Standing Stands q r n u s (blocks n)) e (run_stands Stands q r n s blocks one run n (omega arith))) k h

pub stages_compose_lem : (E : Type 0) → StagesCompose E
stages_compose_lem E = record {
  after_each = λ stands q r n s blocks one run. run_stands (Holds stands) q r n s blocks one run;
  after_all2 = λ stands m q s blocks h run k less. run_finished (Holds stands) q 2 (stage_count Radix2 m) s blocks (lit≤ tt) run k (subst (λ (n : ℕ). k < n) (sym (size2 m h)) less);
  after_all4 = λ stands m q s blocks h run k less. run_finished (Holds stands) q 4 (stage_count Radix4 m) s blocks (lit≤ tt) run k (subst (λ (n : ℕ). k < n) (sym (size4 m h)) less);
}
