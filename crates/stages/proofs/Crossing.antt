-- One butterfly in place: the factors, then the butterfly of the radix.
use Rattle.std.proofs.Common.{◌≡◌, ℕ, ◌+◌, ◌*◌, ◌^◌, ◌<◌, List, sym, ap, ◌∙◌, subst, arith}
use native.Mathlib.Nat.{pow-succ'}
use Rattle.integers.specs.Complex.{◌⊗◌}
use Rattle.scheme.specs.Meaning.{Meaning}
use Rattle.scheme.specs.Hidden.{StandsPair}
use Rattle.lines.specs.Lines.{weight, butterfly, mix}
use Rattle.lines.specs.Places.{place}
use Rattle.stages.specs.Mixing.{Replaced}
use Rattle.stages.specs.Stage.{entries, CrossedAt}

-- entry i of a butterfly, counted in spans
place_at : (r t g k i span : ℕ) → span ≡ r ^ t → g * (r * span) + k + i * span ≡ place r t g k i
unfolding place
place_at r t g k i span e =
    let a : g * (r * span) + k + i * span ≡ g * (r * span) + (i * span + k) = omega arith in
    a ∙ ap (λ n. g * (r * n) + (i * n + k)) e ∙ ap (λ n. g * n + (i * r ^ t + k)) (sym (pow-succ' r t))

pub crossed : {Number : Type 0} (m : Meaning Number) (q r span g k : ℕ) (before weighted after : List (Number × Number)) → Replaced m r (g * (r * span) + k) span (λ x i. weight q (r * span) i k ⊗ x i) before weighted → Replaced m r (g * (r * span) + k) span (butterfly r) weighted after → CrossedAt m q r span g k before after
unfolding mix
crossed m q r span g k before weighted after h1 h2 t e v d =
    record {
      mixed =
          λ x stood l h.
          subst (λ n. StandsPair m v (butterfly r (λ i. weight q n i k ⊗ x i) l) (entries d after (place r t g k l))) (ap (λ n. r * n) e ∙ sym (pow-succ' r t))
          (subst (λ p. StandsPair m v (butterfly r (λ i. weight q (r * span) i k ⊗ x i) l) (entries d after p)) (place_at r t g k l span e)
          (h2.made v d (λ i. weight q (r * span) i k ⊗ x i) (h1.made v d x (λ i hi. subst (λ p. StandsPair m v (x i) (entries d before p)) (sym (place_at r t g k i span e)) (stood i hi))) l h));
      kept = λ p not. let apart = λ (i : ℕ) (hi : i < r) (same : p ≡ g * (r * span) + k + i * span). not i hi (same ∙ place_at r t g k i span e) in h2.kept p apart d ∙ h1.kept p apart d;
    }
