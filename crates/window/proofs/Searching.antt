-- The first malformed place, as it is found and as it is defined.
use Rattle.std.proofs.Common.{◌≡◌, ℕ, zero, suc, ◌+◌, ◌<◌, true, false, Some, None, Option, refl, ap, ◌∙◌, le_of_suc-le-suc, not-suc-le-zero, arith}
use Rattle.scheme.specs.Meaning.{Meaning}
use Rattle.stages.specs.Block.{is_well_formed_at}
use Rattle.stages.specs.Search.{Found}
use Rattle.states.specs.Step.{Pairs, malformed_from, first_malformed_place}

module _ {N : Type 0} (m : Meaning N) (bl : Pairs N) where
  none_from : (k i : ℕ) → ((j : ℕ) → j < k → is_well_formed_at m bl (i + j) ≡ true) → malformed_from m bl i k ≡ None
  none_from zero i h = refl
  none_from (suc k) i h =
      let a : i + 0 ≡ i = omega arith in
      let e : is_well_formed_at m bl i ≡ true = rw a at (h 0 (omega arith)) in
      let r : malformed_from m bl (suc i) k ≡ None =
      none_from k (suc i) (λ j l. let b : i + suc j ≡ suc i + j = omega arith in rw b at (h (suc j) (omega arith)))
      in
      rw e r

  some_from : (d k i : ℕ) → d < k → is_well_formed_at m bl (i + d) ≡ false → ((j : ℕ) → j < d → is_well_formed_at m bl (i + j) ≡ true) → malformed_from m bl i k ≡ Some (i + d)
  some_from d zero i l f h = absurd (not-suc-le-zero l)
  some_from zero (suc k) i l f h =
      let a : i + 0 ≡ i = omega arith in
      let e : is_well_formed_at m bl i ≡ false = rw a at f in
      rw (e, a) refl
  some_from (suc d) (suc k) i l f h =
      let a : i + 0 ≡ i = omega arith in
      let b : i + suc d ≡ suc i + d = omega arith in
      let e : is_well_formed_at m bl i ≡ true = rw a at (h 0 (omega arith)) in
      let r : malformed_from m bl (suc i) k ≡ Some (suc i + d) =
      some_from d k (suc i) (le_of_suc-le-suc l) (rw b at f) (λ j l. let b : i + suc j ≡ suc i + j = omega arith in rw b at (h (suc j) (omega arith)))
      in
      rw (e, b) r

  -- what is found is the first malformed place
  pub found_first : (n : ℕ) (r : Option ℕ) → Found m bl n r → first_malformed_place m bl n ≡ r
  unfolding first_malformed_place
  found_first n None h = none_from n 0 (λ j l. let a : 0 + j ≡ j = omega arith in rw a (h j l))
  found_first n (Some i) h =
      let a : 0 + i ≡ i = omega arith in
      let r : malformed_from m bl 0 n ≡ Some (0 + i) = some_from i n 0 h.0 (rw a h.1) (λ j l. let b : 0 + j ≡ j = omega arith in rw b (h.2 j l)) in
      r ∙ ap Some a
