-- A stage in the making, one butterfly after the other.
use Rattle.std.proofs.Common.{◌≡◌, ℕ, suc, ◌+◌, ◌*◌, ◌/◌, ◌%◌, ◌^◌, ◌<◌, ◌≤◌, List, [], sym, refl, ap, ◌∙◌, subst, arith}
use native.Mathlib.Nat.{pow-succ'}
use native.Mathlib.Decide.{dec_lt}
use lib.Arith.{digits_lt, digits_div, digits_mod}
use Rattle.scheme.specs.Meaning.{Meaning, View}
use Rattle.scheme.specs.Hidden.{StandsPair}
use Rattle.lines.specs.Lines.{mix}
use Rattle.lines.specs.Places.{Crossed, Mixed, place}
use Rattle.lines.proofs.Places.{place_group, place_offset}
use Rattle.stages.specs.Stage.{entries, Making}

-- a butterfly of one of the groups lies in the groups
pub place_inside : (r t groups g k i : ℕ) → g < groups → k < r ^ t → i < r → place r t g k i < groups * r ^ suc t
unfolding place
place_inside r t groups g k i hg hk hi =
    let a : i * r ^ t + k < r ^ suc t = rw pow-succ' (digits_lt hi hk) in
    digits_lt hg a

module _ {Number : Type 0} (m : Meaning Number) (q r t groups : ℕ) where
  -- entries of butterflies that are the same before and after
  mixed_from : (v : View) (g k : ℕ) (a b c e : ℕ → Number × Number) → ((i : ℕ) → i < r → a (place r t g k i) ≡ b (place r t g k i)) → ((i : ℕ) → i < r → c (place r t g k i) ≡ e (place r t g k i)) → Mixed (StandsPair m v) q r t g k b c → Mixed (StandsPair m v) q r t g k a e
  mixed_from v g k a b c e first last h x stood l less =
      subst (StandsPair m v (mix q r t k x l)) (last l less) (h x (λ i n. subst (StandsPair m v (x i)) (first i n) (stood i n)) l less)

  pub making_step : (b g k : ℕ) (start before after : List (Number × Number)) → g < groups → k < r ^ t → b ≡ g * r ^ t + k → Making m q r t groups b start before → ((v : View) (d : Number × Number) → Crossed (StandsPair m v) q r t g k (entries d before) (entries d after)) → Making m q r t groups (b + 1) start after
  making_step b g k start before after hg hk eb h c = record { done = done; left = left; past = past }
    where
      v0 : View
      v0 = []

      -- another butterfly's entries stay
      apart : (d : Number × Number) (g' k' i' : ℕ) → k' < r ^ t → i' < r → (g' * r ^ t + k' ≡ b → ⊥) → entries d after (place r t g' k' i') ≡ entries d before (place r t g' k' i')
      apart d g' k' i' hk' hi' ne =
          (c v0 d).kept (place r t g' k' i') (λ i hi e. ne (ap (λ (x : ℕ). x * r ^ t + k') (place_group r t g k i g' k' i' hk hi hk' hi' e) ∙ ap (λ (x : ℕ). g * r ^ t + x) (place_offset r t g k i g' k' i' hk hi hk' hi' e) ∙ sym eb))

      here : (v : View) (d : Number × Number) → Mixed (StandsPair m v) q r t g k (entries d start) (entries d after)
      here v d =
          mixed_from v g k (entries d start) (entries d before) (entries d after) (entries d after)
          (λ i hi. sym (h.left d g k i hk hi (omega arith)))
          (λ i hi. refl)
          (c v d).mixed

      done_at : (v : View) (d : Number × Number) (g' k' : ℕ) → g' < groups → k' < r ^ t → g' * r ^ t + k' < b + 1 → Dec (g' * r ^ t + k' < b) → Mixed (StandsPair m v) q r t g' k' (entries d start) (entries d after)
      done_at v d g' k' hg' hk' less (yes n) =
          mixed_from v g' k' (entries d start) (entries d start) (entries d before) (entries d after)
          (λ i hi. refl)
          (λ i hi. sym (apart d g' k' i hk' hi (λ x. omega arith)))
          (h.done v d g' k' hg' hk' n)
      done_at v d g' k' hg' hk' less (no n) =
          let e : g' * r ^ t + k' ≡ g * r ^ t + k = omega arith in
          let eg : g ≡ g' = sym (digits_div g hk) ∙ ap (λ (x : ℕ). x / r ^ t) (sym e) ∙ digits_div g' hk' in
          let ek : k ≡ k' = sym (digits_mod g hk) ∙ ap (λ (x : ℕ). x % r ^ t) (sym e) ∙ digits_mod g' hk' in
          subst (λ n. Mixed (StandsPair m v) q r t n k' (entries d start) (entries d after)) eg (subst (λ n. Mixed (StandsPair m v) q r t g n (entries d start) (entries d after)) ek (here v d))

      done : (v : View) (d : Number × Number) (g' k' : ℕ) → g' < groups → k' < r ^ t → g' * r ^ t + k' < b + 1 → Mixed (StandsPair m v) q r t g' k' (entries d start) (entries d after)
      done v d g' k' hg' hk' less = done_at v d g' k' hg' hk' less (dec_lt (g' * r ^ t + k') b)

      left : (d : Number × Number) (g' k' i : ℕ) → k' < r ^ t → i < r → b + 1 ≤ g' * r ^ t + k' → entries d after (place r t g' k' i) ≡ entries d start (place r t g' k' i)
      left d g' k' i hk' hi more = apart d g' k' i hk' hi (λ x. omega arith) ∙ h.left d g' k' i hk' hi (omega arith)

      past : (d : Number × Number) (p : ℕ) → groups * r ^ suc t ≤ p → entries d after p ≡ entries d start p
      past d p far = (c v0 d).kept p (λ i hi e. let n = place_inside r t groups g k i hg hk hi in omega arith) ∙ h.past d p far
