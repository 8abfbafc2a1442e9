-- One sample more, or one replaced.
use Rattle.std.proofs.Common.{◌≡◌, ℕ, suc, ◌<◌, ◌≤◌, Bool, true, false, cond, eqb, ◌≢◌, [], length, get_or, set, Some, Option, sym, refl, ap, ◌∙◌, subst, arith, get_or-set_other, get_or-set_same, eqb-true}
use borrow.Author.Tests.{eqb-false}
use Rattle.integers.specs.declared.Complex.{Complex}
use Rattle.plan.specs.declared.method.Method.{Method}
use Rattle.plan.specs.declared.plan.Plan.{Plan}
use Rattle.plan.specs.Methods.{sized}
use Rattle.lines.specs.Places.{place_of}
use Rattle.lines.proofs.Digits.{places_stand_lem}
use Rattle.scheme.specs.Meaning.{Meaning, Sound}
use Rattle.scheme.specs.Hidden.{StandsPair, WellFormed}
use Rattle.scheme.specs.Sealing.{means_pair}
use Rattle.stages.specs.Stage.{entries}
use Rattle.states.specs.Step.{Pairs}
use Rattle.right.proofs.Agreeing.{stands_meant}
use Rattle.right.proofs.Tied.{Filled}

-- samples at one place only when they are the same
places_apart : (k : Method) (size n i : ℕ) → sized k size ≡ true → n < size → i < size → n ≢ i → place_of k size n ≢ place_of k size i
places_apart k size n i h a b ne e =
    ne (sym (places_stand_lem.back k size n h a) ∙ ap (λ (x : ℕ). place_of k size x) e ∙ places_stand_lem.back k size i h b)

-- the samples with the one at i changed
abbrev changed : ℕ → Complex → (ℕ → Complex) → ℕ → Complex
changed i z s n = cond (eqb n i) z (s n)

-- one more sample is loaded where it is the next
next_count : (i count n : ℕ) → n ≢ i → n < cond (eqb i count) (suc count) count → n < count
next_count i count n ne l = go (eqb i count) refl l
  where
    go : (e : Bool) → eqb i count ≡ e → n < cond e (suc count) count → n < count
    go true e l = let same : i ≡ count = eqb-true i count e in let far : n ≢ count = λ x. ne (x ∙ sym same) in omega arith
    go false e l = l

most_count : (i count size : ℕ) → count ≤ size → i < size → cond (eqb i count) (suc count) count ≤ size
most_count i count size a b = go (eqb i count) refl
  where
    go : (e : Bool) → eqb i count ≡ e → cond e (suc count) count ≤ size
    go true e = let same : i ≡ count = eqb-true i count e in omega arith
    go false e = a

less_count : (i count size n : ℕ) → count ≤ size → i < size → n < cond (eqb i count) (suc count) count → n < size
less_count i count size n a b l = let m : cond (eqb i count) (suc count) count ≤ size = most_count i count size a b in omega arith

module _ {N : Type 0} (m : Meaning N) (ok : Sound m) (p : Plan) (given : ℕ → Option Complex) where
  pub filled_more : (i count : ℕ) (x : N × N) (bl : Pairs N) → i < p.size → p.size ≤ length bl → WellFormed m x → Filled m p given count bl → Filled m p (λ n. cond (eqb n i) (Some (means_pair m x)) (given n)) (cond (eqb i count) (suc count) count) (set bl (place_of p.method p.size i) x)
  filled_more i count x bl below long w h =
      record {
        most = most_count i count p.size h.most below;
        samples = changed i (means_pair m x) h.samples;
        loads = λ n l. loads-at n l (eqb n i) refl;
        placed = λ n l d. placed_at n l d (eqb n i) refl;
      }
    where
      loads-at : (n : ℕ) → n < cond (eqb i count) (suc count) count → (e : Bool) → eqb n i ≡ e → cond e (Some (means_pair m x)) (given n) ≡ Some (cond e (means_pair m x) (h.samples n))
      loads-at n l true e = refl
      loads-at n l false e = h.loads n (next_count i count n (eqb-false n i e) l)

      placed_at : (n : ℕ) → n < cond (eqb i count) (suc count) count → (d : N × N) → (e : Bool) → eqb n i ≡ e → StandsPair m [] (cond e (means_pair m x) (h.samples n)) (entries d (set bl (place_of p.method p.size i) x) (place_of p.method p.size n))
      placed_at n l d true e =
          let same : n ≡ i = eqb-true n i e in
          let inside : place_of p.method p.size i < p.size = places_stand_lem.below p.method p.size i p.size_lawful below in
          let there : get_or (set bl (place_of p.method p.size i) x) (place_of p.method p.size i) d ≡ x = get_or-set_same bl (place_of p.method p.size i) x d (omega arith) in
          subst (λ (j : ℕ). StandsPair m [] (means_pair m x) (entries d (set bl (place_of p.method p.size i) x) (place_of p.method p.size j))) (sym same)
          (subst (λ (y : N × N). StandsPair m [] (means_pair m x) y) (sym there) (stands_meant m ok x w))
      placed_at n l d false e =
          let apart : n ≢ i = eqb-false n i e in
          let far : place_of p.method p.size n ≢ place_of p.method p.size i = places_apart p.method p.size n i p.size_lawful (less_count i count p.size n h.most below l) below apart in
          subst (λ (y : N × N). StandsPair m [] (h.samples n) y) (sym (get_or-set_other bl (place_of p.method p.size i) (place_of p.method p.size n) x d far))
          (h.placed n (next_count i count n apart l) d)
