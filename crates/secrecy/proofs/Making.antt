-- Every stage that is due can be done: each half of each pair is mixed by itself.
use Rattle.std.proofs.Common.{◌≡◌, ℕ, zero, suc, ◌+◌, ◌-◌, ◌*◌, ◌^◌, ◌<◌, ◌≤◌, Bool, true, false, cond, ltb, List, [], ◌∷◌, length, get_or, ℤ, pos, None, sym, refl, ap, ◌∙◌, subst, le_of_suc-le-suc, not-suc-le-zero, add-zero, add-suc, suc-add, arith, le-ltb, lt-ltb}
use native.Mathlib.Decide.{dec_lt}
use lib.ListN.{get_or-eq_default}
use Rattle.integers.specs.declared.Complex.{Complex}
use Rattle.integers.specs.Complex.{complex, ◌⊕◌}
use Rattle.integers.specs.Residue.{residue}
use Rattle.integers.proofs.Residues.{residue_below, residue_pos, residue_twice, residue_sum}
use Rattle.plan.specs.declared.plan.Plan.{Plan}
use Rattle.plan.specs.Methods.{base}
use Rattle.lines.specs.Lines.{mix}
use Rattle.lines.specs.Places.{place}
use Rattle.lines.proofs.Places.{place_below, place_group, place_offset, place_entry}
use Rattle.scheme.specs.Meaning.{View}
use Rattle.scheme.specs.Hidden.{StandsPair, well_formed}
use Rattle.split.specs.declared.halves.Halves.{Halves}
use Rattle.stages.specs.Block.{is_well_formed_at}
use Rattle.stages.specs.Stage.{entries}
use Rattle.stages.proofs.Blocks.{sound_there}
use Rattle.states.specs.Step.{Pairs, StageDone, stages_for, first_malformed_place}
use Rattle.secrecy.specs.Secrecy.{half}
use Rattle.secrecy.proofs.Blocks.{Pair, shares, formed_below, formed_within}
use Rattle.secrecy.proofs.Stages.{group, offset, entry, place_of_digits, offset_below, entry_below, base_positive, size_covered}
use Rattle.secrecy.proofs.Mixing.{Agree, agree_mix, mix_sum}

-- ---- a list from its entries

module _ {A : Type 0} where
  -- f(i), f(i + 1), .., k of them
  unfoldable pub values : (ℕ → A) → ℕ → ℕ → List A
  values f i zero = []
  values f i (suc k) = f i ∷ values f (suc i) k

  pub values_length : (f : ℕ → A) (i k : ℕ) → length (values f i k) ≡ k
  unfolding values
  values_length f i zero = refl
  values_length f i (suc k) = ap suc (values_length f (suc i) k)

  pub values_at : (f : ℕ → A) (i k j : ℕ) (d : A) → j < k → get_or (values f i k) j d ≡ f (i + j)
  unfolding values
  values_at f i zero j d h = absurd (not-suc-le-zero h)
  values_at f i (suc k) zero d h = ap f (sym (add-zero i))
  values_at f i (suc k) (suc j) d h = values_at f (suc i) k j d (le_of_suc-le-suc h) ∙ ap f (suc-add i j ∙ sym (add-suc i j))

  pub get_d_any : (xs : List A) (i : ℕ) (d e : A) → i < length xs → get_or xs i d ≡ get_or xs i e
  get_d_any [] i d e h = absurd (not-suc-le-zero h)
  get_d_any (x ∷ xs) zero d e h = refl
  get_d_any (x ∷ xs) (suc i) d e h = get_d_any xs i d e (le_of_suc-le-suc h)

-- ---- one pair of the stage

abbrev nothing : Pair
nothing = (record { first = 0; second = 0 }, record { first = 0; second = 0 })

-- the half h of a pair, as a complex number
abbrev part : Bool → Pair → Complex
part h x = complex (pos (half h x.0)) (pos (half h x.1))

-- the pair whose halves have the residues of the two complex numbers
abbrev paired : ℕ → Complex → Complex → Pair
paired n a b = (record { first = residue a.re n; second = residue b.re n }, record { first = residue a.im n; second = residue b.im n })

module _ (n : ℕ) (some : 0 < n) where
  halves_formed : (a b : ℤ) → (shares n).wf (record { first = residue a n; second = residue b n }) ≡ true
  halves_formed a b = rw (lt-ltb (residue a n) n (residue_below a n some), lt-ltb (residue b n) n (residue_below b n some)) refl

  paired_formed : (a b : Complex) → well_formed (shares n) (paired n a b) ≡ true
  paired_formed a b = rw (halves_formed a.re b.re, halves_formed a.im b.im) refl

  -- a pair of numbers stands for z in a view where the half, or the sum of the halves, has the residues of z
  paired_stands : (a b z : Complex) (v : View) → (v ≡ [] → Agree n (a ⊕ b) z) → ((w : View) → v ≡ false ∷ w → Agree n a z) → ((w : View) → v ≡ true ∷ w → Agree n b z) → StandsPair (shares n) v z (paired n a b)
  paired_stands a b z [] f g k =
      record {
        re = record { wf = halves_formed a.re b.re; reads = sym (residue_sum a.re b.re n some) ∙ (f refl).re };
        im = record { wf = halves_formed a.im b.im; reads = sym (residue_sum a.im b.im n some) ∙ (f refl).im };
      }
  paired_stands a b z (false ∷ w) f g k =
      record { re = record { wf = halves_formed a.re b.re; reads = (g w refl).re }; im = record { wf = halves_formed a.im b.im; reads = (g w refl).im } }
  paired_stands a b z (true ∷ w) f g k =
      record { re = record { wf = halves_formed a.re b.re; reads = (k w refl).re }; im = record { wf = halves_formed a.im b.im; reads = (k w refl).im } }

  -- what a pair stands for has the residues of its half, or of the sum of its halves
  one_agrees : (a : ℕ) (z : ℤ) → a ≡ residue z n → residue (pos a) n ≡ residue z n
  one_agrees a z e = ap (λ (x : ℕ). residue (pos x) n) e ∙ residue_twice z n some

  first_agrees : (x : Pair) (z : Complex) (w : View) → StandsPair (shares n) (false ∷ w) z x → Agree n (part false x) z
  first_agrees x z w s = record { re = one_agrees x.0.first z.re s.re.reads; im = one_agrees x.1.first z.im s.im.reads }

  second_agrees : (x : Pair) (z : Complex) (w : View) → StandsPair (shares n) (true ∷ w) z x → Agree n (part true x) z
  second_agrees x z w s = record { re = one_agrees x.0.second z.re s.re.reads; im = one_agrees x.1.second z.im s.im.reads }

  whole_agrees : (x : Pair) (z : Complex) → StandsPair (shares n) [] z x → Agree n (part false x ⊕ part true x) z
  whole_agrees x z s =
      record {
        re = residue_pos (x.0.first + x.0.second) n ∙ s.re.reads;
        im = residue_pos (x.1.first + x.1.second) n ∙ s.im.reads;
      }

  -- the pair at output l of a butterfly over the pairs e(0), e(1), ..
  abbrev mixed_pair : ℕ → ℕ → ℕ → ℕ → (ℕ → Pair) → ℕ → Pair
  mixed_pair q r t k e l = paired n (mix q r t k (λ i. part false (e i)) l) (mix q r t k (λ i. part true (e i)) l)

  mixed_stands : (q r t k : ℕ) (e : ℕ → Pair) (x : ℕ → Complex) (l : ℕ) (v : View) → ((i : ℕ) → i < r → StandsPair (shares n) v (x i) (e i)) → StandsPair (shares n) v (mix q r t k x l) (mixed_pair q r t k e l)
  mixed_stands q r t k e x l v stood =
      paired_stands (mix q r t k (λ i. part false (e i)) l) (mix q r t k (λ i. part true (e i)) l) (mix q r t k x l) v whole one two
    where
      whole : v ≡ [] → Agree n (mix q r t k (λ i. part false (e i)) l ⊕ mix q r t k (λ i. part true (e i)) l) (mix q r t k x l)
      whole c =
          subst (λ (z : Complex). Agree n z (mix q r t k x l)) (mix_sum q r t k (λ i. part false (e i)) (λ i. part true (e i)) l)
          (agree_mix n some q r t k (λ i. part false (e i) ⊕ part true (e i)) x l (λ i b. whole_agrees (e i) (x i) (subst (λ (u : View). StandsPair (shares n) u (x i) (e i)) c (stood i b))))

      one : (w : View) → v ≡ false ∷ w → Agree n (mix q r t k (λ i. part false (e i)) l) (mix q r t k x l)
      one w c = agree_mix n some q r t k (λ i. part false (e i)) x l (λ i b. first_agrees (e i) (x i) w (subst (λ (u : View). StandsPair (shares n) u (x i) (e i)) c (stood i b)))

      two : (w : View) → v ≡ true ∷ w → Agree n (mix q r t k (λ i. part true (e i)) l) (mix q r t k x l)
      two w c = agree_mix n some q r t k (λ i. part true (e i)) x l (λ i b. second_agrees (e i) (x i) w (subst (λ (u : View). StandsPair (shares n) u (x i) (e i)) c (stood i b)))

  -- ---- the whole stage

  module _ (p : Plan) (t : ℕ) (due : t < stages_for p) (before : Pairs (Halves ℕ)) (clean : first_malformed_place (shares n) before p.size ≡ None) where
    -- the pair of the butterfly at offset k in group g, entry l
    abbrev output : ℕ → ℕ → ℕ → Pair
    output g k l = mixed_pair p.twiddle_scale (base p.method) t k (λ i. get_or before (place (base p.method) t g k i) nothing) l

    -- the pair at place i: mixed among the places of the plan, past them as before
    abbrev made : ℕ → Pair
    made i = cond (ltb i p.size) (output (group (base p.method) t i) (offset (base p.method) t i) (entry (base p.method) t i)) (get_or before i nothing)

    abbrev pub after : Pairs (Halves ℕ)
    after = values made 0 (length before)

    long : length after ≡ length before
    long = values_length made 0 (length before)

    there : (i : ℕ) → i < p.size → i < length before
    there i b = formed_within (shares n) before i (formed_below (shares n) before p.size clean i b)

    at : (i : ℕ) (d : Pair) → i < length before → get_or after i d ≡ made i
    at i d b = values_at made 0 (length before) i d b ∙ ap made (native.Mathlib.Nat.zero-add i)

    among : (i : ℕ) → i < p.size → made i ≡ output (group (base p.method) t i) (offset (base p.method) t i) (entry (base p.method) t i)
    among i b = rw (lt-ltb i p.size b) refl

    beyond : (i : ℕ) → p.size ≤ i → made i ≡ get_or before i nothing
    beyond i b = rw (le-ltb i p.size b) refl

    past : (d : Pair) (i : ℕ) → p.size ≤ i → get_or after i d ≡ get_or before i d
    past d i b =
        elim (dec_lt i (length before)) [
          | yes l ↦ at i d l ∙ beyond i b ∙ get_d_any before i nothing d l
          | no l ↦ let a : length after ≤ i = omega (arith, long) in let c : length before ≤ i = omega arith in get_or-eq_default after d a ∙ sym (get_or-eq_default before d c)
        ]

    formed : (i : ℕ) → i < p.size → is_well_formed_at (shares n) after i ≡ true
    formed i b =
        let r : ℕ = base p.method in
        let x : Pair = output (group r t i) (offset r t i) (entry r t i) in
        let e : i < length after = omega (arith, long, there i b) in
        sound_there (shares n) after i x e (sym (at i x (there i b) ∙ among i b))
        ∙ paired_formed (mix p.twiddle_scale r t (offset r t i) (λ j. part false (get_or before (place r t (group r t i) (offset r t i) j) nothing)) (entry r t i)) (mix p.twiddle_scale r t (offset r t i) (λ j. part true (get_or before (place r t (group r t i) (offset r t i) j) nothing)) (entry r t i))

    staged : (v : View) (d : Pair) (g k : ℕ) → g < base p.method ^ (stages_for p - suc t) → k < base p.method ^ t → (x : ℕ → Complex) → ((i : ℕ) → i < base p.method → StandsPair (shares n) v (x i) (entries d before (place (base p.method) t g k i))) → (l : ℕ) → l < base p.method → StandsPair (shares n) v (mix p.twiddle_scale (base p.method) t k x l) (entries d after (place (base p.method) t g k l))
    staged v d g k hg hk x stood l hl =
        let r : ℕ = base p.method in
        let u : ℕ = stages_for p - suc t in
        let one : 1 ≤ r = base_positive p.method in
        let e : p.size ≡ r ^ u * r ^ suc t = size_covered p.method p.size t p.size_lawful due in
        let inside : (i : ℕ) → i < r → place r t g k i < p.size = λ i b. rw e (place_below r t u g k i hg hk b) in
        let i : ℕ = place r t g k l in
        let c = place_of_digits r t i in
        let eg : group r t i ≡ g = place_group r t g k l (group r t i) (offset r t i) (entry r t i) hk hl (offset_below r t i one) (entry_below r t i one) c in
        let ek : offset r t i ≡ k = place_offset r t g k l (group r t i) (offset r t i) (entry r t i) hk hl (offset_below r t i one) (entry_below r t i one) c in
        let el : entry r t i ≡ l = place_entry r t g k l (group r t i) (offset r t i) (entry r t i) hk hl (offset_below r t i one) (entry_below r t i one) c in
        let same : get_or after i d ≡ output g k l = at i d (there i (inside l hl)) ∙ among i (inside l hl) ∙ (λ j. output (eg j) (ek j) (el j)) in
        subst (λ (y : Pair). StandsPair (shares n) v (mix p.twiddle_scale r t k x l) y) (sym same)
        (mixed_stands p.twiddle_scale r t k (λ j. get_or before (place r t g k j) nothing) x l v
        (λ j b. subst (λ (y : Pair). StandsPair (shares n) v (x j) y) (get_d_any before (place r t g k j) d nothing (there (place r t g k j) (inside j b))) (stood j b)))

    pub stage_made : StageDone (shares n) p t before after
    stage_made = record { staged = staged; formed = formed; past = past; long = long }
