-- A stage of two blocks that a house cannot tell apart leaves two such blocks.
use Rattle.std.proofs.Common.{◌≡◌, ℕ, zero, suc, ◌+◌, ◌-◌, ◌*◌, ◌/◌, ◌%◌, ◌^◌, ◌<◌, ◌≤◌, Bool, true, false, ◌&&◌, [], ◌∷◌, get_or, pos, None, sym, refl, ap, ◌∙◌, subst, ap₂, add-zero, add-suc, mod-lt, mul_assoc, div-lt_iff_lt-mul, pow-suc, div-add-mod', mul-one, arith}
use mathlib.Core.Path.{fun_ext}
use native.Mathlib.Nat.{pow-zero, pow-succ', one-le-pow}
use native.Mathlib.Decide.{dec_lt}
use Rattle.integers.specs.declared.Complex.{Complex}
use Rattle.integers.specs.Complex.{complex}
use Rattle.plan.specs.declared.method.Method.{Method}
use Rattle.plan.specs.declared.method.Method.TheVariants.{Direct, Radix2, Radix4}
use Rattle.plan.specs.declared.plan.Plan.{Plan}
use Rattle.plan.specs.Methods.{base, sized}
use Rattle.lines.specs.Lines.{stage_count, mix}
use Rattle.lines.specs.Places.{place}
use Rattle.lines.proofs.Places.{place_as, place_below}
use Rattle.lines.proofs.Sizes.{size2, size4}
use Rattle.scheme.specs.Meaning.{Sound}
use Rattle.scheme.specs.Hidden.{StandsPair, WellFormed, read_pair, well_formed}
use Rattle.scheme.proofs.Standing.{pair_itself}
use Rattle.split.specs.declared.halves.Halves.{Halves}
use Rattle.stages.specs.Stage.{entries}
use Rattle.states.specs.Step.{Pairs, StageDone, stages_for, first_malformed_place}
use Rattle.secrecy.specs.Secrecy.{half}
use Rattle.secrecy.proofs.Blocks.{Pair, Known, shares, known, Alike, alike_length, alike_at, alike_of, formed_below, formed_entry}

-- ---- every place of a stage is an entry of one butterfly

abbrev pub group : ℕ → ℕ → ℕ → ℕ
group r t p = p / r ^ t / r

abbrev pub offset : ℕ → ℕ → ℕ → ℕ
offset r t p = p % r ^ t

abbrev pub entry : ℕ → ℕ → ℕ → ℕ
entry r t p = p / r ^ t % r

pub place_of_digits : (r t p : ℕ) → place r t (group r t p) (offset r t p) (entry r t p) ≡ p
place_of_digits r t p =
    place_as r t (group r t p) (offset r t p) (entry r t p)
    ∙ ap (λ (x : ℕ). x * r ^ t + p % r ^ t) (div-add-mod' (p / r ^ t) r)
    ∙ div-add-mod' p (r ^ t)

pub group_below : (r t u p : ℕ) → 1 ≤ r → p < r ^ u * r ^ suc t → group r t p < r ^ u
group_below r t u p h l =
    let z : 0 < r ^ t = one-le-pow t r h in
    let e : r ^ u * r ^ suc t ≡ r ^ u * r * r ^ t = ap (λ (x : ℕ). r ^ u * x) (pow-succ' r t) ∙ sym (mul_assoc (r ^ u) r (r ^ t)) in
    let q : p < r ^ u * r * r ^ t = rw e at l in
    (div-lt_iff_lt-mul h).1 ((div-lt_iff_lt-mul z).1 q)

pub offset_below : (r t p : ℕ) → 1 ≤ r → offset r t p < r ^ t
offset_below r t p h = mod-lt p (one-le-pow t r h)

pub entry_below : (r t p : ℕ) → 1 ≤ r → entry r t p < r
entry_below r t p h = mod-lt (p / r ^ t) h

pub base_positive : (k : Method) → 1 ≤ base k
base_positive Direct = omega arith
base_positive Radix2 = omega arith
base_positive Radix4 = omega arith

power_sum : (r a b : ℕ) → r ^ (a + b) ≡ r ^ a * r ^ b
power_sum r a zero = ap (λ (x : ℕ). r ^ x) (add-zero a) ∙ sym (ap (λ (x : ℕ). r ^ a * x) (pow-zero r) ∙ mul-one (r ^ a))
power_sum r a (suc b) =
    ap (λ (x : ℕ). r ^ x) (add-suc a b) ∙ pow-suc r (a + b) ∙ ap (λ (x : ℕ). x * r) (power_sum r a b)
    ∙ mul_assoc (r ^ a) (r ^ b) r ∙ sym (ap (λ (x : ℕ). r ^ a * x) (pow-suc r b))

split_power : (r s t : ℕ) → t < s → r ^ s ≡ r ^ (s - suc t) * r ^ suc t
split_power r s t h = let e : s ≡ s - suc t + suc t = omega arith in ap (λ (x : ℕ). r ^ x) e ∙ power_sum r (s - suc t) (suc t)

-- a stage that is due covers the places of the plan
pub size_covered : (k : Method) (m t : ℕ) → sized k m ≡ true → t < stage_count k m → m ≡ base k ^ (stage_count k m - suc t) * base k ^ suc t
size_covered Direct m t s h = absurd (omega arith)
size_covered Radix2 m t s h = sym (size2 m s) ∙ split_power 2 (stage_count Radix2 m) t h
size_covered Radix4 m t s h = sym (size4 m s) ∙ split_power 4 (stage_count Radix4 m) t h

-- ---- pairs

pub and_first : (x y : Bool) → x && y ≡ true → x ≡ true
and_first true y e = refl
and_first false y e = e

pub and_second : (x y : Bool) → x && y ≡ true → y ≡ true
and_second true y e = e
and_second false true e = refl
and_second false false e = e

pub formed_both_parts : (n : ℕ) (x : Pair) → well_formed (shares n) x ≡ true → WellFormed (shares n) x
formed_both_parts n x e =
    record { re = and_first ((shares n).wf x.0) ((shares n).wf x.1) e; im = and_second ((shares n).wf x.0) ((shares n).wf x.1) e }

-- in the view of one half that half is read
pub reads_half : (n : ℕ) (h : Bool) (x : Halves ℕ) → (shares n).reads (h ∷ []) x ≡ half h x
reads_half n false x = refl
reads_half n true x = refl

-- ---- the stage

module _ (n : ℕ) (lawful : Sound (shares n)) (h : Bool) (p : Plan) (t : ℕ) (due : t < stages_for p) (before after : Pairs (Halves ℕ)) (stage : StageDone (shares n) p t before after) (clean : first_malformed_place (shares n) before p.size ≡ None) where
  -- what is read in the entries of the butterfly that place i belongs to, in the view of the half
  abbrev reading : ℕ → Pair → ℕ → Complex
  reading i d j = read_pair (shares n) (h ∷ []) (entries d before (place (base p.method) t (group (base p.method) t i) (offset (base p.method) t i) j))

  -- a place of the plan holds, in that view, what was read there before, mixed
  stage_stands : (i : ℕ) → i < p.size → (d : Pair) → StandsPair (shares n) (h ∷ []) (mix p.twiddle_scale (base p.method) t (offset (base p.method) t i) (reading i d) (entry (base p.method) t i)) (entries d after i)
  stage_stands i b d =
      let r : ℕ = base p.method in
      let u : ℕ = stages_for p - suc t in
      let one : 1 ≤ r = base_positive p.method in
      let e : p.size ≡ r ^ u * r ^ suc t = size_covered p.method p.size t p.size_lawful due in
      let b' : i < r ^ u * r ^ suc t = rw e at b in
      let g : group r t i < r ^ u = group_below r t u i one b' in
      let o : offset r t i < r ^ t = offset_below r t i one in
      subst (λ (j : ℕ). StandsPair (shares n) (h ∷ []) (mix p.twiddle_scale r t (offset r t i) (reading i d) (entry r t i)) (entries d after j)) (place_of_digits r t i)
      (stage.staged (h ∷ []) d (group r t i) (offset r t i) g o (reading i d)
      (λ j l. let c : place r t (group r t i) (offset r t i) j < p.size = rw e (place_below r t u (group r t i) (offset r t i) j g o l) in
      pair_itself (shares n) lawful (h ∷ []) (entries d before (place r t (group r t i) (offset r t i) j))
      (formed_both_parts n (entries d before (place r t (group r t i) (offset r t i) j)) (formed_entry (shares n) before (place r t (group r t i) (offset r t i) j) (formed_below (shares n) before p.size clean (place r t (group r t i) (offset r t i) j) c) d)))
      (entry r t i) (entry_below r t i one))

module _ (n : ℕ) (lawful : Sound (shares n)) (h : Bool) where
  known_halves : (x y : Pair) → known n h x ≡ known n h y → read_pair (shares n) (h ∷ []) x ≡ read_pair (shares n) (h ∷ []) y
  known_halves x y e =
      ap₂ (λ (a b : ℕ). complex (pos a) (pos b))
      (reads_half n h x.0 ∙ ap (λ (k : Known). k.0.0) e ∙ sym (reads_half n h y.0))
      (reads_half n h x.1 ∙ ap (λ (k : Known). k.0.1) e ∙ sym (reads_half n h y.1))

  known_same : (x y : Pair) → half h x.0 ≡ half h y.0 → half h x.1 ≡ half h y.1 → well_formed (shares n) x ≡ well_formed (shares n) y → known n h x ≡ known n h y
  known_same x y e f g = λ j. ((e j, f j), g j)

  -- pairs that stand for the same in the view of the half are the same to the house
  stands_known : (z : Complex) (x y : Pair) → StandsPair (shares n) (h ∷ []) z x → StandsPair (shares n) (h ∷ []) z y → well_formed (shares n) x ≡ well_formed (shares n) y → known n h x ≡ known n h y
  stands_known z x y a b e =
      known_same x y
      (sym (reads_half n h x.0) ∙ a.re.reads ∙ sym b.re.reads ∙ reads_half n h y.0)
      (sym (reads_half n h x.1) ∙ a.im.reads ∙ sym b.im.reads ∙ reads_half n h y.1)
      e

  pub stage_alike : (p : Plan) (t : ℕ) → t < stages_for p → (xs xs' ys ys' : Pairs (Halves ℕ)) → Alike n h xs ys → StageDone (shares n) p t xs xs' → StageDone (shares n) p t ys ys' → first_malformed_place (shares n) xs p.size ≡ None → first_malformed_place (shares n) ys p.size ≡ None → Alike n h xs' ys'
  stage_alike p t due xs xs' ys ys' e s s' c c' =
      let d : Pair = (record { first = 0; second = 0 }, record { first = 0; second = 0 }) in
      alike_of n h xs' ys' d (s.long ∙ alike_length n h xs ys e ∙ sym s'.long) (λ i b. elim (dec_lt i p.size) [ yes l ↦ among i l d | no l ↦ beyond i (omega arith) d ])
    where
      among : (i : ℕ) → i < p.size → (d : Pair) → known n h (get_or xs' i d) ≡ known n h (get_or ys' i d)
      among i l d =
          let r : ℕ = base p.method in
          let same : (j : ℕ) → reading n lawful h p t due xs xs' s c i d j ≡ reading n lawful h p t due ys ys' s' c' i d j =
          λ j. known_halves (entries d xs (place r t (group r t i) (offset r t i) j)) (entries d ys (place r t (group r t i) (offset r t i) j)) (alike_at n h xs ys e (place r t (group r t i) (offset r t i) j) d) in
          let there : StandsPair (shares n) (h ∷ []) (mix p.twiddle_scale r t (offset r t i) (reading n lawful h p t due xs xs' s c i d) (entry r t i)) (get_or ys' i d) =
          subst (λ (x : ℕ → Complex). StandsPair (shares n) (h ∷ []) (mix p.twiddle_scale r t (offset r t i) x (entry r t i)) (get_or ys' i d)) (sym (fun_ext same)) (stage_stands n lawful h p t due ys ys' s' c' i l d) in
          stands_known (mix p.twiddle_scale r t (offset r t i) (reading n lawful h p t due xs xs' s c i d) (entry r t i)) (get_or xs' i d) (get_or ys' i d)
          (stage_stands n lawful h p t due xs xs' s c i l d) there
          (formed_entry (shares n) xs' i (s.formed i l) d ∙ sym (formed_entry (shares n) ys' i (s'.formed i l) d))

      beyond : (i : ℕ) → p.size ≤ i → (d : Pair) → known n h (get_or xs' i d) ≡ known n h (get_or ys' i d)
      beyond i l d = ap (known n h) (s.past d i l) ∙ alike_at n h xs ys e i d ∙ ap (known n h) (sym (s'.past d i l))
