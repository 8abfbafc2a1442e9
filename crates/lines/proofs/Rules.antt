-- The rules of the lines hold of the definition, and of nothing else at lawful sizes.
use mathlib.Core.Path.{◌≡◌, refl, sym, ◌∙◌, ap, ap₂, subst}
use mathlib.Core.Bool.{true}
use Prim.Native.Nat.{ℕ, zero, suc, ◌+◌, ◌-◌, ◌*◌, ◌/◌, ◌%◌, ◌^◌, ◌<◌, ◌≤◌}
use native.Mathlib.Nat.{one-mul, mod-lt, div-lt_iff_lt-mul, mod-add-div'}
use native.Mathlib.Decide.{dec_lt}
use native.Mathlib.Omega.{arith}
use lib.Dec.{lit<, lit≤}
use lib.IntN.{pos}
use Rattle.integers.specs.declared.Complex.{Complex}
use Rattle.integers.specs.Complex.{◌⊕◌, ◌⊖◌, ◌⊗◌, real}
use Rattle.integers.proofs.ComplexRing.{one-⊗}
use Rattle.circle.specs.Near.{turned}
use Rattle.circle.specs.Twiddle.{twiddle}
use Rattle.circle.proofs.Turns.{turned_mul}
use Rattle.plan.specs.declared.method.Method.{Method}
use Rattle.plan.specs.declared.method.Method.TheVariants.{Direct, Radix2, Radix4}
use Rattle.plan.specs.Methods.{sizes, sized}
use Rattle.plan.proofs.Powers.{carried}
use Rattle.lines.specs.Lines.{sum_below, part, weight, mix, radix_line_of, direct_line_of, divisions, line_of}
use Rattle.lines.specs.Rules.{Crossing, factor, LineRules, OneTransform}
use Rattle.lines.proofs.Butterflies.{butterfly_sum, butterfly_difference, butterfly_turns, sum_same, weight_first, weight_next, weight_first_small, weight_small}
use Rattle.lines.proofs.Places.{line_step}

-- radix 2

crossing : (q t : ℕ) (s : ℕ → Complex) (k : ℕ) → k < 2 ^ t → Crossing (radix_line_of q 2 (suc t) s) (2 ^ t) k (weight q (2 ^ suc t) 0 k ⊗ radix_line_of q 2 t (part 2 0 s) k) (weight q (2 ^ suc t) 1 k ⊗ radix_line_of q 2 t (part 2 1 s) k)
unfolding mix
crossing q t s k h = record {
  sum = ap (radix_line_of q 2 (suc t) s) (omega arith) ∙ line_step q 2 t s k 0 h ∙ butterfly_sum _;
  difference = ap (radix_line_of q 2 (suc t) s) (omega arith) ∙ line_step q 2 t s k 1 h ∙ butterfly_difference _;
}

crossing_as : (f : ℕ → Complex) (h k : ℕ) (a b c d : Complex) → a ≡ c → b ≡ d → Crossing f h k a b → Crossing f h k c d
crossing_as f h k a b c d e g w = rw (← e, ← g) w

-- a turned 1 is a turn of the other factor
turned_one : (n : ℕ) (x : Complex) → turned n (real (pos 1)) ⊗ x ≡ turned n x
turned_one n x = turned_mul n (real (pos 1)) x ∙ ap (turned n) (one-⊗ x)

crossing_small : (q t : ℕ) (s : ℕ → Complex) (k : ℕ) → 2 ^ suc t ≤ 4 → k < 2 ^ t → Crossing (radix_line_of q 2 (suc t) s) (2 ^ t) k (radix_line_of q 2 t (part 2 0 s) k) (turned (1 * k * (4 / 2 ^ suc t)) (radix_line_of q 2 t (part 2 1 s) k))
crossing_small q t s k l h =
    crossing_as _ _ _ _ _ _ _
    (ap (λ (w : Complex). w ⊗ radix_line_of q 2 t (part 2 0 s) k) (weight_first_small q (2 ^ suc t) k l) ∙ one-⊗ _)
    (ap (λ (w : Complex). w ⊗ radix_line_of q 2 t (part 2 1 s) k) (weight_small q (2 ^ suc t) 0 k l) ∙ turned_one (1 * k * (4 / 2 ^ suc t)) _)
    (crossing q t s k h)

crossing_large : (q t : ℕ) (s : ℕ → Complex) (k : ℕ) → 4 < 2 ^ suc t → k < 2 ^ t → Crossing (radix_line_of q 2 (suc t) s) (2 ^ t) k (real (pos q) ⊗ radix_line_of q 2 t (part 2 0 s) k) (twiddle q (k * (256 / 2 ^ suc t)) ⊗ radix_line_of q 2 t (part 2 1 s) k)
crossing_large q t s k l h =
    crossing_as _ _ _ _ _ _ _
    (ap (λ (w : Complex). w ⊗ radix_line_of q 2 t (part 2 0 s) k) (weight_first q (2 ^ suc t) k l))
    (ap (λ (w : Complex). w ⊗ radix_line_of q 2 t (part 2 1 s) k) (weight_next q (2 ^ suc t) 0 k l ∙ ap (λ (n : ℕ). twiddle q (n * (256 / 2 ^ suc t))) (one-mul k)))
    (crossing q t s k h)

abbrev HalvedAt : ℕ → Type 0
HalvedAt m = (q : ℕ) (s : ℕ → Complex) (k : ℕ) → 8 ≤ m → k < m / 2 → Crossing (line_of Radix2 m q s) (m / 2) k (real (pos q) ⊗ line_of Radix2 (m / 2) q (part 2 0 s) k) (twiddle q (k * (256 / m)) ⊗ line_of Radix2 (m / 2) q (part 2 1 s) k)

halved : (m : ℕ) → sized Radix2 m ≡ true → HalvedAt m
unfolding divisions
halved =
    carried HalvedAt (sizes Radix2)
    (λ q s k l h. absurd (omega arith), (λ q s k l h. absurd (omega arith), (λ q s k l h. absurd (omega arith), (λ q s k l h. crossing_large q 2 s k (lit< tt) h, (λ q s k l h. crossing_large q 3 s k (lit< tt) h, (λ q s k l h. crossing_large q 4 s k (lit< tt) h, (λ q s k l h. crossing_large q 5 s k (lit< tt) h, (λ q s k l h. crossing_large q 6 s k (lit< tt) h, (λ q s k l h. crossing_large q 7 s k (lit< tt) h, tt)))))))))

two : (q : ℕ) (s : ℕ → Complex) → Crossing (line_of Radix2 2 q s) 1 0 (line_of Radix2 1 q (part 2 0 s) 0) (line_of Radix2 1 q (part 2 1 s) 0)
unfolding divisions turned
two q s = crossing_small q 0 s 0 (lit≤ tt) (lit< tt)

four : (q : ℕ) (s : ℕ → Complex) (k : ℕ) → k < 2 → Crossing (line_of Radix2 4 q s) 2 k (line_of Radix2 2 q (part 2 0 s) k) (turned k (line_of Radix2 2 q (part 2 1 s) k))
unfolding divisions
four q s k h =
    let e : 1 * k * 1 ≡ k = omega arith in
    crossing_as _ _ _ _ _ _ _ refl (ap (λ (n : ℕ). turned n (radix_line_of q 2 1 (part 2 1 s) k)) e) (crossing_small q 1 s k (lit≤ tt) h)

-- radix 4

mixed_turns : (q t : ℕ) (s : ℕ → Complex) (k l : ℕ) → k < 4 ^ t → radix_line_of q 4 (suc t) s (k + l * 4 ^ t) ≡ sum_below 4 (λ i. turned (i * l) (weight q (4 ^ suc t) i k ⊗ radix_line_of q 4 t (part 4 i s) k))
unfolding mix
mixed_turns q t s k l h = ap (radix_line_of q 4 (suc t) s) (omega arith) ∙ line_step q 4 t s k l h ∙ butterfly_turns _ l

weight_factor : (q m i k : ℕ) → 4 < m → weight q m i k ≡ factor q m k i
weight_factor q m zero k h = weight_first q m k h
weight_factor q m (suc i) k h = weight_next q m i k h

weight_one : (q i : ℕ) (x : Complex) → weight q 4 i 0 ⊗ x ≡ x
unfolding turned
weight_one q zero x = ap (λ (w : Complex). w ⊗ x) (weight_first_small q 4 0 (lit≤ tt)) ∙ one-⊗ x
weight_one q (suc i) x =
    let e : suc i * 0 * 1 ≡ 0 = omega arith in
    ap (λ (w : Complex). w ⊗ x) (weight_small q 4 i 0 (lit≤ tt) ∙ ap (λ (n : ℕ). turned n (real (pos 1))) e) ∙ one-⊗ x

quartered_large : (q t : ℕ) (s : ℕ → Complex) (k l : ℕ) → 4 < 4 ^ suc t → k < 4 ^ t → radix_line_of q 4 (suc t) s (k + l * 4 ^ t) ≡ sum_below 4 (λ i. turned (i * l) (factor q (4 ^ suc t) k i ⊗ radix_line_of q 4 t (part 4 i s) k))
quartered_large q t s k l h less =
    mixed_turns q t s k l less ∙ sum_same 4 _ _ (λ i b. ap (λ (w : Complex). turned (i * l) (w ⊗ radix_line_of q 4 t (part 4 i s) k)) (weight_factor q (4 ^ suc t) i k h))

abbrev QuarteredAt : ℕ → Type 0
QuarteredAt m = (q : ℕ) (s : ℕ → Complex) (k l : ℕ) → 16 ≤ m → k < m / 4 → line_of Radix4 m q s (k + l * (m / 4)) ≡ sum_below 4 (λ i. turned (i * l) (factor q m k i ⊗ line_of Radix4 (m / 4) q (part 4 i s) k))

quartered : (m : ℕ) → sized Radix4 m ≡ true → QuarteredAt m
unfolding divisions
quartered =
    carried QuarteredAt (sizes Radix4)
    (λ q s k l h b. absurd (omega arith), (λ q s k l h b. absurd (omega arith), (λ q s k l h b. quartered_large q 1 s k l (lit< tt) b, (λ q s k l h b. quartered_large q 2 s k l (lit< tt) b, (λ q s k l h b. quartered_large q 3 s k l (lit< tt) b, tt)))))

quartet : (q : ℕ) (s : ℕ → Complex) (l : ℕ) → line_of Radix4 4 q s l ≡ sum_below 4 (λ i. turned (i * l) (line_of Radix4 1 q (part 4 i s) 0))
unfolding divisions
quartet q s l =
    let e : l ≡ 0 + l * 1 = omega arith in
    ap (radix_line_of q 4 1 s) e ∙ mixed_turns q 0 s 0 l (lit< tt) ∙ sum_same 4 _ _ (λ i b. ap (turned (i * l)) (weight_one q i (radix_line_of q 4 0 (part 4 i s) 0)))

rules : LineRules line_of
unfolding divisions radix_line_of direct_line_of
rules = record {
  direct = λ m q s k h l. refl;
  one = λ q s. refl;
  two = two;
  four = four;
  halved = λ m q s k h. halved m h q s k;
  single = λ q s. refl;
  quartet = λ q s l h. quartet q s l;
  quartered = λ m q s k l h b c d. quartered m h q s k l b c;
}

-- one solution

abbrev Transform : Type 0
Transform = Method → ℕ → ℕ → (ℕ → Complex) → ℕ → Complex

abbrev OnlyAt : Transform → Method → ℕ → ℕ → Type 0
OnlyAt f k q m = (s : ℕ → Complex) (j : ℕ) → j < m → f k m q s j ≡ line_of k m q s j

-- equal parts make equal lines
crossing_again : (f g : ℕ → Complex) (h k : ℕ) (a b c d : Complex) → a ≡ c → b ≡ d → Crossing f h k a b → Crossing g h k c d → (f k ≡ g k) × (f (k + h) ≡ g (k + h))
crossing_again f g h k a b c d e e' w v =
    (w.sum ∙ ap₂ ◌⊕◌ e e' ∙ sym v.sum, w.difference ∙ ap₂ ◌⊖◌ e e' ∙ sym v.difference)

-- a fact of line k and of line k + h, for each k below h, is a fact of every line below 2 h
both_halves : (P : ℕ → Type 0) (h m : ℕ) → m ≡ h + h → ((k : ℕ) → k < h → P k × P (k + h)) → (j : ℕ) → j < m → P j
both_halves P h m e w j less = go (dec_lt j h)
  where
    go : Dec (j < h) → P j
    go (yes l) = (w j l).0
    go (no l) =
        let d : (j - h) + h ≡ j = omega arith in
        subst P d (w (j - h) (omega arith)).1

halved_again : (f : Transform) → LineRules f → (q m : ℕ) → sized Radix2 m ≡ true → 8 ≤ m → m ≡ m / 2 + m / 2 → OnlyAt f Radix2 q (m / 2) → OnlyAt f Radix2 q m
halved_again f r q m h l e ih s =
    both_halves (λ j. f Radix2 m q s j ≡ line_of Radix2 m q s j) (m / 2) m e
    (λ k b. crossing_again _ _ _ _ _ _ _ _ (ap (λ (x : Complex). real (pos q) ⊗ x) (ih (part 2 0 s) k b)) (ap (λ (x : Complex). twiddle q (k * (256 / m)) ⊗ x) (ih (part 2 1 s) k b)) (r.halved m q s k h l b) (rules.halved m q s k h l b))

one_again : (f : Transform) → LineRules f → (q : ℕ) → OnlyAt f Radix2 q 1
one_again f r q s j h =
    let e : 0 ≡ j = omega arith in
    subst (λ (n : ℕ). f Radix2 1 q s n ≡ line_of Radix2 1 q s n) e (r.one q s ∙ sym (rules.one q s))

two_again : (f : Transform) → LineRules f → (q : ℕ) → OnlyAt f Radix2 q 2
two_again f r q s =
    both_halves (λ j. f Radix2 2 q s j ≡ line_of Radix2 2 q s j) 1 2 refl
    (λ k b. let e : 0 ≡ k = omega arith in
    subst (λ (n : ℕ). (f Radix2 2 q s n ≡ line_of Radix2 2 q s n) × (f Radix2 2 q s (n + 1) ≡ line_of Radix2 2 q s (n + 1))) e
    (crossing_again _ _ _ _ _ _ _ _ (one_again f r q (part 2 0 s) 0 (lit< tt)) (one_again f r q (part 2 1 s) 0 (lit< tt)) (r.two q s) (rules.two q s)))

four_again : (f : Transform) → LineRules f → (q : ℕ) → OnlyAt f Radix2 q 4
four_again f r q s =
    both_halves (λ j. f Radix2 4 q s j ≡ line_of Radix2 4 q s j) 2 4 refl
    (λ k b. crossing_again _ _ _ _ _ _ _ _ (two_again f r q (part 2 0 s) k b) (ap (turned k) (two_again f r q (part 2 1 s) k b)) (r.four q s k b) (rules.four q s k b))

single_again : (f : Transform) → LineRules f → (q : ℕ) → OnlyAt f Radix4 q 1
single_again f r q s j h =
    let e : 0 ≡ j = omega arith in
    subst (λ (n : ℕ). f Radix4 1 q s n ≡ line_of Radix4 1 q s n) e (r.single q s ∙ sym (rules.single q s))

quartet_again : (f : Transform) → LineRules f → (q : ℕ) → OnlyAt f Radix4 q 4
quartet_again f r q s j h =
    r.quartet q s j h ∙ sum_same 4 _ _ (λ i b. ap (turned (i * j)) (single_again f r q (part 4 i s) 0 (lit< tt))) ∙ sym (rules.quartet q s j h)

quartered_again : (f : Transform) → LineRules f → (q m : ℕ) → sized Radix4 m ≡ true → 16 ≤ m → m ≡ 4 * (m / 4) → OnlyAt f Radix4 q (m / 4) → OnlyAt f Radix4 q m
quartered_again f r q m sz more em ih s j less =
    let p : 0 < m / 4 = omega arith in
    let k = j % (m / 4) in
    let l = j / (m / 4) in
    let b : k < m / 4 = mod-lt j p in
    let c : l < 4 = (div-lt_iff_lt-mul p).1 (rw em at less) in
    let e : k + l * (m / 4) ≡ j = mod-add-div' j (m / 4) in
    subst (λ (n : ℕ). f Radix4 m q s n ≡ line_of Radix4 m q s n) e
    (r.quartered m q s k l sz more b c ∙ sum_same 4 _ _ (λ i d. ap (λ (x : Complex). turned (i * l) (factor q m k i ⊗ x)) (ih (part 4 i s) k b)) ∙ sym (rules.quartered m q s k l sz more b c))

only : (f : Transform) → LineRules f → (k : Method) (q m : ℕ) → sized k m ≡ true → OnlyAt f k q m
only f r Direct q m h = λ s j b. r.direct m q s j h b ∙ sym (rules.direct m q s j h b)
only f r Radix2 q m h =
    let s1 = one_again f r q in
    let s2 = two_again f r q in
    let s4 = four_again f r q in
    let s8 = halved_again f r q 8 refl (lit≤ tt) refl s4 in
    let s16 = halved_again f r q 16 refl (lit≤ tt) refl s8 in
    let s32 = halved_again f r q 32 refl (lit≤ tt) refl s16 in
    let s64 = halved_again f r q 64 refl (lit≤ tt) refl s32 in
    let s128 = halved_again f r q 128 refl (lit≤ tt) refl s64 in
    let s256 = halved_again f r q 256 refl (lit≤ tt) refl s128 in
    carried (OnlyAt f Radix2 q) (sizes Radix2) (s1, (s2, (s4, (s8, (s16, (s32, (s64, (s128, (s256, tt))))))))) m h
only f r Radix4 q m h =
    let s1 = single_again f r q in
    let s4 = quartet_again f r q in
    let s16 = quartered_again f r q 16 refl (lit≤ tt) refl s4 in
    let s64 = quartered_again f r q 64 refl (lit≤ tt) refl s16 in
    let s256 = quartered_again f r q 256 refl (lit≤ tt) refl s64 in
    carried (OnlyAt f Radix4 q) (sizes Radix4) (s1, (s4, (s16, (s64, (s256, tt))))) m h

pub one_transform : OneTransform
one_transform = record { keeps = rules; only = λ f r k m q s j h b. only f r k q m h s j b }
