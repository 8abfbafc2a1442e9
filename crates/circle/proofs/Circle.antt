-- The rules of the circle have exactly one solution: that there is one by computed tests, that there is no other along the steps
-- from an angle to its double or its mirror image.
use Rattle.std.proofs.Common.{◌≡◌, ℕ, zero, suc, ◌+◌, ◌-◌, ◌*◌, ◌^◌, ◌<◌, ◌≤◌, Bool, true, false, cond, ◌&&◌, eqb, ltb, leb, sym, refl, ap, ◌∙◌, subst, not-suc-le-zero, arith}
use Rattle.std.proofs.lemmas.Bool.{and_parts, eqb-true, leb-true, leb-false, ltb-true}
use borrow.Author.Tests.{clash}
use Rattle.circle.specs.declared.Point.{Point}
use Rattle.circle.specs.Nearest.{NearestRoot, NearestQuotient}
use Rattle.circle.specs.Circle.{Circle, CircleDetermined, circle, cosine, sine, point, mirrored, halved, nearest_root, floor_root}
use Rattle.circle.proofs.Unique.{root_unique, quotient_unique}
use Rattle.circle.proofs.Table.{every_at}

is_root : ℕ → ℕ → Bool
is_root x r = leb 1 r && (ltb ((2 * r - 1) * (2 * r - 1)) (4 * x) && ltb (4 * x) ((2 * r + 1) * (2 * r + 1)))

root : (x r : ℕ) → is_root x r ≡ true → NearestRoot x r
unfolding is_root
root x r t =
    let (positive, rest) = and_parts _ _ t in
    let (above, below) = and_parts _ _ rest in
    record { positive = leb-true _ _ positive; above = ltb-true _ _ above; below = ltb-true _ _ below }

is_quotient : ℕ → ℕ → ℕ → Bool
is_quotient a b r = ltb 0 b && (leb (2 * b * r) (2 * a + b) && ltb (2 * a + b) (2 * b * (r + 1)))

quotient : (a b r : ℕ) → is_quotient a b r ≡ true → NearestQuotient a b r
unfolding is_quotient
quotient a b r t =
    let (positive, rest) = and_parts _ _ t in
    let (above, below) = and_parts _ _ rest in
    record { positive = ltb-true _ _ positive; above = leb-true _ _ above; below = ltb-true _ _ below }

-- the first point stands at half the angle of the second
is_half : Point × Point → Bool
is_half x =
    is_root (2 ^ 29 * (2 ^ 30 + x.1.cos)) x.0.cos && is_quotient (2 ^ 29 * x.1.sin) x.0.cos x.0.sin

-- the first point is the mirror image of the second
is_mirror : Point × Point → Bool
is_mirror x = eqb x.0.cos x.1.sin && eqb x.0.sin x.1.cos

-- the point at k + 1 with that at twice the angle, and the point at k + 33 with that at the mirrored angle
doubled : ℕ → Point × Point
doubled k = (circle (suc k), circle (2 * suc k))

opposed : ℕ → Point × Point
opposed k = (circle (33 + k), circle (64 - (33 + k)))

halves : (k : ℕ) → k < 32 → is_half (doubled k) ≡ true
unfolding is_half is_root is_quotient doubled circle point halved nearest_root floor_root
halves = every_at is_half doubled 32 refl

mirrors : (k : ℕ) → k < 32 → is_mirror (opposed k) ≡ true
unfolding is_mirror opposed circle point halved nearest_root floor_root
mirrors = every_at is_mirror opposed 32 refl

half_cosine : (v : ℕ) → 1 ≤ v → v ≤ 32 → NearestRoot (2 ^ 29 * (2 ^ 30 + cosine (2 * v))) (cosine v)
unfolding is_half doubled
half_cosine zero h k = absurd (not-suc-le-zero h)
half_cosine (suc v) h k = root _ _ (and_parts _ _ (halves v k)).0

half_sine : (v : ℕ) → 1 ≤ v → v ≤ 32 → NearestQuotient (2 ^ 29 * sine (2 * v)) (cosine v) (sine v)
unfolding is_half doubled
half_sine zero h k = absurd (not-suc-le-zero h)
half_sine (suc v) h k = quotient _ _ _ (and_parts _ _ (halves v k)).1

mirror : (v : ℕ) → 33 ≤ v → v ≤ 64 → is_mirror (circle v, circle (64 - v)) ≡ true
unfolding opposed
mirror v h k =
    let e : 33 + (v - 33) ≡ v = omega arith in
    subst (λ (n : ℕ). is_mirror (circle n, circle (64 - n)) ≡ true) e (mirrors (v - 33) (omega arith))

pub mirror_cosine : (v : ℕ) → 33 ≤ v → v ≤ 64 → cosine v ≡ sine (64 - v)
unfolding is_mirror
mirror_cosine v h k = eqb-true _ _ (and_parts _ _ (mirror v h k)).0

pub mirror_sine : (v : ℕ) → 33 ≤ v → v ≤ 64 → sine v ≡ cosine (64 - v)
unfolding is_mirror
mirror_sine v h k = eqb-true _ _ (and_parts _ _ (mirror v h k)).1

pub solves : Circle cosine sine
unfolding circle point
solves =
    record {
      start_cosine = refl;
      start_sine = refl;
      mirror_cosine = mirror_cosine;
      mirror_sine = mirror_sine;
      half_cosine = half_cosine;
      half_sine = half_sine;
    }

-- at most d steps, to the double or to the mirror image, lead from the angle v to 0
settles : ℕ → ℕ → Bool
settles d zero = true
settles zero (suc v) = false
settles (suc d) (suc v) =
    let double = settles d (2 * suc v) in
    let image = leb (suc v) 64 && settles d (64 - suc v) in
    cond (leb (suc v) 32) double image

all_settle : (v : ℕ) → v < 65 → settles 14 v ≡ true
unfolding settles
all_settle = every_at (settles 14) (λ v. v) 65 refl

-- two solutions agree at v
abbrev Agree : (c s c' s' : ℕ → ℕ) → ℕ → Type 0
Agree c s c' s' v = (c v ≡ c' v) × (s v ≡ s' v)

agree_half : (c s c' s' : ℕ → ℕ) → Circle c s → Circle c' s' → (v : ℕ) → 1 ≤ v → v ≤ 32 → Agree c s c' s' (2 * v) → Agree c s c' s' v
agree_half c s c' s' p q v h k e =
    let r : NearestRoot (2 ^ 29 * (2 ^ 30 + c' (2 * v))) (c v) = rw e.0 at (p.half_cosine v h k) in
    let f : c v ≡ c' v = root_unique _ _ _ r (q.half_cosine v h k) in
    let t : NearestQuotient (2 ^ 29 * s' (2 * v)) (c' v) (s v) = rw (e.1, f) at (p.half_sine v h k) in
    (f, quotient_unique _ _ _ _ t (q.half_sine v h k))

agree_mirror : (c s c' s' : ℕ → ℕ) → Circle c s → Circle c' s' → (v : ℕ) → 33 ≤ v → v ≤ 64 → Agree c s c' s' (64 - v) → Agree c s c' s' v
agree_mirror c s c' s' p q v h k e =
    (p.mirror_cosine v h k ∙ e.1 ∙ sym (q.mirror_cosine v h k), p.mirror_sine v h k ∙ e.0 ∙ sym (q.mirror_sine v h k))

agree : (c s c' s' : ℕ → ℕ) → Circle c s → Circle c' s' → (d v : ℕ) → settles d v ≡ true → Agree c s c' s' v
unfolding settles
agree c s c' s' p q d zero t = (p.start_cosine ∙ sym q.start_cosine, p.start_sine ∙ sym q.start_sine)
agree c s c' s' p q zero (suc v) t = absurd (clash t)
agree c s c' s' p q (suc d) (suc v) t =
    step (leb (suc v) 32) refl (agree c s c' s' p q d (2 * suc v)) (agree c s c' s' p q d (64 - suc v)) t
  where
    step : (e : Bool) → leb (suc v) 32 ≡ e → (settles d (2 * suc v) ≡ true → Agree c s c' s' (2 * suc v)) → (settles d (64 - suc v) ≡ true → Agree c s c' s' (64 - suc v)) → cond e (settles d (2 * suc v)) (leb (suc v) 64 && settles d (64 - suc v)) ≡ true → Agree c s c' s' (suc v)
    step true e f g u = agree_half c s c' s' p q (suc v) (omega arith) (leb-true _ _ e) (f u)
    step false e f g u =
        let (n, rest) = and_parts _ _ u in
        agree_mirror c s c' s' p q (suc v) (leb-false _ _ e) (leb-true _ _ n) (g rest)

pub determined : CircleDetermined
determined =
    record {
      solves = solves;
      only_cosine = λ c s p v h. (agree c s cosine sine p solves 14 v (all_settle v (omega arith))).0;
      only_sine = λ c s p v h. (agree c s cosine sine p solves 14 v (all_settle v (omega arith))).1;
    }

abbrev pub point_of : ℕ × ℕ → Point
point_of x = record { cos = x.0; sin = x.1 }

-- the mirror image of a point of the first eighth
pub image_right : (v : ℕ) (p : Point) → p ≡ circle v → v < 32 → mirrored p ≡ circle (64 - v)
image_right v p e h =
    let f : 64 - (64 - v) ≡ v = omega arith in
    let c : cosine (64 - v) ≡ sine v = rw f at (mirror_cosine (64 - v) (omega arith) (omega arith)) in
    let s : sine (64 - v) ≡ cosine v = rw f at (mirror_sine (64 - v) (omega arith) (omega arith)) in
    ap mirrored e ∙ ap (λ (n : ℕ). point_of (n, cosine v)) (sym c) ∙ ap (λ (n : ℕ). point_of (cosine (64 - v), n)) (sym s)
