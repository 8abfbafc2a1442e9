-- The circle: whole numbers that stand for cosine and sine times 2^30, at v 256ths of a turn, v from 0 to 64.
use Rattle.std.specs.Prelude.{◌≡◌, ℕ, zero, suc, ◌+◌, ◌-◌, ◌*◌, ◌/◌, ◌^◌, ◌≤◌, cond, Some, None, Option, nat_le}
use Rattle.circle.specs.declared.Point.{Point}
use Rattle.circle.specs.Nearest.{NearestRoot, NearestQuotient}

-- the rules of the circle: where it starts, the mirror at an eighth of a turn, and the halving of an angle
pub record Circle (c s : ℕ → ℕ) : Type 0 where
  pub start_cosine : c 0 ≡ 2 ^ 30
  pub start_sine : s 0 ≡ 0
  pub mirror_cosine : (v : ℕ) → 33 ≤ v → v ≤ 64 → c v ≡ s (64 - v)
  pub mirror_sine : (v : ℕ) → 33 ≤ v → v ≤ 64 → s v ≡ c (64 - v)
  pub half_cosine : (v : ℕ) → 1 ≤ v → v ≤ 32 → NearestRoot (2 ^ 29 * (2 ^ 30 + c (2 * v))) (c v)
  pub half_sine : (v : ℕ) → 1 ≤ v → v ≤ 32 → NearestQuotient (2 ^ 29 * s (2 * v)) (c v) (s v)

-- the square root of x rounded down, by its binary digits, d of them
unfoldable pub floor_root : ℕ → ℕ → ℕ
floor_root zero x = 0
floor_root (suc d) x = let r = 2 * floor_root d (x / 4) in cond (nat_le ((r + 1) * (r + 1)) x) (r + 1) r

-- the whole number nearest to the square root of x, for x below 2^62
unfoldable pub nearest_root : ℕ → ℕ
nearest_root x = (floor_root 32 (4 * x) + 1) / 2

-- the point at half the angle
unfoldable pub halved : Point → Point
halved p = let c = nearest_root (2 ^ 29 * (2 ^ 30 + p.cos)) in record { cos = c; sin = (2 * (2 ^ 29 * p.sin) + c) / (2 * c) }

-- the point mirrored at an eighth of a turn
abbrev pub mirrored : Point → Point
mirrored p = record { cos = p.sin; sin = p.cos }

-- the point at angle 0
abbrev pub start : Point
start = record { cos = 2 ^ 30; sin = 0 }

-- the point at v, by at most d steps from v to 2·v or to 64 − v
unfoldable pub point : ℕ → ℕ → Point
point d zero = start
point zero (suc v) = start
point (suc d) (suc v) =
    let half = halved (point d (2 * suc v)) in
    let mirror = mirrored (point d (64 - suc v)) in
    cond (nat_le (suc v) 32) half mirror

-- the point at v: 14 steps are enough to come from any v up to 64 to 0
unfoldable pub circle : ℕ → Point
circle v = point 14 v

-- the cosine and the sine at v, times 2^30
abbrev pub cosine : ℕ → ℕ
cosine v = (circle v).cos

abbrev pub sine : ℕ → ℕ
sine v = (circle v).sin

-- the value at v where v is at most a quarter of a turn, else none
abbrev pub in_quarter : ℕ → ℕ → Option ℕ
in_quarter v x = cond (nat_le v 64) (Some x) None

-- the rules of the circle have exactly one solution, and it is `cosine` and `sine`
pub record CircleDetermined : Type 0 where
  pub solves : Circle cosine sine
  pub only_cosine : (c s : ℕ → ℕ) → Circle c s → (v : ℕ) → v ≤ 64 → c v ≡ cosine v
  pub only_sine : (c s : ℕ → ℕ) → Circle c s → (v : ℕ) → v ≤ 64 → s v ≡ sine v
