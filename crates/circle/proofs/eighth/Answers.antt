-- The table is right by one computed list: that of the circle's first 33 points.
use Rattle.std.proofs.Common.{ℕ, ap, zero-add, arith}
use Rattle.std.proofs.lemmas.List.FromFn.{get_or-map-range_with_len}
use Rattle.circle.specs.Circle.{circle, point, halved, nearest_root, floor_root}
use Rattle.circle.proofs.Circle.{point_of, image_right}
use Rattle.circle.proofs.eighth.Goals as goal

entry : ℕ → ℕ × ℕ
entry v = ((circle v).cos, (circle v).sin)

pub returns : goal.returns
unfolding circle point halved nearest_root floor_root entry
returns c =
    let e = ap point_of (get_or-map-range_with_len entry 0 33 c.args.v c.args.v (0, 0) (omega arith) (zero-add c.args.v)) in
    record { value = e; image = image_right c.args.v _ e }
