use Rattle.std.proofs.Common.{w64, SFits, rules}
use Rattle.std.proofs.lemmas.Int.{to_z-of_z}
use Rattle.circle.proofs.Twiddles.{twiddle_found}
use Rattle.circle.proofs.twiddle.Goals as goal

pub returns : goal.returns
returns c =
    let re : SFits w64 c.fine_twiddle-re.result.re = search rules in
    let im : SFits w64 c.fine_twiddle-re.result.im = search rules in
    let a : SFits w64 c.nearest_part.result = search rules in
    let b : SFits w64 c.nearest_part-2.result = search rules in
    simp to_z-of_z
    (twiddle_found c.args.scale c.args.u c.fine_twiddle-re.result c.nearest_part.result c.nearest_part-2.result
    c.fine_twiddle-re.ensures.value
    (simp to_z-of_z at c.nearest_part.ensures)
    (simp to_z-of_z at c.nearest_part-2.ensures))
