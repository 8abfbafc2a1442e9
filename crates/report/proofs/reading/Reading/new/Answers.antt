use Rattle.std.proofs.Common.{w64, SFits, rules}
use Rattle.std.proofs.lemmas.Int.{to_z-of_z}
use Rattle.report.proofs.reading.Reading.new.Goals as goal

pub returns : goal.returns
returns c =
    let re : SFits w64 c.args.value.re = search rules in
    let im : SFits w64 c.args.value.im = search rules in
    record { re = simp to_z-of_z at c.in_ok-re.ensures; im = simp to_z-of_z at c.in_ok-im.ensures }
