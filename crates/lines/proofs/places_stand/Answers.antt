use Rattle.lines.proofs.Digits.{places_stand_lem}
use Rattle.lines.proofs.places_stand.Goals as goal

pub returns : goal.returns
returns c = places_stand_lem
