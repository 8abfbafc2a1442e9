use Rattle.lines.proofs.Stages.{stages_compose_lem}
use Rattle.lines.proofs.stages_compose.Goals as goal

pub returns : goal.returns
returns g c = stages_compose_lem _
