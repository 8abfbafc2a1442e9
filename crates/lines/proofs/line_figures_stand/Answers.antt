use Rattle.lines.proofs.Worked.{line_figures}
use Rattle.lines.proofs.line_figures_stand.Goals as goal

pub returns : goal.returns
returns c = line_figures
