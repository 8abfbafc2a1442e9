use Rattle.session.proofs.Steadiness.{steady}
use Rattle.session.proofs.replies.only_choices_replace_windows.Goals as goal

pub returns : goal.returns
returns c = steady
