use Rattle.secrecy.proofs.Secrecy.{secrecy_stands}
use Rattle.secrecy.proofs.houses_learn_no_sample.Goals as goal

pub returns : goal.returns
returns c = secrecy_stands
