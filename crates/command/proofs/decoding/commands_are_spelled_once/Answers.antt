use Rattle.command.proofs.Commands.{spelled_once}
use Rattle.command.proofs.decoding.commands_are_spelled_once.Goals as goal

pub returns : goal.returns
returns c = spelled_once
