use Rattle.command.proofs.Commands.{decodes_read}
use Rattle.command.proofs.decoding.decode.Goals as goal

pub returns : goal.returns
returns c = rw c.ok_or.ensures.value (decodes_read c.args.text.now c.read_command.result c.read_command.ensures)
