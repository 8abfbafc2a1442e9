use Rattle.std.proofs.Common.{◌≡◌, Ok, rules}
use Rattle.command.specs.declared.kinds.Command.TheVariants.{Choose}
use Rattle.session.specs.Session.{Decoded}
use Rattle.session.proofs.Phases.{chosen_absent}
use Rattle.session.proofs.turning.turn_absent.Goals as goal

pub returns-in-Ok-Choose : goal.returns-in-Ok-Choose
returns-in-Ok-Choose c =
    let is : ◌≡◌ {A = Decoded} c.args.line (Ok (Choose c.in-Ok-Choose.choice)) = search rules in
    chosen_absent c.args.line c.in-Ok-Choose.choice c.choose.result is c.choose.ensures
