use Rattle.std.proofs.Common.{rules}
use Rattle.system.proofs.Owed.{opposite_owed}
use Rattle.system.proofs.calls.SystemScheme.opposite.Goals as goal

pub returns : goal.returns
returns c =
    record {
      value =
          opposite_owed c.args.self.now c.args.a c.opposites.result
          c.opposites.ensures.formed c.opposites.ensures.first c.opposites.ensures.second c.opposites.ensures.third;
      frame = search rules;
    }
