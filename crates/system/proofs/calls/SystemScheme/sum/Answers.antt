use Rattle.std.proofs.Common.{rules}
use Rattle.system.proofs.Owed.{sum_owed}
use Rattle.system.proofs.calls.SystemScheme.sum.Goals as goal

pub returns : goal.returns
returns c =
    record {
      value =
          sum_owed c.args.self.now c.args.a c.args.b c.sums.result
          c.sums.ensures.first c.sums.ensures.second c.sums.ensures.third;
      frame = search rules;
    }
