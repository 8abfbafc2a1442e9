use Rattle.std.proofs.Common.{rules}
use Rattle.system.proofs.Owed.{zero_owed}
use Rattle.system.proofs.calls.SystemScheme.zero.Goals as goal

pub returns : goal.returns
returns c = record { value = zero_owed c.args.self.now _ (search rules); frame = search rules }
