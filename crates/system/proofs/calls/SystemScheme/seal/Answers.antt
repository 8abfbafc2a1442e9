use Rattle.std.proofs.Common.{◌<◌, ◌≤◌, unsigned_abs, w64, SFits, rules}
use Rattle.std.proofs.lemmas.Int.{to_z-of_z}
use Rattle.integers.specs.Residue.{half}
use Rattle.system.specs.Hidden.{product}
use Rattle.system.proofs.Owed.{sealed_owed}
use Rattle.system.proofs.calls.SystemScheme.seal.Goals as goal

pub returns : goal.returns
returns c =
    let fits : SFits w64 c.args.m = c.ranges.m in
    let admitted = simp (to_z-of_z, c.whole-whole.ensures) at c.in_ok-admit.ensures in
    let within : unsigned_abs c.args.m ≤ half (product c.args.self.now) = search (rules, admitted) in
    let below : c.args.word < product c.args.self.now = search (rules, admitted) in
    record {
      value =
          sealed_owed c.args.self.now c.args.m c.args.word c.remainders.result within below
          (simp to_z-of_z at c.remainders.ensures.first) (simp to_z-of_z at c.remainders.ensures.second) (simp to_z-of_z at c.remainders.ensures.third);
      frame = search rules;
    }
