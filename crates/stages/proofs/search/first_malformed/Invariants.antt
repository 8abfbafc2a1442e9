use Rattle.std.proofs.Common.{◌≡◌, ℕ, ◌<◌, true}
use Rattle.stages.specs.Block.{is_well_formed_at}
use Rattle.stages.proofs.search.first_malformed.Given as goal

abbrev pub invariant-loop-i : goal.invariant-loop-i
invariant-loop-i g l =
    record {
      frame : g.S.Scheme.meaning l.s ≡ g.S.Scheme.meaning l.initial.s;
      tested : (k : ℕ) → k < l.i → is_well_formed_at (g.S.Scheme.meaning l.initial.s) l.block k ≡ true;
    }
