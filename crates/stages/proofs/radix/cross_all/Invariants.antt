use Rattle.std.proofs.Common.{◌≡◌, ℕ, ◌+◌, ◌*◌, ◌^◌}
use Rattle.stages.specs.Stage.{Making}
use Rattle.stages.proofs.radix.cross_all.Given as goal

abbrev pub invariant-loop-k : goal.invariant-loop-k
invariant-loop-k g l =
    record {
      frame : g.S.Scheme.meaning l.s ≡ g.S.Scheme.meaning l.fn.s;
      made : (t : ℕ) → l.span ≡ g.row.R ^ t → Making (g.S.Scheme.meaning l.fn.s) l.scale g.row.R t l.groups (l.group * l.span + l.k) l.fn.block l.block;
    }

abbrev pub invariant-loop-group : goal.invariant-loop-group
invariant-loop-group g l =
    record {
      frame : g.S.Scheme.meaning l.s ≡ g.S.Scheme.meaning l.fn.s;
      made : (t : ℕ) → l.span ≡ g.row.R ^ t → Making (g.S.Scheme.meaning l.fn.s) l.scale g.row.R t l.groups (l.group * l.span) l.fn.block l.block;
    }
