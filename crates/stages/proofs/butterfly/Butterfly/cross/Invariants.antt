use Rattle.std.proofs.Common.{◌≡◌, ◌*◌}
use Rattle.integers.specs.Complex.{◌⊗◌}
use Rattle.lines.specs.Lines.{weight}
use Rattle.stages.specs.Mixing.{Replaced}
use Rattle.stages.proofs.butterfly.Butterfly.cross.Given as goal

abbrev pub invariant-loop-i : goal.invariant-loop-i
invariant-loop-i g l =
    record {
      frame : g.S.Scheme.meaning l.s ≡ g.S.Scheme.meaning l.initial.s;
      weighted : Replaced (g.S.Scheme.meaning l.initial.s) l.i l.first l.self.span (λ x i. weight l.self.scale (g.row.R * l.self.span) i l.self.k ⊗ x i) l.initial.block l.block;
    }
