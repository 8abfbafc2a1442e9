use Rattle.std.proofs.Common.{◌≡◌, ℕ, ◌+◌, length}
use Rattle.integers.specs.declared.Complex.{Complex}
use Rattle.scheme.specs.Meaning.{View}
use Rattle.scheme.specs.Hidden.{StandsPair}
use Rattle.lines.specs.Lines.{sum_below}
use Rattle.stages.specs.Direct.{Samples, term}
use Rattle.stages.proofs.direct.Line.sum.Given as goal

abbrev pub invariant-loop-n : goal.invariant-loop-n
invariant-loop-n g l =
    record {
      frame : g.S.Scheme.meaning l.s ≡ g.S.Scheme.meaning l.fn.s;
      sum : (v : View) (x : ℕ → Complex) → Samples (g.S.Scheme.meaning l.fn.s) v l.self.size x l.samples → StandsPair (g.S.Scheme.meaning l.fn.s) v (sum_below (length l.yielded + 1) (term l.self.scale l.self.size l.self.k x)) l.total;
    }
