-- After i turns x is the first quarter's twiddle turned i times.
use Rattle.std.proofs.Common.{◌≡◌, pos, neg_ℤ}
use Rattle.integers.specs.Complex.{complex}
use Rattle.circle.specs.Near.{turned}
use Rattle.circle.proofs.fine_twiddle.Given as goal

abbrev pub invariant-loop : goal.invariant-loop
invariant-loop l = l.x ≡ turned l.counter (complex (pos l.cos) (neg_ℤ (pos l.sin)))
