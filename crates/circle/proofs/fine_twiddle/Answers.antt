use Rattle.std.proofs.Common.{ap, ◌∙◌, arith}
use borrow.Author.Differences.{ints}
use Rattle.integers.specs.Complex.{quarter_turn_of}
use Rattle.circle.specs.Near.{turned}
use Rattle.integers.proofs.ComplexRing.{complex_same}
use Rattle.circle.proofs.Turns.{turned_next}
use Rattle.circle.proofs.Fine.{fine_found, turned_sizes}
use Rattle.circle.proofs.fine_twiddle.Goals as goal

pub loop-init : goal.loop-init
unfolding turned
loop-init c = complex_same (omega (arith, ints)) (omega (arith, ints))

pub quarter_turn-x-requires : goal.quarter_turn-x-requires
quarter_turn-x-requires c =
    turned_sizes c.args.u c.loop.counter c.quarter-cos.result c.loop.x c.quarter-cos.ensures c.loop.invariant

pub loop-preserved : goal.loop-preserved
loop-preserved c = c.quarter_turn-x.ensures ∙ ap quarter_turn_of c.loop.invariant ∙ turned_next c.loop.counter _

pub returns : goal.returns
returns c =
    record {
      value = fine_found c.args.u c.loop.counter c.quarter-cos.result c.loop.x c.quarter-cos.ensures (omega arith) c.loop.invariant;
      size = turned_sizes c.args.u c.loop.counter c.quarter-cos.result c.loop.x c.quarter-cos.ensures c.loop.invariant;
    }
