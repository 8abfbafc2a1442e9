use Rattle.scheme.proofs.Standing.{stands_itself, opposite_reads}
use Rattle.scheme.proofs.pairs.turn.Goals as goal

pub returns : goal.returns
returns g c =
    let s = g.S.Scheme.meaning c.args.s.now in
    let k = g.met.S.Scheme.sound c.args.s.now in
    let less = c.opposite.ensures.value in
    record {
      value = λ p v. record { re = search (stands_itself s k v); im = search (opposite_reads s k v, less) };
      frame = c.opposite.ensures.frame;
    }
