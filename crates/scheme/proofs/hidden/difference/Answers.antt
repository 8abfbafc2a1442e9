use Rattle.std.proofs.Common.{◌≡◌, ◌∙◌}
use Rattle.scheme.specs.Meaning.{Opposite}
use Rattle.scheme.proofs.Standing.{difference_stands}
use Rattle.scheme.proofs.hidden.difference.Goals as goal

pub returns : goal.returns
returns g c =
    let s = g.S.Scheme.meaning c.args.s.now in
    let k = g.met.S.Scheme.sound c.args.s.now in
    let f : g.S.Scheme.meaning c.opposite-less.new.self ≡ s = c.opposite-less.ensures.frame in
    let less = c.opposite-less.ensures.value in
    let sum = rw f at c.sum.ensures.value in
    record {
      value =
          λ p q v.
          let t : Opposite s c.args.b c.opposite-less.result = search less in
          search (difference_stands s k v, sum);
      frame = c.sum.ensures.frame ∙ f;
    }
