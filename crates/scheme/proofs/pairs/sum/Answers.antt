use Rattle.std.proofs.Common.{◌≡◌, ◌∙◌}
use Rattle.scheme.proofs.Standing.{sum_reads}
use Rattle.scheme.proofs.pairs.sum.Goals as goal

pub returns : goal.returns
returns g c =
    let s = g.S.Scheme.meaning c.args.s.now in
    let k = g.met.S.Scheme.sound c.args.s.now in
    let f : g.S.Scheme.meaning c.sum-re.new.self ≡ s = c.sum-re.ensures.frame in
    let re = c.sum-re.ensures.value in
    let im = rw f at c.sum-im.ensures.value in
    record {
      value = λ p q v. record { re = search (sum_reads s k v, re); im = search (sum_reads s k v, im) };
      frame = c.sum-im.ensures.frame ∙ f;
    }
