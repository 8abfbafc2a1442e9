use Rattle.std.proofs.Common.{◌≡◌, ◌∙◌}
use Rattle.scheme.proofs.pairs.difference.Goals as goal

pub returns : goal.returns
returns g c =
    let s = g.S.Scheme.meaning c.args.s.now in
    let f : g.S.Scheme.meaning c.difference-re.new.s ≡ s = c.difference-re.ensures.frame in
    let re = c.difference-re.ensures.value in
    let im = rw f at c.difference-im.ensures.value in
    record {
      value = λ p q v. record { re = search re; im = search im };
      frame = c.difference-im.ensures.frame ∙ f;
    }
