use Rattle.std.proofs.Common.{◌≡◌, ◌∙◌, w64}
use Rattle.std.proofs.lemmas.Int.{to_z-of_z}
use Rattle.scheme.proofs.pairs.multiple.Goals as goal

pub returns : goal.returns
returns g c =
    let s = g.S.Scheme.meaning c.args.s.now in
    let e = to_z-of_z w64 c.args.c c.ranges.c in
    let f : g.S.Scheme.meaning c.multiple-re.new.s ≡ s = c.multiple-re.ensures.frame in
    let re = simp e at c.multiple-re.ensures.value in
    let im = simp (e, f) at c.multiple-im.ensures.value in
    record {
      value = λ p v. record { re = search re; im = search im };
      frame = c.multiple-im.ensures.frame ∙ f;
    }
