use Rattle.std.proofs.Common.{◌≡◌, ◌*ℤ◌, ◌∙◌, w64, SFits, rules}
use Rattle.std.proofs.lemmas.Int.{to_z-of_z}
use Rattle.scheme.specs.Hidden.{Stands, read}
use Rattle.scheme.proofs.Standing.{carry_difference, sum_stands}
use Rattle.scheme.proofs.pairs.product.Goals as goal

pub returns : goal.returns
returns g c =
    let s = g.S.Scheme.meaning c.args.s.now in
    let k = g.met.S.Scheme.sound c.args.s.now in
    let w = c.args.w in
    let a = c.args.a in
    let fits-re : SFits w64 w.re = search rules in
    let fits-im : SFits w64 w.im = search rules in
    let e = to_z-of_z w64 w.re fits-re in
    let d = to_z-of_z w64 w.im fits-im in
    let p = c.multiple-re_re.result in
    let q = c.multiple-im_im.result in
    let x = c.multiple-re_im.result in
    let y = c.multiple-im_re.result in
    let f1 : g.S.Scheme.meaning c.multiple-re_re.new.s ≡ s = c.multiple-re_re.ensures.frame in
    let f2 : g.S.Scheme.meaning c.multiple-im_im.new.s ≡ s = c.multiple-im_im.ensures.frame ∙ f1 in
    let f3 : g.S.Scheme.meaning c.difference-re.new.s ≡ s = c.difference-re.ensures.frame ∙ f2 in
    let f4 : g.S.Scheme.meaning c.multiple-re_im.new.s ≡ s = c.multiple-re_im.ensures.frame ∙ f3 in
    let f5 : g.S.Scheme.meaning c.multiple-im_re.new.s ≡ s = c.multiple-im_re.ensures.frame ∙ f4 in
    let h1 = simp e at c.multiple-re_re.ensures.value in
    let h2 = simp (d, f1) at c.multiple-im_im.ensures.value in
    let h3 = simp f2 at c.difference-re.ensures.value in
    let h4 = simp (e, f3) at c.multiple-re_im.ensures.value in
    let h5 = simp (d, f4) at c.multiple-im_re.ensures.value in
    let h6 = simp f5 at c.sum-im.ensures.value in
    record {
      value =
          λ t v.
          let t1 : Stands s v (w.re *ℤ read s v a.0) p = search h1 in
          let t2 : Stands s v (w.im *ℤ read s v a.1) q = search h2 in
          let t4 : Stands s v (w.re *ℤ read s v a.1) x = search h4 in
          let t5 : Stands s v (w.im *ℤ read s v a.0) y = search h5 in
          record { re = search (carry_difference s k v, h3); im = search (sum_stands s k v, h6) };
      frame = c.sum-im.ensures.frame ∙ f5;
    }
