use Rattle.std.proofs.Common.{◌≡◌, ap, ◌∙◌}
use Rattle.split.specs.Shares.{split, SumHalves}
use Rattle.split.proofs.Laws.{sum_splits}
use Rattle.split.proofs.SplitScheme.sum.Goals as goal

pub returns : goal.returns
returns g c =
    let s = g.S.Scheme.meaning c.args.self.now.below in
    let a = c.args.a in
    let b = c.args.b in
    let f : g.S.Scheme.meaning c.sum-first.new.self ≡ s = c.sum-first.ensures.frame in
    let first = c.sum-first.ensures.value in
    let second = simp f at c.sum-second.ensures.value in
    let k : SumHalves s a b (record { first = c.sum-first.result; second = c.sum-second.result }) = record { first = search first; second = search second } in
    record {
      value = λ p q. sum_splits s a b _ k p q;
      halves = k;
      frame = ap split (c.sum-second.ensures.frame ∙ f);
    }
