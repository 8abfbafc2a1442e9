use Rattle.std.proofs.Common.{◌≡◌, ap, ◌∙◌}
use Rattle.split.specs.Shares.{split, OppositeHalves}
use Rattle.split.proofs.Laws.{opposite_splits}
use Rattle.split.proofs.SplitScheme.opposite.Goals as goal

pub returns : goal.returns
returns g c =
    let s = g.S.Scheme.meaning c.args.self.now.below in
    let a = c.args.a in
    let f : g.S.Scheme.meaning c.opposite-first.new.self ≡ s = c.opposite-first.ensures.frame in
    let first = c.opposite-first.ensures.value in
    let second = simp f at c.opposite-second.ensures.value in
    let k : OppositeHalves s a (record { first = c.opposite-first.result; second = c.opposite-second.result }) = record { first = search first; second = search second } in
    record {
      value = λ p. opposite_splits s a _ k p;
      halves = k;
      frame = ap split (c.opposite-second.ensures.frame ∙ f);
    }
