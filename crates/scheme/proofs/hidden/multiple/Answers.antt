use Rattle.std.proofs.Common.{◌≡◌, pos, neg_ℤ, ◌∙◌, arith}
use borrow.Author.Differences.{ints}
use Rattle.scheme.specs.Meaning.{Opposite}
use Rattle.scheme.proofs.Standing.{upright_stands, turned_stands}
use Rattle.scheme.proofs.hidden.multiple.Goals as goal

pub returns-then-c-lt0 : goal.returns-then-c-lt0
returns-then-c-lt0 g c =
    let s = g.S.Scheme.meaning c.args.s.now in
    let k = g.met.S.Scheme.sound c.args.s.now in
    let f : g.S.Scheme.meaning c.repeated-r.new.s ≡ s = c.repeated-r.ensures.frame in
    let e : c.args.c ≡ neg_ℤ (pos c.unsigned_abs.result) = omega (arith, ints) in
    let less = rw f at c.opposite.ensures.value in
    record {
      value =
          λ w v.
          let p = c.repeated-r.ensures.value w v in
          let o : Opposite s c.repeated-r.result c.opposite.result = search less in
          turned_stands s k v c.args.c c.unsigned_abs.result c.args.x c.repeated-r.result c.opposite.result e p o;
      frame = c.opposite.ensures.frame ∙ f;
    }

pub returns-else-c-lt0 : goal.returns-else-c-lt0
returns-else-c-lt0 g c =
    let s = g.S.Scheme.meaning c.args.s.now in
    let k = g.met.S.Scheme.sound c.args.s.now in
    let e : c.args.c ≡ pos c.unsigned_abs.result = omega (arith, ints) in
    record {
      value = λ w v. upright_stands s k v c.args.c c.unsigned_abs.result c.args.x c.repeated-r.result e (c.repeated-r.ensures.value w v);
      frame = c.repeated-r.ensures.frame;
    }
