use Rattle.std.proofs.Common.{◌≡◌, true, refl, ◌∙◌, arith, rules}
use Rattle.scheme.specs.Meaning.{Sum}
use Rattle.scheme.proofs.Standing.{none_stands, one_stands, even_stands, odd_stands}
use Rattle.scheme.proofs.hidden.+repeated.Goals as goal

pub returns-in-0 : goal.returns-in-0
returns-in-0 g t c =
    let s = g.S.Scheme.meaning c.args.s.now in
    let k = g.met.S.Scheme.sound c.args.s.now in
    record { value = λ w v. none_stands s k v c.args.size c.args.x c.zero.result (search rules) c.zero.ensures.value; frame = c.zero.ensures.frame }

pub returns-in-1 : goal.returns-in-1
returns-in-1 g t c =
    let s = g.S.Scheme.meaning c.args.s.now in
    let k = g.met.S.Scheme.sound c.args.s.now in
    record { value = λ w v. one_stands s k v c.args.size c.args.x (search rules) w; frame = refl }

pub returns-then-size-eq1 : goal.returns-then-size-eq1
returns-then-size-eq1 g t c =
    let s = g.S.Scheme.meaning c.args.s.now in
    let k = g.met.S.Scheme.sound c.args.s.now in
    let f : g.S.Scheme.meaning c.repeated-above.new.s ≡ s = c.repeated-above.ensures.frame in
    let f2 : g.S.Scheme.meaning c.sum-twice.new.self ≡ s = c.sum-twice.ensures.frame ∙ f in
    let y = c.repeated-above.result in
    let t = c.sum-twice.result in
    let h : s.wf y ≡ true → s.wf y ≡ true → Sum s y y t = rw f at c.sum-twice.ensures.value in
    let h2 : s.wf t ≡ true → s.wf c.args.x ≡ true → Sum s t c.args.x c.sum.result = rw f2 at c.sum.ensures.value in
    record {
      value =
          λ w v.
          let p = c.repeated-above.ensures.value w v in
          let q = h p.wf p.wf in
          odd_stands s k v c.args.size c.args.x y t c.sum.result (omega arith) w p q (h2 q.wf w);
      frame = c.sum.ensures.frame ∙ f2;
    }

pub returns-else-size-eq1 : goal.returns-else-size-eq1
returns-else-size-eq1 g t c =
    let s = g.S.Scheme.meaning c.args.s.now in
    let k = g.met.S.Scheme.sound c.args.s.now in
    let f : g.S.Scheme.meaning c.repeated-above.new.s ≡ s = c.repeated-above.ensures.frame in
    let y = c.repeated-above.result in
    let t = c.sum-twice.result in
    let h : s.wf y ≡ true → s.wf y ≡ true → Sum s y y t = rw f at c.sum-twice.ensures.value in
    record {
      value =
          λ w v.
          let p = c.repeated-above.ensures.value w v in
          even_stands s k v c.args.size c.args.x y t (omega arith) p (h p.wf p.wf);
      frame = c.sum-twice.ensures.frame ∙ f;
    }
