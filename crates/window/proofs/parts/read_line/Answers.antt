use Rattle.std.proofs.Common.{◌≡◌, ◌<◌, ◌⊎◌, length, sym, ◌∙◌, inl, inr, ⊎_elim, arith}
use Rattle.plan.specs.declared.method.Method.TheVariants.{Radix2, Radix4}
use Rattle.window.proofs.Staging.{reading_direct, reading_there, reading_malformed}
use Rattle.window.proofs.parts.read_line.Goals as goal

pub returns-in-Direct : goal.returns-in-Direct
returns-in-Direct g c =
    let m = g.S.Scheme.meaning c.args.s.now in
    record {
      value = reading_direct m c.args.plan.now c.args.k c.args.block.now c.direct_line.result (sym c.in-Direct.ensures) c.requires.1 c.requires.0 c.direct_line.ensures.value;
      frame = c.direct_line.ensures.frame;
    }

pub returns-then-test : goal.returns-then-test
returns-then-test g c =
    let m = g.S.Scheme.meaning c.args.s.now in
    let p = c.args.plan.now in
    let x = c.index-block-k.result in
    let way : (p.method ≡ Radix2) ⊎ (p.method ≡ Radix4) =
    ⊎_elim (λ e. inl (sym c.method.ensures ∙ e)) (λ e. inr (sym c.method.ensures ∙ e)) c.in-Radix2.is
    in
    let l : c.args.k < length c.args.block.now = omega arith in
    record {
      value = reading_there m (g.met.S.Scheme.sound c.args.s.now) p c.args.k c.args.block.now p.method x way l c.index-block-k.is (sym c.test.ensures.value ∙ c.if-test.true);
      frame = c.test.ensures.frame;
    }

pub returns-else-test : goal.returns-else-test
returns-else-test g c =
    let m = g.S.Scheme.meaning c.args.s.now in
    let p = c.args.plan.now in
    let x = c.index-block-k.result in
    let way : (p.method ≡ Radix2) ⊎ (p.method ≡ Radix4) =
    ⊎_elim (λ e. inl (sym c.method.ensures ∙ e)) (λ e. inr (sym c.method.ensures ∙ e)) c.in-Radix2.is
    in
    let l : c.args.k < length c.args.block.now = omega arith in
    record {
      value = reading_malformed m p c.args.k c.args.block.now p.method x way l c.index-block-k.is (sym c.test.ensures.value ∙ c.if-test.false);
      frame = c.test.ensures.frame;
    }
