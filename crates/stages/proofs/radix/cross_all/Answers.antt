use Rattle.std.proofs.Common.{◌≡◌, ◌+◌, ◌*◌, ◌<◌, ap, ◌∙◌, subst, arith}
use Rattle.stages.specs.Stage.{CrossedAt, Making}
use Rattle.stages.proofs.Making.{making_step}
use Rattle.stages.proofs.Shapes.{group_fits}
use Rattle.stages.proofs.radix.cross_all.Goals as goal

pub invariant_of-butterfly : goal.invariant_of-butterfly
invariant_of-butterfly g c =
    record {
      below = c.loop-k-test.true;
      small = group_fits c.loop-group.group c.args.groups (g.row.R * c.args.span) 256 c.loop-group-test.true c.requires.small;
    }

pub loop-k-init : goal.loop-k-init
loop-k-init g c =
    let m = g.S.Scheme.meaning c.args.s.now in
    let e : c.loop-group.group * c.args.span ≡ c.loop-group.group * c.args.span + 0 = omega arith in
    record {
      frame = c.loop-group.invariant.frame;
      made = λ t p. subst (λ b. Making m c.args.scale g.row.R t c.args.groups b c.args.block.now c.loop-group.block) e (c.loop-group.invariant.made t p);
    }

pub loop-k-preserved : goal.loop-k-preserved
loop-k-preserved g c =
    let m = g.S.Scheme.meaning c.args.s.now in
    let q = c.args.scale in
    let r = g.row.R in
    let span = c.args.span in
    let group = c.loop-group.group in
    let k = c.loop-k.k in
    let xs = c.args.block.now in
    let ys = c.cross.new.block in
    let f : g.S.Scheme.meaning c.loop-k.s ≡ m = c.loop-k.invariant.frame in
    let x : CrossedAt m q r span group k c.loop-k.block ys = subst (λ w. CrossedAt w q r span group k c.loop-k.block ys) f c.cross.ensures.crossed in
    let e : group * span + k + 1 ≡ group * span + (k + 1) = omega arith in
    record {
      frame = c.cross.ensures.frame ∙ f;
      made =
          λ t p.
          subst (λ b. Making m q r t c.args.groups b xs ys) e
          (making_step m q r t c.args.groups (group * span + k) group k xs c.loop-k.block ys c.loop-group-test.true (subst (λ n. k < n) p c.loop-k-test.true) (ap (λ n. group * n + k) p) (c.loop-k.invariant.made t p) (x t p));
    }

pub loop-group-preserved : goal.loop-group-preserved
loop-group-preserved g c =
    let m = g.S.Scheme.meaning c.args.s.now in
    let e : c.loop-group.group * c.args.span + c.loop-k.k ≡ (c.loop-group.group + 1) * c.args.span = omega arith in
    record {
      frame = c.loop-k.invariant.frame;
      made = λ t p. subst (λ b. Making m c.args.scale g.row.R t c.args.groups b c.args.block.now c.loop-k.block) e (c.loop-k.invariant.made t p);
    }

pub returns-clause-made : goal.returns-clause-made
returns-clause-made g c =
    let m = g.S.Scheme.meaning c.args.s.now in
    let e : c.loop-group.group ≡ c.args.groups = omega arith in
    λ t p. subst (λ n. Making m c.args.scale g.row.R t c.args.groups (n * c.args.span) c.args.block.now c.loop-group.block) e (c.loop-group.invariant.made t p)
