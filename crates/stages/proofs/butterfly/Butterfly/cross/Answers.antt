use Rattle.std.proofs.Common.{◌≡◌, ℕ, ◌+◌, ◌*◌, length, ◌∙◌, subst, arith, rules}
use borrow.Author.Rules.{scaled_Fits}
use Rattle.integers.specs.declared.Complex.{Complex}
use Rattle.integers.specs.Complex.{◌⊗◌}
use Rattle.scheme.specs.Meaning.{View}
use Rattle.scheme.specs.Hidden.{StandsPair}
use Rattle.lines.specs.Lines.{weight, butterfly}
use Rattle.stages.specs.Mixing.{Replaced}
use Rattle.stages.proofs.Entries.{entry_inside, one_more}
use Rattle.stages.proofs.Crossing.{crossed}
use Rattle.stages.proofs.butterfly.Butterfly.cross.Goals as goal

pub offset_bounds-block-place : goal.offset_bounds-block-place
offset_bounds-block-place g c = let b = c.args.self in scaled_Fits _ (length c.args.block.now) _ (entry_inside g.row.R b.span b.group b.k c.loop-i.i (length c.args.block.now) c.loop-i-test.true b.below c.requires.within) (search rules)

pub offset_bounds-block-place-in-loop-i : goal.offset_bounds-block-place-in-loop-i
offset_bounds-block-place-in-loop-i g c = let b = c.args.self in scaled_Fits _ (length c.args.block.now) _ (entry_inside g.row.R b.span b.group b.k c.loop-i.i (length c.args.block.now) c.loop-i-test.true b.below c.requires.within) (search rules)

pub loop-i-preserved : goal.loop-i-preserved
loop-i-preserved g c =
    let m = g.S.Scheme.meaning c.args.s.now in
    let b = c.args.self in
    let i = c.loop-i.i in
    let first = b.group * (g.row.R * b.span) + b.k in
    let w : ℕ → Complex = λ n. weight b.scale (g.row.R * b.span) n b.k in
    let f : g.S.Scheme.meaning c.loop-i.s ≡ m = c.loop-i.invariant.frame in
    let h : (v : View) (z : Complex) → StandsPair m v z c.index-block-place.result → StandsPair m v (w i ⊗ z) c.weighted.result = λ v z held. let stands = (simp f at c.weighted.ensures.value) v z held in search (rules, stands) in
    let inside = entry_inside g.row.R b.span b.group b.k i (length c.args.block.now) c.loop-i-test.true b.below c.requires.within in
    record {
      frame = c.weighted.ensures.frame ∙ f;
      weighted = one_more m i first b.span w c.args.block.now c.loop-i.block c.index-block-place.result c.weighted.result (omega arith) (omega arith) c.index-block-place.is h c.loop-i.invariant.weighted;
    }

pub returns-clause-crossed : goal.returns-clause-crossed
returns-clause-crossed g c =
    let m = g.S.Scheme.meaning c.args.s.now in
    let b = c.args.self in
    let first = b.group * (g.row.R * b.span) + b.k in
    let f : g.S.Scheme.meaning c.loop-i.s ≡ m = c.loop-i.invariant.frame in
    let e : c.loop-i.i ≡ g.row.R = omega arith in
    let h1 : Replaced m g.row.R first b.span (λ x i. weight b.scale (g.row.R * b.span) i b.k ⊗ x i) c.args.block.now c.loop-i.block =
    subst (λ n. Replaced m n first b.span (λ x i. weight b.scale (g.row.R * b.span) i b.k ⊗ x i) c.args.block.now c.loop-i.block) e c.loop-i.invariant.weighted
    in
    let h2 : Replaced m g.row.R first b.span (butterfly g.row.R) c.loop-i.block c.butterfly.new.block =
    subst (λ w. Replaced w g.row.R first b.span (butterfly g.row.R) c.loop-i.block c.butterfly.new.block) f c.butterfly.ensures.made
    in
    crossed m b.scale g.row.R b.span b.group b.k c.args.block.now c.loop-i.block c.butterfly.new.block h1 h2
