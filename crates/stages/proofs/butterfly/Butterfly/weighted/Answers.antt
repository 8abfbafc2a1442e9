use Rattle.std.proofs.Common.{◌≡◌, ◌*◌, ◌/◌, pos, ap, ◌∙◌, arith, sym, subst, w64, to_z, of_z}
use Rattle.std.proofs.lemmas.Int.{to_z_pos}
use Rattle.integers.specs.Complex.{◌⊗◌, ◌⊙◌, quarter_turn_of}
use Rattle.scheme.specs.Hidden.{StandsPair}
use Rattle.lines.specs.Lines.{weight}
use Rattle.stages.proofs.Carrying.{stands_as, carried_product, carried_turn, carried_multiple, weight_scale, weight_twiddle, weight_turn, weight_none, at_most_one}
use Rattle.stages.proofs.butterfly.Butterfly.weighted.Goals as goal

pub returns-then-i-self-eq1-clause-value : goal.returns-then-i-self-eq1-clause-value
returns-then-i-self-eq1-clause-value g c =
    let m = g.S.Scheme.meaning c.args.s.now in
    let sound = g.met.S.Scheme.sound c.args.s.now in
    let b = c.args.self in
    let size = g.row.R * b.span in
    let i = c.args.i in
    let r = c.turn.result in
    λ v z f. stands_as m sound v (quarter_turn_of z) (weight b.scale size i b.k ⊗ z) r (weight_turn b.scale size i b.k z (omega arith) (omega arith)) (carried_turn m sound c.args.x r c.turn.ensures.value v z f)

pub returns-else-i-self-eq1-clause-value : goal.returns-else-i-self-eq1-clause-value
returns-else-i-self-eq1-clause-value g c =
    let m = g.S.Scheme.meaning c.args.s.now in
    let sound = g.met.S.Scheme.sound c.args.s.now in
    let b = c.args.self in
    let size = g.row.R * b.span in
    let i = c.args.i in
    let none : i * b.k * (4 / size) ≡ 0 = omega (arith, at_most_one g.row.R b.span i b.k c.requires b.below (omega arith)) in
    λ v z f. stands_as m sound v z (weight b.scale size i b.k ⊗ z) c.args.x (weight_none b.scale size i b.k z (omega arith) none) f

pub returns-then-i-eq0-clause-value : goal.returns-then-i-eq0-clause-value
returns-then-i-eq0-clause-value g c =
    let m = g.S.Scheme.meaning c.args.s.now in
    let sound = g.met.S.Scheme.sound c.args.s.now in
    let b = c.args.self in
    let size = g.row.R * b.span in
    let q = pos b.scale in
    let r = c.multiple.result in
    λ v z f.
    let e : to_z w64 (of_z w64 c.from.result) ≡ q = ap (λ n. to_z w64 (of_z w64 n)) c.from.ensures ∙ to_z_pos w64 b.scale (omega arith) in
    let w = stands_as m sound v (q ⊙ z) (weight b.scale size 0 b.k ⊗ z) r (weight_scale b.scale size b.k z (omega arith)) (carried_multiple m sound q c.args.x r (simp e at c.multiple.ensures.value) v z f) in
    subst (λ i. StandsPair m v (weight b.scale size i b.k ⊗ z) r) (sym c.if-i-eq0.true) w

pub returns-else-i-eq0-clause-value : goal.returns-else-i-eq0-clause-value
returns-else-i-eq0-clause-value g c =
    let m = g.S.Scheme.meaning c.args.s.now in
    let sound = g.met.S.Scheme.sound c.args.s.now in
    let b = c.args.self in
    let size = g.row.R * b.span in
    let i = c.args.i in
    let r = c.product.result in
    let w = c.twiddle-factor.result in
    let e : w ≡ weight b.scale size i b.k = c.twiddle-factor.ensures.value ∙ weight_twiddle b.scale size i b.k (omega arith) (omega arith) in
    λ v z f. stands_as m sound v (w ⊗ z) (weight b.scale size i b.k ⊗ z) r (ap (λ x. x ⊗ z) e) (carried_product m sound w c.args.x r c.product.ensures.value v z f)
