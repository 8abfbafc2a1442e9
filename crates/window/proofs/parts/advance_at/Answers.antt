use Rattle.std.proofs.Common.{◌≡◌, true, eqb, ◌∙◌, subst}
use Rattle.stages.specs.Stage.{StageAnswer}
use Rattle.window.proofs.Staging.{advancing}
use Rattle.window.proofs.parts.advance_at.Goals as goal

pub returns : goal.returns
returns g c =
    let m = g.S.Scheme.meaning c.args.s.now in
    let kept = c.args.kept.now in
    let f : g.S.Scheme.meaning c.same_modulus.new.s ≡ m = c.same_modulus.ensures.frame in
    let e : eqb m.modulus kept.modulus ≡ true = c.in_ok-same_modulus.ensures.value in
    let h : StageAnswer m kept.plan c.args.t c.args.block.now c.stage.new.block c.stage.result =
    subst (λ w. StageAnswer w kept.plan c.args.t c.args.block.now c.stage.new.block c.stage.result) f c.stage.ensures.value
    in
    record {
      value = advancing m kept c.args.t c.args.block.now c.stage.new.block c.stage.result c.requires.long c.requires.due e h;
      frame = c.stage.ensures.frame ∙ f;
    }
