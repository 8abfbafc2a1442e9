use Rattle.std.proofs.Common.{◌≡◌, length, ◌∙◌, ap, subst, refl, rules}
use Rattle.std.proofs.lemmas.Result.{IfOk-weaker}
use Rattle.scheme.specs.Meaning.{Meaning}
use Rattle.session.specs.Serving.{ServedFrom, Turning}
use Rattle.session.proofs.Answering.{window_served}
use Rattle.session.proofs.serving.Session.serve.Goals as goal

pub returns : goal.returns
returns g c =
    IfOk-weaker c.serve_by.result _ (λ next. ServedFrom (g.S.Scheme.meaning c.args.s.now) c.args.self.now c.serve_by.new.self next)
    (window_served (g.S.Scheme.meaning c.args.s.now) _ (λ f. f.0.now.state) (λ f. f.0.now.block.now) (λ f. g.S.Scheme.meaning f.1.now ≡ g.S.Scheme.meaning c.args.s.now)
    (λ f d r h holds turn.
    let t : Turning (g.S.Scheme.meaning f.1.now) f.0.now.state f.0.now.block.now d r h.0.now.state h.0.now.block.now × (g.S.Scheme.meaning h.1.now ≡ g.S.Scheme.meaning f.1.now) = search rules in
    (subst (λ (m : Meaning g.row.S-Number.Denot). Turning m f.0.now.state f.0.now.block.now d r h.0.now.state h.0.now.block.now) holds t.0, t.1 ∙ holds))
    _ refl c.new-window.ensures.idle (ap length c.new-window.ensures.block ∙ c.requires) c.args.self.now c.serve_by.new.self) c.serve_by.ensures
