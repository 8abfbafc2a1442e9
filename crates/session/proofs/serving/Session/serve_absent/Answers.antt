use Rattle.std.proofs.Common.{rules}
use Rattle.std.proofs.lemmas.Result.{IfOk-weaker}
use Rattle.session.specs.Serving.{ServedAbsent}
use Rattle.session.proofs.Answering.{absent_served}
use Rattle.session.proofs.serving.Session.serve_absent.Goals as goal

pub returns : goal.returns
returns c = IfOk-weaker c.serve_by.result _ (λ next. ServedAbsent c.args.self.now c.serve_by.new.self next) (absent_served _ _ (λ f d r g turn. search rules) c.args.self.now c.serve_by.new.self) c.serve_by.ensures
