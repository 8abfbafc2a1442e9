use Rattle.std.proofs.lemmas.Result.{IfOk-weaker}
use Rattle.session.specs.Serving.{ServedUnder}
use Rattle.session.proofs.Phases.{under_plain, under_system, under_split}
use Rattle.session.proofs.serving.Session.serve_under.Goals as goal

pub returns-in-Plain : goal.returns-in-Plain
returns-in-Plain c = IfOk-weaker c.serve_new.result _ (λ next. ServedUnder c.args.scheme c.args.self.now c.serve_new.new.self next) (under_plain c.args.scheme c.in-Plain.plain c.in-Plain.is c.args.self.now c.serve_new.new.self) c.serve_new.ensures

pub returns-in-System : goal.returns-in-System
returns-in-System c = IfOk-weaker c.serve_new-in-System.result _ (λ next. ServedUnder c.args.scheme c.args.self.now c.serve_new-in-System.new.self next) (under_system c.args.scheme c.in-System.system c.in-System.is c.args.self.now c.serve_new-in-System.new.self) c.serve_new-in-System.ensures

pub returns-in-Split : goal.returns-in-Split
returns-in-Split c = IfOk-weaker c.serve_new-in-Split.result _ (λ next. ServedUnder c.args.scheme c.args.self.now c.serve_new-in-Split.new.self next) (under_split c.args.scheme c.in-Split.plain c.new.result.below c.in-Split.is c.new.ensures c.args.self.now c.serve_new-in-Split.new.self) c.serve_new-in-Split.ensures
