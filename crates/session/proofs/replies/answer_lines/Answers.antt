use Rattle.std.proofs.Common.{◌≡◌, List, Some, None, vec_items, Option, sym, ◌∙◌, subst}
use Rattle.session.specs.declared.schemes.Chosen.{Chosen}
use Rattle.session.specs.Session.{absent, Decoded, Answer}
use Rattle.session.specs.Serving.{Served}
use Rattle.session.proofs.Ending.{session_whole}
use Rattle.session.proofs.replies.answer_lines.Goals as goal

-- the lines of one scheme more
pub loop-next-preserved : goal.loop-next-preserved
loop-next-preserved c =
    let same : c.loop-next.session.lines.now ≡ c.args.lines.now = c.loop-next.invariant.lines in
    let here = c.in_ok-next-2.ensures in
    let ready : Served absent c.args.lines.now (vec_items c.loop-next.session.answers) (Some c.in-Some.scheme) = subst (λ (o : Option Chosen). Served absent c.args.lines.now (vec_items c.loop-next.session.answers) o) c.in-Some.is c.loop-next.invariant.served in
    let served = here.served absent (subst (λ (ds : List Decoded). Served absent ds (vec_items c.loop-next.session.answers) (Some c.in-Some.scheme)) (sym same) ready) in
    record {
      lines = here.lines ∙ same;
      served = subst (λ (ds : List Decoded). Served absent ds (vec_items c.serve_under.new.self.answers) c.in_ok-next-2.next) same served;
    }

-- all of them
pub returns : goal.returns
returns c =
    let whole : Served absent c.args.lines.now (vec_items c.loop-next.session.answers) None = subst (λ (o : Option Chosen). Served absent c.args.lines.now (vec_items c.loop-next.session.answers) o) c.in_default.is c.loop-next.invariant.served in
    session_whole c.args.lines.now c.into_answers.result.items (subst (λ (rs : List Answer). Served absent c.args.lines.now rs None) (sym c.into_answers.ensures) whole)
