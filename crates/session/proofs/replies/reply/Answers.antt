use Rattle.std.proofs.Common.{List, vec_items, ap, ◌∙◌, subst, inl, inr, rules}
use Rattle.std.proofs.lemmas.Result.{IfOk-weaker}
use Rattle.secrecy.proofs.Secrecy.{secrecy_stands}
use Rattle.command.specs.Text.{transcript_of}
use Rattle.session.specs.Session.{Decoded}
use Rattle.session.specs.Replies.{SessionOf}
use Rattle.session.proofs.replies.reply.Goals as goal

pub returns-then-input-gt-LIMIT : goal.returns-then-input-gt-LIMIT
returns-then-input-gt-LIMIT c = record { replies = IfOk-weaker c.transcript.result _ _ (λ t e. inr (c.if-input-gt-LIMIT.true, e)) c.transcript.ensures; houses = secrecy_stands }

pub returns-in_err-lines : goal.returns-in_err-lines
returns-in_err-lines c = record { replies = search rules; houses = secrecy_stands }

pub returns-in_err-answers : goal.returns-in_err-answers
returns-in_err-answers c = record { replies = search rules; houses = secrecy_stands }

pub returns : goal.returns
returns c =
    let session : SessionOf (vec_items c.in_ok-lines.lines) (vec_items c.in_ok-answers.answers) = subst (λ (ds : List Decoded). SessionOf ds (vec_items c.in_ok-answers.answers)) c.as_slice.ensures.value c.in_ok-answers.ensures in
    record {
      replies = IfOk-weaker c.transcript-2.result _ _ (λ t e. inl (c.if-input-gt-LIMIT.false, record { lines = vec_items c.in_ok-lines.lines; answers = vec_items c.in_ok-answers.answers; decodes = c.in_ok-lines.ensures; session = session; text = e ∙ ap transcript_of c.as_slice-2.ensures.value })) c.transcript-2.ensures;
      houses = secrecy_stands;
    }
