use Rattle.std.proofs.Common.{◌≡◌, ◌-◌, List, [], ◌∷◌, ◌++◌, drop, take, length, None, Ok, vec_items, ap, ◌∙◌, append_assoc, arith, of_calls, length-drop}
use Rattle.session.specs.Session.{Answer, Decoded}
use Rattle.session.proofs.Answering.{lines_left, progress_more, progress_chosen, progress_all}
use Rattle.session.proofs.serving.Session.serve_by.Goals as goal

pub returns-in-Break : goal.returns-in-Break
returns-in-Break g c =
    let lines : List Decoded = c.args.self.now.lines.now in
    let before : List Answer = vec_items c.args.self.now.answers in
    let from : c.len.result ≡ length before = cc in
    let same : take (length lines - c.len.result) (drop c.len.result lines) ≡ drop (length before) lines = lines_left lines c.len.result before from in
    let so_far = c.loop-line.invariant.progress in
    record {
      lines = c.loop-line.invariant.lines;
      added = so_far.added ++ Ok None ∷ [];
      answers = c.in_ok-push-in-Break.ensures.items ∙ (ap (λ (rs : List Answer). rs ++ Ok None ∷ []) so_far.answers ∙ append_assoc before so_far.added (Ok None ∷ []));
      turns = progress_chosen _ c.args.turn (drop (length before) lines) before c.loop-line.turn c.turn.new.self c.loop-line.line-index (vec_items c.loop-line.self.answers) so_far _ (omega (arith, length-drop (length before) lines)) c.in-Break.scheme (rw same at c.in-Break.ensures);
    }

pub loop-line-preserved : goal.loop-line-preserved
loop-line-preserved g c =
    let lines : List Decoded = c.args.self.now.lines.now in
    let before : List Answer = vec_items c.args.self.now.answers in
    let from : c.len.result ≡ length before = cc in
    let same : take (length lines - c.len.result) (drop c.len.result lines) ≡ drop (length before) lines = lines_left lines c.len.result before from in
    record {
      callable = search (of_calls, c.loop-line.invariant.callable);
      lines = c.loop-line.invariant.lines;
      count = omega (arith, c.in_ok-push-in-Continue.ensures.len);
      progress = rw c.in_ok-push-in-Continue.ensures.items (progress_more _ c.args.turn (drop (length before) lines) before c.loop-line.turn c.turn.new.self c.loop-line.line-index (vec_items c.loop-line.self.answers) c.loop-line.invariant.progress _ (omega (arith, length-drop (length before) lines)) c.in-Continue.answer (rw same at c.in-Continue.ensures));
    }

pub returns : goal.returns
returns g c =
    let lines : List Decoded = c.args.self.now.lines.now in
    let before : List Answer = vec_items c.args.self.now.answers in
    let from : c.len.result ≡ length before = cc in
    let so_far = c.loop-line.invariant.progress in
    record {
      lines = c.loop-line.invariant.lines;
      added = so_far.added;
      answers = so_far.answers;
      turns = progress_all _ c.args.turn (drop (length before) lines) before c.loop-line.turn c.loop-line.line-index (vec_items c.loop-line.self.answers) so_far (omega (arith, length-drop (length before) lines));
    }
