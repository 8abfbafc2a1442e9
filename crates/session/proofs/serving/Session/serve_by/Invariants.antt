use Rattle.std.proofs.Common.{◌≡◌, ◌+◌, drop, length, vec_items, vec_len}
use Rattle.session.proofs.Answering.{Progress}
use Rattle.session.proofs.serving.Session.serve_by.Given as goal

abbrev pub invariant-loop-line : goal.invariant-loop-line
invariant-loop-line g l = record {
  callable : goal.F-IsAlwaysCallable g l.turn;
  lines : l.self.lines.now ≡ l.initial.self.lines.now;
  count : vec_len l.self.answers ≡ vec_len l.initial.self.answers + l.line-index;
  progress : Progress (λ f line r h. goal.F-step g f line r h) l.initial.turn (drop (length (vec_items l.initial.self.answers)) l.initial.self.lines.now) (vec_items l.initial.self.answers) l.turn l.line-index (vec_items l.self.answers);
}
