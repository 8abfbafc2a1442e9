use Rattle.std.proofs.Common.{◌≡◌, ◌-◌, length, vec_items, vec_len}
use Rattle.session.specs.Session.{absent}
use Rattle.session.specs.Serving.{Served}
use Rattle.session.proofs.Ending.{turns_left}
use Rattle.session.proofs.replies.answer_lines.Given as goal

abbrev pub invariant-loop-next : goal.invariant-loop-next
invariant-loop-next l = record {
  lines : l.session.lines.now ≡ l.lines;
  served : Served absent l.lines (vec_items l.session.answers) l.next;
}

abbrev pub decreases-loop-next : goal.decreases-loop-next
decreases-loop-next l = turns_left l.next (length l.session.lines.now - vec_len l.session.answers)
