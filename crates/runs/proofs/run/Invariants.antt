use Rattle.std.proofs.Common.{◌≡◌, take, vec_items}
use Rattle.runs.proofs.Running.{SoFar}
use Rattle.runs.proofs.run.Given as goal

abbrev pub invariant-loop-call : goal.invariant-loop-call
invariant-loop-call g l =
    SoFar (g.S.Scheme.meaning l.s) l.initial.window.block.now (take l.call-index l.calls) (vec_items l.answers) l.window.state l.window.block.now
    × (g.S.Scheme.meaning l.s ≡ g.S.Scheme.meaning l.initial.s)
    × (l.window.block.ghost_name ≡ l.initial.window.block.ghost_name)
