use Rattle.stages.proofs.place.+reversed.Given as goal

abbrev pub decreases-reversed : goal.decreases-reversed
decreases-reversed l = l.size
