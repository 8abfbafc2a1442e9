use Rattle.scheme.proofs.hidden.+repeated.Given as goal

abbrev pub decreases-repeated : goal.decreases-repeated
decreases-repeated g l = l.size
