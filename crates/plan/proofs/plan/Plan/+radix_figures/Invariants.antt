use Rattle.plan.proofs.plan.Plan.+radix_figures.Given as goal

abbrev pub decreases-radix_figures : goal.decreases-radix_figures
decreases-radix_figures l = l.self.size
