use Rattle.std.proofs.Common.{◌≡◌, ap, ◌∙◌}
use Rattle.split.proofs.Figures.{figure_stands_lem}
use Rattle.split.proofs.figure.sealed_figure.Goals as goal

pub returns : goal.returns
returns c =
    let n : c.new-s.result.below.modulus.n ≡ 81 = ap (λ p. p.modulus.n) c.new-s.ensures ∙ c.in_ok-new.ensures.1 in
    let value = rw n at c.seal.ensures.value in
    let halves = rw n at c.seal.ensures.halves in
    search (figure_stands_lem, value, halves)
