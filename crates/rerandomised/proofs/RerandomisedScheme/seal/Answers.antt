use Rattle.std.proofs.Common.{◌≡◌, ◌*◌, ◌<◌, refl, ap, ◌∙◌, mod-eq_of_lt, arith, w64, rules, lt-ltb}
use Rattle.std.proofs.lemmas.Int.{to_z-of_z}
use Rattle.integers.specs.Residue.{residue}
use Rattle.integers.proofs.Residues.{residue_below}
use Rattle.rerandomised.proofs.RerandomisedScheme.seal.Goals as goal

pub returns : goal.returns
returns c =
    let n = c.args.self.now.modulus.n in
    let e : c.residue.result ≡ residue c.args.m n = c.residue.ensures ∙ ap (λ z. residue z n) (to_z-of_z w64 c.args.m c.ranges.m) in
    let z : 0 < n = omega arith in
    let b : c.residue.result < n = rw e (residue_below c.args.m n z) in
    record { value = record { within = search rules; taken = search rules; wf = lt-ltb c.residue.result (2 * n) (omega arith); hidden = mod-eq_of_lt b ∙ e }; frame = refl }
