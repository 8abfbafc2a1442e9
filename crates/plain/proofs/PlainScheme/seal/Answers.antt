use Rattle.std.proofs.Common.{◌≡◌, ◌<◌, refl, arith, rules, lt-ltb}
use Rattle.std.proofs.lemmas.Int.{to_z-of_z}
use Rattle.integers.specs.Residue.{residue}
use Rattle.integers.proofs.Residues.{residue_below}
use Rattle.plain.proofs.PlainScheme.seal.Goals as goal

pub returns : goal.returns
returns c =
    let n = c.args.self.now.modulus.n in
    let e : c.residue.result ≡ residue c.args.m n = search (rules, to_z-of_z) in
    let z : 0 < n = omega arith in
    let b : c.residue.result < n = rw e (residue_below c.args.m n z) in
    record { value = record { within = search rules; taken = search rules; wf = lt-ltb c.residue.result n b; hidden = e }; frame = refl }
