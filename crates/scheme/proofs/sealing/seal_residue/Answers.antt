use Rattle.std.proofs.Common.{◌≡◌, ◌%◌, pos, [], ap, ◌∙◌, IsOkAnd, w64, SFits, rules}
use Rattle.std.proofs.lemmas.Int.{to_z-of_z}
use Rattle.integers.specs.Residue.{centred}
use Rattle.scheme.specs.Meaning.{Seals}
use Rattle.scheme.specs.Hidden.{Stands}
use Rattle.scheme.proofs.Refusing.{residue_answered}
use Rattle.scheme.proofs.sealing.seal_residue.Goals as goal

pub unwrap-requires : goal.unwrap-requires
unwrap-requires g c =
    let s = g.S.Scheme.meaning c.args.s.now in
    let k = g.met.S.Scheme.sound c.args.s.now in
    let fits : SFits w64 c.centred.result = record { sfits = c.centred.type_inv } in
    let f : g.S.Scheme.meaning c.modulus_of-modulus.new.s ≡ s = c.modulus_of-modulus.ensures.frame in
    let e = to_z-of_z w64 c.centred.result fits ∙ c.centred.ensures ∙ ap (λ n. centred (c.args.r % n) n) c.modulus_of-modulus.ensures.value in
    let h0 = rw (f, e) at c.seal.ensures.value in
    let sealed : Seals s (centred (c.args.r % s.modulus) s.modulus) 1 c.seal.result = search h0 in
    let h : IsOkAnd c.seal.result (Stands s [] (pos c.args.r)) = residue_answered s k c.args.r c.seal.result sealed in
    search rules

pub returns : goal.returns
returns g c =
    let s = g.S.Scheme.meaning c.args.s.now in
    let k = g.met.S.Scheme.sound c.args.s.now in
    let fits : SFits w64 c.centred.result = record { sfits = c.centred.type_inv } in
    let f : g.S.Scheme.meaning c.modulus_of-modulus.new.s ≡ s = c.modulus_of-modulus.ensures.frame in
    let e = to_z-of_z w64 c.centred.result fits ∙ c.centred.ensures ∙ ap (λ n. centred (c.args.r % n) n) c.modulus_of-modulus.ensures.value in
    let h0 = rw (f, e) at c.seal.ensures.value in
    let sealed : Seals s (centred (c.args.r % s.modulus) s.modulus) 1 c.seal.result = search h0 in
    let h : IsOkAnd c.seal.result (Stands s [] (pos c.args.r)) = residue_answered s k c.args.r c.seal.result sealed in
    record { value = rw c.unwrap.ensures at h; frame = c.seal.ensures.frame ∙ f }
