use Rattle.std.proofs.Common.{◌≡◌, true, ap, ◌∙◌, w64, SFits, rules}
use Rattle.std.proofs.lemmas.Int.{to_z-of_z}
use Rattle.integers.specs.Residue.{centred}
use Rattle.integers.proofs.Residues.{centred_only}
use Rattle.scheme.specs.Meaning.{Sealed}
use Rattle.scheme.specs.Sealing.{means}
use Rattle.scheme.proofs.sealing.seal_and_open.Goals as goal

pub returns : goal.returns
returns g c =
    let s = g.S.Scheme.meaning c.args.s.now in
    let k = g.met.S.Scheme.sound c.args.s.now in
    let x = c.in_ok-x.x in
    let fits : SFits w64 c.open_centred.result = record { sfits = c.open_centred.type_inv } in
    let f : g.S.Scheme.meaning c.seal.new.self ≡ s = c.in_ok-x.ensures.frame in
    let m : Sealed s c.args.m c.args.word x = rw (to_z-of_z w64 c.args.m c.ranges.m) at c.in_ok-x.ensures.value in
    let o : s.wf x ≡ true → c.open_centred.result ≡ means s x = rw f at c.open_centred.ensures.value in
    let e : c.open_centred.result ≡ c.args.m =
    o m.wf ∙ ap (λ r. centred r s.modulus) m.hidden ∙ centred_only c.args.m s.modulus k.odd m.within in
    record {
      value = record { within = m.within; taken = m.taken; same = search rules };
      frame = c.open_centred.ensures.frame ∙ f;
    }
