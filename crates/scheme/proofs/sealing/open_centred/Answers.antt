use Rattle.std.proofs.Common.{◌≡◌, ◌%◌, ◌<◌, ap, ◌∙◌, ap₂, mod-eq_of_lt, w64, SFits, rules}
use Rattle.std.proofs.lemmas.Int.{to_z-of_z}
use Rattle.integers.specs.Residue.{centred}
use Rattle.scheme.specs.Meaning.{hides}
use Rattle.scheme.proofs.sealing.open_centred.Goals as goal

pub returns : goal.returns
returns g c =
    let s = g.S.Scheme.meaning c.args.s.now in
    let f : g.S.Scheme.meaning c.modulus_of-modulus.new.s ≡ s = c.modulus_of-modulus.ensures.frame in
    let fits : SFits w64 c.centred.result = record { sfits = c.centred.type_inv } in
    let n : c.modulus_of-modulus.result.n ≡ s.modulus = c.modulus_of-modulus.ensures.value in
    record {
      value =
          λ w.
          let o : c.open.result ≡ hides s c.args.x = (rw f at c.open.ensures.value) w in
          let b : hides s c.args.x < s.modulus = (g.met.S.Scheme.sound c.args.s.now).below _ c.args.x w in
          let e : c.centred.result ≡ centred (c.open.result % c.modulus_of-modulus.result.n) c.modulus_of-modulus.result.n = search rules in
          to_z-of_z w64 c.centred.result fits
          ∙ e
          ∙ ap₂ (λ x m. centred (x % m) m) o n
          ∙ ap (λ x. centred x s.modulus) (mod-eq_of_lt b);
      frame = c.open.ensures.frame ∙ f;
    }
