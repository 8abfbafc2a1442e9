use Rattle.std.proofs.Common.{◌≡◌, ◌+◌, ◌%◌, ◌<◌, ◌≤◌, [], pos, ◌-ℤ◌, nat_abs, ap, ◌∙◌, ap₂, arith, w64, rules}
use Rattle.std.proofs.lemmas.Int.{to_z-of_z}
use Rattle.integers.specs.Residue.{residue, half}
use Rattle.scheme.specs.Hidden.{Stands}
use Rattle.split.specs.Shares.{split}
use Rattle.split.proofs.Laws.{rest_is, masked, seal_splits}
use Rattle.split.proofs.SplitScheme.seal.Goals as goal

pub returns : goal.returns
returns g c =
    let s = g.S.Scheme.meaning c.args.self.now.below in
    let k = g.met.S.Scheme.sound c.args.self.now.below in
    let m = c.args.m in
    let word = c.args.word in
    let x = c.seal_residue-first.result in
    let y = c.seal_residue-second.result in
    let n : c.modulus_of-modulus.result.n ≡ s.modulus = c.modulus_of-modulus.ensures.value in
    let f1 : g.S.Scheme.meaning c.modulus_of-modulus.new.s ≡ s = c.modulus_of-modulus.ensures.frame in
    let f2 : g.S.Scheme.meaning c.seal_residue-first.new.s ≡ s = c.seal_residue-first.ensures.frame ∙ f1 in
    let z : 0 < s.modulus = omega (arith, k.least) in
    let narrow : word < c.modulus_of-modulus.result.n = search rules in
    let below : word < s.modulus = rw n at narrow in
    let small : nat_abs m ≤ half c.modulus_of-modulus.result.n = search rules in
    let within : nat_abs m ≤ half s.modulus = rw n at small in
    let o : c.opposite.result < s.modulus = rw n at c.opposite.ensures.below in
    let cancels : (word + c.opposite.result) % c.modulus_of-modulus.result.n ≡ 0 = search rules in
    let t : (word + c.opposite.result) % s.modulus ≡ 0 = rw n at cancels in
    let e : c.sum-rest.result ≡ residue (m -ℤ pos word) s.modulus =
    c.sum-rest.ensures
    ∙ ap (λ a. (a + c.opposite.result) % c.modulus_of-modulus.result.n) c.residue.ensures
    ∙ ap₂ (λ a b. (residue a b + c.opposite.result) % b) (to_z-of_z w64 m c.ranges.m) n
    ∙ rest_is m word c.opposite.result s.modulus z o t in
    let first = rw f1 at c.seal_residue-first.ensures.value in
    let second = rw f2 at c.seal_residue-second.ensures.value in
    let p : Stands s [] (pos word) x = search first in
    let q : Stands s [] (pos c.sum-rest.result) y = search second in
    let h = masked s k m word c.sum-rest.result x y e below p q in
    record {
      value = seal_splits s k m word x y within below p.wf q.wf h;
      halves = h;
      frame = ap split (c.seal_residue-second.ensures.frame ∙ f2);
    }
