use Rattle.std.proofs.Common.{◌≡◌, ℕ, ◌+◌, ◌%◌, ◌<◌, ℤ, pos, ◌-ℤ◌, sym, ap, ◌∙◌, subst, arith, w64}
use Rattle.std.proofs.lemmas.Int.{to_z-of_z}
use Rattle.integers.specs.Residue.{residue}
use Rattle.split.proofs.Laws.{rest_is}
use Rattle.secrecy.specs.declared.House.{House}
use Rattle.secrecy.specs.Masks.{side, word}
use Rattle.secrecy.proofs.mask_word.Goals as goal

pub returns-in-Second : goal.returns-in-Second
returns-in-Second c =
    let n : ℕ = c.args.n.n in
    let o : ℕ = c.opposite.result in
    let some : 0 < n = omega (arith, c.opposite.ensures.below) in
    let e : c.sum.result ≡ residue (c.args.z -ℤ pos c.args.x.second) n =
    c.sum.ensures
    ∙ ap (λ (a : ℕ). (a + o) % n) c.residue.ensures
    ∙ ap (λ (a : ℤ). (residue a n + o) % n) (to_z-of_z w64 c.args.z c.ranges.z)
    ∙ rest_is c.args.z c.args.x.second o n some c.opposite.ensures.below c.opposite.ensures.cancels in
    subst (λ (k : House). c.sum.result ≡ word n (side k) c.args.z c.args.x) (sym c.in-Second.is) e
