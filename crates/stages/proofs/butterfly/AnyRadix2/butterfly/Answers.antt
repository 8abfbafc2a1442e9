use Rattle.std.proofs.Common.{◌≡◌, ℕ, ◌+◌, ◌*◌, ◌<◌, [], ◌∷◌, length, get_or, sym, subst, arith, rules}
use Rattle.integers.specs.Complex.{◌⊕◌, ◌⊖◌}
use Rattle.scheme.specs.Hidden.{StandsPair}
use Rattle.lines.specs.Lines.{butterfly}
use Rattle.lines.proofs.Butterflies.{butterfly_sum, butterfly_difference}
use Rattle.stages.proofs.Carrying.{stands_as, carried_sum, carried_difference}
use Rattle.stages.proofs.Entries.{entries_below, write_kept, write_read, two_cases, read_stands}
use Rattle.stages.proofs.butterfly.AnyRadix2.butterfly.Goals as goal

pub returns-clause-made : goal.returns-clause-made
returns-clause-made g c =
    let m = g.S.Scheme.meaning c.args.self.now in
    let sound = g.met.S.Scheme.sound c.args.self.now in
    let xs = c.args.block.now in
    let p = c.args.first in
    let span = c.args.span in
    let r = c.sum.result in
    let t = c.difference.result in
    let ys = r ∷ t ∷ [] in
    let f : g.S.Scheme.meaning c.sum.new.s ≡ m = c.sum.ensures.frame in
    let h = simp f at c.difference.ensures.value in
    let inside : (i : ℕ) → i < 2 → p + i * span < length xs = λ i hi. entries_below 2 p span (length xs) i hi c.requires.within in
    record {
      made =
          λ v d z stood l less.
          let x : (a : g.row.S-Number.Denot × g.row.S-Number.Denot) → a ≡ get_or xs p a → StandsPair m v (z 0) a = λ a is. read_stands m v (z 0) xs p (p + 0 * span) a d (omega arith) (omega arith) is (stood 0 (omega arith)) in
          let y : (b : g.row.S-Number.Denot × g.row.S-Number.Denot) → b ≡ get_or xs (p + span) b → StandsPair m v (z 1) b = λ b is. read_stands m v (z 1) xs (p + span) (p + 1 * span) b d (omega arith) (omega arith) is (stood 1 (omega arith)) in
          let first = stands_as m sound v (z 0 ⊕ z 1) (butterfly 2 z 0) r (sym (butterfly_sum z)) (carried_sum m sound _ _ r c.sum.ensures.value v (z 0) (z 1) (search (rules, x)) (search (rules, y))) in
          let second = stands_as m sound v (z 0 ⊖ z 1) (butterfly 2 z 1) t (sym (butterfly_difference z)) (carried_difference m sound _ _ t h v (z 0) (z 1) (search (rules, x)) (search (rules, y))) in
          subst (StandsPair m v (butterfly 2 z l)) (sym (write_read span ys xs p l d c.requires.apart inside less)) (two_cases (λ i. StandsPair m v (butterfly 2 z i)) r t d first second l less);
      kept = λ q not d. write_kept span ys xs p q d not;
    }
