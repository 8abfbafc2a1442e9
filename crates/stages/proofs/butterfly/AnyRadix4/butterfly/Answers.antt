use Rattle.std.proofs.Common.{◌≡◌, ℕ, ◌+◌, ◌*◌, ◌<◌, [], ◌∷◌, length, sym, ◌∙◌, subst, arith}
use Rattle.integers.specs.Complex.{◌⊕◌, ◌⊖◌, quarter_turn_of}
use Rattle.scheme.specs.Hidden.{StandsPair}
use Rattle.lines.specs.Lines.{butterfly}
use Rattle.lines.proofs.Butterflies.{butterfly_first, butterfly_second, butterfly_third, butterfly_fourth}
use Rattle.stages.proofs.Carrying.{Adds, Subtracts, Turns, stands_as, carried_sum, carried_difference, carried_turn}
use Rattle.stages.proofs.Entries.{entries_below, write_kept, write_read, four_cases, read_stands}
use Rattle.stages.proofs.butterfly.AnyRadix4.butterfly.Goals as goal

pub returns-clause-made : goal.returns-clause-made
returns-clause-made g c =
    let m = g.S.Scheme.meaning c.args.self.now in
    let sound = g.met.S.Scheme.sound c.args.self.now in
    let xs = c.args.block.now in
    let place = c.args.first in
    let span = c.args.span in
    let a = c.index-block-first.result in
    let b = c.index-block-second.result in
    let cc = c.index-block-third.result in
    let d = c.index-block-fourth.result in
    let p = c.sum-even.result in
    let q = c.sum-odd.result in
    let e = c.difference-even_less.result in
    let o = c.difference-odd_less.result in
    let t = c.turn-turned.result in
    let w = c.sum.result in
    let x = c.sum-2.result in
    let y = c.difference.result in
    let u = c.difference-2.result in
    let ys = w ∷ x ∷ y ∷ u ∷ [] in
    let f0 : g.S.Scheme.meaning c.sum-even.new.s ≡ m = c.sum-even.ensures.frame in
    let h0 : Adds m sound a cc p = c.sum-even.ensures.value in
    let f1 : g.S.Scheme.meaning c.sum-odd.new.s ≡ m = c.sum-odd.ensures.frame ∙ f0 in
    let h1 : Adds m sound b d q = simp f0 at c.sum-odd.ensures.value in
    let f2 : g.S.Scheme.meaning c.difference-even_less.new.s ≡ m = c.difference-even_less.ensures.frame ∙ f1 in
    let h2 : Subtracts m sound a cc e = simp f1 at c.difference-even_less.ensures.value in
    let f3 : g.S.Scheme.meaning c.difference-odd_less.new.s ≡ m = c.difference-odd_less.ensures.frame ∙ f2 in
    let h3 : Subtracts m sound b d o = simp f2 at c.difference-odd_less.ensures.value in
    let f4 : g.S.Scheme.meaning c.turn-turned.new.s ≡ m = c.turn-turned.ensures.frame ∙ f3 in
    let h4 : Turns m sound o t = simp f3 at c.turn-turned.ensures.value in
    let f5 : g.S.Scheme.meaning c.sum.new.s ≡ m = c.sum.ensures.frame ∙ f4 in
    let h5 : Adds m sound p q w = simp f4 at c.sum.ensures.value in
    let f6 : g.S.Scheme.meaning c.sum-2.new.s ≡ m = c.sum-2.ensures.frame ∙ f5 in
    let h6 : Adds m sound e t x = simp f5 at c.sum-2.ensures.value in
    let f7 : g.S.Scheme.meaning c.difference.new.s ≡ m = c.difference.ensures.frame ∙ f6 in
    let h7 : Subtracts m sound p q y = simp f6 at c.difference.ensures.value in
    let h8 : Subtracts m sound e t u = simp f7 at c.difference-2.ensures.value in
    let inside : (i : ℕ) → i < 4 → place + i * span < length xs = λ i hi. entries_below 4 place span (length xs) i hi c.requires.within in
    record {
      made =
          λ v n z stood l less.
          let i0 : StandsPair m v (z 0) a = read_stands m v (z 0) xs place (place + 0 * span) a n (omega arith) (omega arith) c.index-block-first.is (stood 0 (omega arith)) in
          let i1 : StandsPair m v (z 1) b = read_stands m v (z 1) xs (place + span) (place + 1 * span) b n (omega arith) (omega arith) c.index-block-second.is (stood 1 (omega arith)) in
          let i2 : StandsPair m v (z 2) cc = read_stands m v (z 2) xs (place + span + span) (place + 2 * span) cc n (omega arith) (omega arith) c.index-block-third.is (stood 2 (omega arith)) in
          let i3 : StandsPair m v (z 3) d = read_stands m v (z 3) xs (place + span + span + span) (place + 3 * span) d n (omega arith) (omega arith) c.index-block-fourth.is (stood 3 (omega arith)) in
          let even = carried_sum m sound a cc p h0 v (z 0) (z 2) i0 i2 in
          let odd = carried_sum m sound b d q h1 v (z 1) (z 3) i1 i3 in
          let fewer = carried_difference m sound a cc e h2 v (z 0) (z 2) i0 i2 in
          let turned = carried_turn m sound o t h4 v (z 1 ⊖ z 3) (carried_difference m sound b d o h3 v (z 1) (z 3) i1 i3) in
          let first = stands_as m sound v ((z 0 ⊕ z 2) ⊕ (z 1 ⊕ z 3)) (butterfly 4 z 0) w (sym (butterfly_first z)) (carried_sum m sound p q w h5 v (z 0 ⊕ z 2) (z 1 ⊕ z 3) even odd) in
          let second = stands_as m sound v ((z 0 ⊖ z 2) ⊕ quarter_turn_of (z 1 ⊖ z 3)) (butterfly 4 z 1) x (sym (butterfly_second z)) (carried_sum m sound e t x h6 v (z 0 ⊖ z 2) (quarter_turn_of (z 1 ⊖ z 3)) fewer turned) in
          let third = stands_as m sound v ((z 0 ⊕ z 2) ⊖ (z 1 ⊕ z 3)) (butterfly 4 z 2) y (sym (butterfly_third z)) (carried_difference m sound p q y h7 v (z 0 ⊕ z 2) (z 1 ⊕ z 3) even odd) in
          let fourth = stands_as m sound v ((z 0 ⊖ z 2) ⊖ quarter_turn_of (z 1 ⊖ z 3)) (butterfly 4 z 3) u (sym (butterfly_fourth z)) (carried_difference m sound e t u h8 v (z 0 ⊖ z 2) (quarter_turn_of (z 1 ⊖ z 3)) fewer turned) in
          subst (StandsPair m v (butterfly 4 z l)) (sym (write_read span ys xs place l n c.requires.apart inside less)) (four_cases (λ i. StandsPair m v (butterfly 4 z i)) w x y u n first second third fourth l less);
      kept = λ j not n. write_kept span ys xs place j n not;
    }
