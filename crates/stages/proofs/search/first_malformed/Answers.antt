use Rattle.std.proofs.Common.{◌≡◌, ℕ, ◌<◌, ◌≤◌, Bool, true, false, ltb, min, List, length, get_or, take, sym, refl, ◌∙◌, subst, arith, rules, below_more, length-take}
use Rattle.std.specs.Bool.{then_some}
use Rattle.std.proofs.lemmas.Bool.{ltb-true, ltb-false}
use Rattle.std.proofs.lemmas.List.{get_or-take}
use Rattle.scheme.specs.Meaning.{Meaning}
use Rattle.scheme.specs.Hidden.{well_formed}
use Rattle.stages.specs.Block.{is_well_formed_at}
use Rattle.stages.specs.Search.{Found}
use Rattle.stages.proofs.Blocks.{sound_past, sound_there}
use Rattle.stages.proofs.search.first_malformed.Goals as goal

-- what the test of a pair at a place says of the place
tested : {Number : Type 0} (m : Meaning Number) (xs : List (Number × Number)) (n i : ℕ) (p : Number × Number) (b : Bool) → n ≤ length xs → i < length (take n xs) → p ≡ get_or (take n xs) i p → b ≡ well_formed m p → is_well_formed_at m xs i ≡ b
tested m xs n i p b long less is e =
    let l : length (take n xs) ≡ n = omega (arith, length-take n xs) in
    sound_there m xs i p (omega arith) (is ∙ get_or-take n xs i p (omega arith)) ∙ sym e

-- past the end of the block there is no pair
found_end : {Number : Type 0} (m : Meaning Number) (xs : List (Number × Number)) (count there : ℕ) (b : Bool) → ltb there count ≡ b → there ≡ min (length xs) count → ((k : ℕ) → k < there → is_well_formed_at m xs k ≡ true) → Found m xs count (then_some b there)
found_end m xs count there true e h ok = let a = ltb-true there count e in (a, sound_past m xs there (omega arith), ok)
found_end m xs count there false e h ok = let a = ltb-false there count e in λ k less. ok k (omega arith)

pub returns-then-not-test-clause-value : goal.returns-then-not-test-clause-value
returns-then-not-test-clause-value g c =
    let m = g.S.Scheme.meaning c.args.s.now in
    let f : g.S.Scheme.meaning c.loop-i.s ≡ m = c.loop-i.invariant.frame in
    let e : c.test.result ≡ well_formed m c.pair-item.result = rw f at c.test.ensures.value in
    let is : c.pair-item.result ≡ get_or (take c.min-there.result c.args.block.now) c.loop-i.i c.pair-item.result = search (rules, c.pair-item.is) in
    let low : c.loop-i.i < length (take c.min-there.result c.args.block.now) = search (rules, c.loop-i-test.true) in
    let l = length-take c.min-there.result c.args.block.now in
    let no : is_well_formed_at m c.args.block.now c.loop-i.i ≡ false = tested m c.args.block.now c.min-there.result c.loop-i.i c.pair-item.result c.test.result (omega arith) low is e ∙ c.if-not-test.true in
    (omega arith, search (rules, no), λ k less. c.loop-i.invariant.tested k (omega arith))

pub loop-i-preserved : goal.loop-i-preserved
loop-i-preserved g c =
    let m = g.S.Scheme.meaning c.args.s.now in
    let f : g.S.Scheme.meaning c.loop-i.s ≡ m = c.loop-i.invariant.frame in
    let e : c.test.result ≡ well_formed m c.pair-item.result = rw f at c.test.ensures.value in
    let is : c.pair-item.result ≡ get_or (take c.min-there.result c.args.block.now) c.loop-i.i c.pair-item.result = search (rules, c.pair-item.is) in
    let low : c.loop-i.i < length (take c.min-there.result c.args.block.now) = search (rules, c.loop-i-test.true) in
    record {
      frame = c.test.ensures.frame ∙ f;
      tested = below_more _ _ c.loop-i.invariant.tested (tested m c.args.block.now c.min-there.result c.loop-i.i c.pair-item.result c.test.result (omega arith) low is e ∙ c.if-not-test.false);
    }

pub returns-clause-value : goal.returns-clause-value
returns-clause-value g c =
    let m = g.S.Scheme.meaning c.args.s.now in
    let xs = c.args.block.now in
    let there = c.min-there.result in
    let l : c.loop-i.i ≡ there = omega (arith, length-take there xs) in
    let is : c.then_some.result ≡ then_some (ltb there c.args.count) there = search (rules, c.then_some.ensures) in
    subst (λ o. Found m xs c.args.count o) (sym is) (found_end m xs c.args.count there (ltb there c.args.count) refl c.min-there.ensures (λ k less. c.loop-i.invariant.tested k (omega arith)))
