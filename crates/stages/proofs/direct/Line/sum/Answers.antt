use Rattle.std.proofs.Common.{◌≡◌, ℕ, ◌+◌, ◌*◌, ◌/◌, ◌<◌, List, [], ◌∷◌, ◌++◌, length, get_or, drop, sym, ap, ◌∙◌, subst, arith, length-drop, length-append}
use Rattle.std.specs.List.{enumerate_from}
use Rattle.std.proofs.lemmas.Grind.{get_or_after_one}
use Rattle.std.proofs.lemmas.List.FromFn.{length-enumerate_from, get_or-enumerate_from}
use Rattle.std.proofs.lemmas.Iterator.{YieldsList-from_slice}
use Rattle.std.proofs.lemmas.Iterator.Adapters.{YieldsList-from_skip}
use Rattle.std.proofs.lemmas.Iterator.Consumers.{YieldsList-at, YieldsList-from_enumerate, YieldsList-turn, YieldsList-end}
use Rattle.integers.specs.declared.Complex.{Complex}
use Rattle.integers.specs.Complex.{◌⊕◌, ◌⊗◌}
use Rattle.circle.specs.Twiddle.{twiddle}
use Rattle.scheme.specs.Meaning.{View}
use Rattle.scheme.specs.Hidden.{StandsPair}
use Rattle.lines.specs.Lines.{sum_below}
use Rattle.stages.specs.Direct.{term}
use Rattle.stages.proofs.Carrying.{Adds, stands_as, carried_sum}
use Rattle.stages.proofs.Summing.{sum_first, sum_next, sum_direct}
use Rattle.stages.proofs.direct.Line.sum.Goals as goal

-- the items after the first, each with its index
item : {A : Type 0} (xs : List A) (i n : ℕ) (y : A) → (i < length (drop 1 (enumerate_from 0 xs))) × ((n, y) ≡ get_or (drop 1 (enumerate_from 0 xs)) i (n, y)) → (i + 1 < length xs) × (n ≡ i + 1) × (y ≡ get_or xs (i + 1) y)
item {A} xs i n y (less, is) =
    let l : i + 1 < length xs = omega (arith, length-drop 1 (enumerate_from 0 xs), length-enumerate_from 0 xs) in
    let e : (n, y) ≡ (0 + (1 + i), get_or xs (1 + i) y) = is ∙ get_or_after_one (enumerate_from 0 xs) i (n, y) ∙ get_or-enumerate_from 0 xs (1 + i) (n, y) (omega arith) in
    let o : 1 + i ≡ i + 1 = omega arith in
    let h : n ≡ 0 + (1 + i) = ap (λ (p : ℕ × A). p.0) e in
    (l, omega arith, ap (λ (p : ℕ × A). p.1) e ∙ ap (λ j. get_or xs j y) o)

pub loop-n-init : goal.loop-n-init
loop-n-init g c =
    let m = g.S.Scheme.meaning c.args.s.now in
    let sound = g.met.S.Scheme.sound c.args.s.now in
    let b = c.args.self in
    let p = c.index-samples-0.result in
    record {
      frame = c.product-total.ensures.frame;
      sum =
          λ v x stood.
          let t = term b.scale b.size b.k x in
          stands_as m sound v (t 0) (sum_below 1 t) c.product-total.result (sum_first t) (c.product-total.ensures.value v (x 0) (subst (StandsPair m v (x 0)) (sym c.index-samples-0.is) (stood 0 (omega arith) p)));
    }

pub loop-n-preserved : goal.loop-n-preserved
loop-n-preserved g c =
    let m = g.S.Scheme.meaning c.args.s.now in
    let sound = g.met.S.Scheme.sound c.args.s.now in
    let b = c.args.self in
    let xs = c.args.samples.now in
    let i = length c.loop-n.yielded in
    let y = c.in-Some.sample.now in
    let next = c.product-next.result in
    let r = c.sum-total.result in
    let road = YieldsList-at c.into_iter-n-iterator.ensures.into_iter_gives (YieldsList-from_skip 1 (YieldsList-at c.skip-n-items.ensures.source (YieldsList-from_enumerate (YieldsList-at c.enumerate.ensures.source (YieldsList-from_slice xs c.iter.ensures.rest)) c.enumerate.ensures.count)) c.skip-n-items.ensures.count) in
    let turn = YieldsList-turn road c.loop-n.yielded _ c.loop-n.yielded_by _ _ (c.in-Some.n, c.in-Some.sample) c.in-Some.is c.next.ensures.steps in
    let h = item xs i c.in-Some.n y turn in
    let f : g.S.Scheme.meaning c.loop-n.s ≡ m = c.loop-n.invariant.frame in
    let f2 : g.S.Scheme.meaning c.product-next.new.s ≡ m = c.product-next.ensures.frame ∙ f in
    let made : (v : View) (z : Complex) → StandsPair m v z y → StandsPair m v (twiddle b.scale (c.in-Some.n * b.k * (256 / b.size)) ⊗ z) next = simp f at c.product-next.ensures.value in
    let adds : Adds m sound c.loop-n.total next r = simp f2 at c.sum-total.ensures.value in
    let more : i + 1 + 1 ≡ length (c.loop-n.yielded ++ (c.in-Some.n, c.in-Some.sample) ∷ []) + 1 = omega (arith, length-append c.loop-n.yielded ((c.in-Some.n, c.in-Some.sample) ∷ [])) in
    record {
      frame = c.sum-total.ensures.frame ∙ f2;
      sum =
          λ v x stood.
          let t = term b.scale b.size b.k x in
          let here : StandsPair m v (x (i + 1)) y = subst (StandsPair m v (x (i + 1))) (sym h.2) (stood (i + 1) (omega arith) y) in
          let product : StandsPair m v (t (i + 1)) next = subst (λ n. StandsPair m v (twiddle b.scale (n * b.k * (256 / b.size)) ⊗ x (i + 1)) next) h.1 (made v (x (i + 1)) here) in
          stands_as m sound v (sum_below (i + 1) t ⊕ t (i + 1)) (sum_below (length (c.loop-n.yielded ++ (c.in-Some.n, c.in-Some.sample) ∷ []) + 1) t) r (sum_next (i + 1) t ∙ ap (λ n. sum_below n t) more)
          (carried_sum m sound c.loop-n.total next r adds v (sum_below (i + 1) t) (t (i + 1)) (c.loop-n.invariant.sum v x stood) product);
    }

pub returns-clause-value : goal.returns-clause-value
returns-clause-value g c =
    let m = g.S.Scheme.meaning c.args.s.now in
    let sound = g.met.S.Scheme.sound c.args.s.now in
    let b = c.args.self in
    let xs = c.args.samples.now in
    let road = YieldsList-at c.into_iter-n-iterator.ensures.into_iter_gives (YieldsList-from_skip 1 (YieldsList-at c.skip-n-items.ensures.source (YieldsList-from_enumerate (YieldsList-at c.enumerate.ensures.source (YieldsList-from_slice xs c.iter.ensures.rest)) c.enumerate.ensures.count)) c.skip-n-items.ensures.count) in
    let end = YieldsList-end road c.loop-n.yielded _ c.loop-n.yielded_by _ _ c.in-None.is c.next.ensures.steps in
    let all : length c.loop-n.yielded + 1 ≡ b.size = omega (arith, end.1, length-drop 1 (enumerate_from 0 xs), length-enumerate_from 0 xs) in
    λ v x stood. stands_as m sound v (sum_below (length c.loop-n.yielded + 1) (term b.scale b.size b.k x)) _ c.loop-n.total (sum_direct b.scale b.size (length c.loop-n.yielded + 1) b.k x all) (c.loop-n.invariant.sum v x stood)
