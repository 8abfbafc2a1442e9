use Rattle.std.proofs.Common.{◌≡◌, ℕ, ◌-◌, ◌<◌, ◌≤◌, List, take, length, get_or, Some, None, Ok, Err, Result, sym, ap, ◌∙◌, subst, arith}
use Rattle.std.specs.List.{slice_range}
use Rattle.std.proofs.lemmas.List.{get_or-take}
use Rattle.std.proofs.lemmas.Result.{err_from_is_err_and}
use Rattle.integers.specs.declared.Complex.{Complex}
use Rattle.refusal.specs.declared.kinds.Refusal.{Refusal}
use Rattle.refusal.specs.declared.kinds.Refusal.TheVariants.{Malformed}
use Rattle.plan.specs.declared.plan.Plan.{Plan}
use Rattle.scheme.specs.Meaning.{Meaning, View}
use Rattle.scheme.specs.Hidden.{StandsPair}
use Rattle.lines.specs.Lines.{direct_line_of}
use Rattle.stages.specs.Direct.{Samples, DirectAnswer, DirectRefused}
use Rattle.stages.specs.Search.{Found, Tested}
use Rattle.stages.proofs.Blocks.{tested_cut}
use Rattle.stages.proofs.Summing.{summed}
use Rattle.stages.proofs.direct.direct_line.Goals as goal

-- the samples are those of the block
same : {A : Type 0} (xs : List A) (n i : ℕ) (d : A) → i < n → get_or (slice_range xs 0 n) i d ≡ get_or xs i d
same xs n i d h = get_or-take (n - 0) xs i d (omega arith)

-- a malformed pair among the samples is one of the block
not_formed : {Number : Type 0} (m : Meaning Number) (p : Plan) (k size : ℕ) (xs : List (Number × Number)) (r : Result (Number × Number) Refusal) (x y : Refusal) → size ≡ p.size → size ≤ length xs → k < size → Tested m xs size (Err x) → r ≡ Err y → y ≡ x → DirectAnswer m p k xs r
not_formed m p k size xs r x y z long low (i, is, found) e same =
    let f : Found m xs p.size (Some i) = subst (λ n. Found m xs n (Some i)) z found in
    let d : DirectRefused m p k xs (Malformed i) = (omega (arith, z, long), omega (arith, z, low), f) in
    subst (λ o. DirectAnswer m p k xs o) (sym e) (subst (λ o. DirectRefused m p k xs o) (sym (same ∙ is)) d)

pub returns-in_err-all_well_formed-clause-value : goal.returns-in_err-all_well_formed-clause-value
returns-in_err-all_well_formed-clause-value g c =
    let m = g.S.Scheme.meaning c.args.s.now in
    let xs = c.args.block.now in
    let size = c.size-size.result in
    let r = c.from_residual-in_err-all_well_formed.result in
    let f0 = c.in_err-all_well_formed.field-0.0 in
    let e = err_from_is_err_and r c.from_residual-in_err-all_well_formed.ensures.1 in
    let there = rw c.in_ok-samples.ensures.ok_part at c.get.ensures.lookup in
    let whole : size - 0 ≡ size = omega arith in
    let tested : Tested m xs size (Err f0) = tested_cut m size xs c.in_ok-samples.samples.now (Err f0) there.0.1 (there.0.2 ∙ ap (λ n. take n xs) whole) c.in_err-all_well_formed.ensures.value in
    not_formed m c.args.plan.now c.args.k size xs r f0 e.0 c.size-size.ensures there.0.1 (omega arith) tested e.1 e.2

pub returns-clause-value : goal.returns-clause-value
returns-clause-value g c =
    let m = g.S.Scheme.meaning c.args.s.now in
    let p = c.args.plan.now in
    let k = c.args.k in
    let xs = c.args.block.now in
    let ys = c.in_ok-samples.samples.now in
    let size = c.size-size.result in
    let q = c.twiddle_scale.result in
    let r = c.sum.result in
    let f : g.S.Scheme.meaning c.all_well_formed.new.s ≡ m = c.all_well_formed.ensures.frame in
    let there = rw c.in_ok-samples.ensures.ok_part at c.get.ensures.lookup in
    let long : size ≤ length xs = there.0.1 in
    let is : ys ≡ slice_range xs 0 size = there.0.2 in
    let whole : size - 0 ≡ size = omega arith in
    let formed : Found m xs size None = tested_cut m size xs ys (Ok tt) long (is ∙ ap (λ n. take n xs) whole) c.in_ok-all_well_formed.ensures.value in
    let line : (v : View) (x : ℕ → Complex) → Samples m v size x ys → StandsPair m v (direct_line_of q size x k) r =
    subst (λ w. (v : View) (x : ℕ → Complex) → Samples w v size x ys → StandsPair w v (direct_line_of q size x k) r) f c.sum.ensures.value
    in
    summed m (g.met.S.Scheme.sound c.args.s.now) p k q size xs r c.size-size.ensures c.twiddle_scale.ensures long (omega arith) formed
    (λ v x stood. line v x (λ i less d. subst (StandsPair m v (x i)) (sym (ap (λ l. get_or l i d) is ∙ same xs size i d less)) (stood i less d)))
