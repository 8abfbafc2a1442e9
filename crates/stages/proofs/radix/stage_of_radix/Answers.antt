use Rattle.std.proofs.Common.{◌≡◌, ℕ, ◌*◌, ◌/◌, ◌^◌, length, Some, None, Ok, Err, Option, sym, refl, ap, ◌∙◌, subst, arith}
use Rattle.std.proofs.lemmas.Result.{err_from_is_err_and}
use Rattle.plan.specs.declared.plan.Plan.{Plan}
use Rattle.plan.specs.Methods.{base}
use Rattle.stages.specs.Search.{Found, Tested}
use Rattle.stages.specs.Stage.{Making, PowerBelow, stages_in}
use Rattle.stages.proofs.Blocks.{tested_cut}
use Rattle.stages.proofs.Finishing.{finished, refused, no_moment, not_formed}
use Rattle.stages.proofs.Shapes.{Shape, shaped, size_step}
use Rattle.stages.proofs.radix.stage_of_radix.Goals as goal

-- where there is a power below the size, there is a stage
shape : (p : Plan) (t r size span : ℕ) (o : Option ℕ) → r ≡ base p.method → p.size ≡ r ^ stages_in p → size ≡ p.size → PowerBelow r t size o → o ≡ Some span → Shape p t r span
shape p t r size span o rb powers z below is =
    let h : PowerBelow r t p.size (Some span) = subst (λ y. PowerBelow r t p.size y) is (subst (λ n. PowerBelow r t n o) z below) in
    shaped p t r span rb powers h.0 h.1

pub returns-in_err-span-clause-value : goal.returns-in_err-span-clause-value
returns-in_err-span-clause-value g c =
    let m = g.S.Scheme.meaning c.args.s.now in
    let p = c.args.plan.now in
    let e = err_from_is_err_and c.from_residual.result c.from_residual.ensures.1 in
    let h : PowerBelow g.row.R c.args.t p.size c.power_below.result = subst (λ n. PowerBelow g.row.R c.args.t n c.power_below.result) c.size-size.ensures c.power_below.ensures in
    refused m p c.args.t c.args.block.now c.from_residual.result c.in_err-span.field-0.0 e.0 e.1 (sym e.2)
    (no_moment m p c.args.t c.args.block.now g.row.R c.power_below.result c.in_err-span.field-0.0 c.requires.radix c.requires.powers c.requires.long h (sym c.ok_or.ensures.value ∙ c.in_err-span.was))

pub returns-in_err-all_well_formed-clause-value : goal.returns-in_err-all_well_formed-clause-value
returns-in_err-all_well_formed-clause-value g c =
    let m = g.S.Scheme.meaning c.args.s.now in
    let p = c.args.plan.now in
    let xs = c.args.block.now in
    let r = c.from_residual-in_err-all_well_formed.result in
    let f0 = c.in_err-all_well_formed.field-0.0 in
    let e = err_from_is_err_and r c.from_residual-in_err-all_well_formed.ensures.1 in
    let h : Tested m xs p.size (Err f0) = subst (λ n. Tested m xs n (Err f0)) c.size-size.ensures (tested_cut m c.size-size.result xs _ (Err f0) (omega (arith, c.size-size.ensures, c.requires.long)) refl c.in_err-all_well_formed.ensures.value) in
    refused m p c.args.t xs r f0 e.0 e.1 (sym e.2) (not_formed m p c.args.t xs f0 c.requires.long (shape c.args.plan.now c.args.t g.row.R c.size-size.result c.in_ok-span.span c.power_below.result c.requires.radix c.requires.powers c.size-size.ensures c.power_below.ensures c.in_ok-span.ensures.ok_part).moment h)

pub nonzero_div-groups : goal.nonzero_div-groups
nonzero_div-groups g c = (size_step c.args.plan.now c.args.t g.row.R c.in_ok-span.span (shape c.args.plan.now c.args.t g.row.R c.size-size.result c.in_ok-span.span c.power_below.result c.requires.radix c.requires.powers c.size-size.ensures c.power_below.ensures c.in_ok-span.ensures.ok_part)).1

pub returns-clause-value : goal.returns-clause-value
returns-clause-value g c =
    let m = g.S.Scheme.meaning c.args.s.now in
    let p = c.args.plan.now in
    let r = g.row.R in
    let span = c.in_ok-span.span in
    let size = c.size-size.result in
    let z : size ≡ p.size = c.size-size.ensures in
    let groups = size / (r * span) in
    let f : g.S.Scheme.meaning c.all_well_formed.new.s ≡ m = c.all_well_formed.ensures.frame in
    let q = c.twiddle_scale.result in
    let before = c.args.block.now in
    let after = c.cross_all.new.block in
    let formed : Found m before p.size None = subst (λ n. Found m before n None) z (tested_cut m size before _ (Ok tt) (omega (arith, z, c.requires.long)) refl c.in_ok-all_well_formed.ensures.value) in
    let made : (t : ℕ) → span ≡ r ^ t → Making m q r t groups (groups * span) before after =
    subst (λ w. (t : ℕ) → span ≡ r ^ t → Making w q r t groups (groups * span) before after) f c.cross_all.ensures.made
    in
    let same : length after ≡ length before = c.cross_all.auto.block in
    finished m (g.met.S.Scheme.sound c.args.s.now) p c.args.t r span groups q before after c.twiddle_scale.ensures c.requires.long (shape c.args.plan.now c.args.t g.row.R c.size-size.result c.in_ok-span.span c.power_below.result c.requires.radix c.requires.powers c.size-size.ensures c.power_below.ensures c.in_ok-span.ensures.ok_part) formed (ap (λ n. n / (r * span)) z) made same
