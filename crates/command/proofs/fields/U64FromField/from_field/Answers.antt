use Rattle.std.proofs.Common.{◌≡◌, ◌&&◌, true, false, leb, length, sym, rules, tests}
use Rattle.std.proofs.lemmas.Iterator.{YieldsList-from_slice}
use Rattle.command.specs.Fields.{digit_after_modulo}
use Rattle.command.proofs.Folding.{try_folded}
use Rattle.command.proofs.Reading.{numeral_unfit, numeral_folded_modulo, filtered_is}
use Rattle.command.proofs.fields.U64FromField.from_field.Goals as goal

pub returns-then-is_empty-clause-value : goal.returns-then-is_empty-clause-value
returns-then-is_empty-clause-value c =
    let unfit : (leb 1 (length c.args.field.now) && leb (length c.args.field.now) 19) ≡ false = search rules in
    sym (numeral_unfit c.args.field.now unfit)

pub returns-clause-value : goal.returns-clause-value
returns-clause-value c =
    let fit : (leb 1 (length c.args.field.now) && leb (length c.args.field.now) 19) ≡ true = search rules in
    let read = try_folded (λ b. b.now) _ digit_after_modulo _ 0 _ (λ n b r q k. search rules) _ _ c.args.field.now c.try_fold.result c.try_fold.ensures.ran (YieldsList-from_slice c.args.field.now c.iter.ensures.rest) in
    numeral_folded_modulo c.args.field.now c.try_fold.result c.filter.result fit read (filtered_is c.try_fold.result c.filter.result (λ x b k. search (rules, tests)) c.filter.ensures)
