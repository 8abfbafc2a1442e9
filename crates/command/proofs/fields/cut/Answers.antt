use Rattle.std.proofs.Common.{eqb, rules, tests, sym, ap, ◌∙◌}
use Rattle.std.specs.Option.{option_map}
use Rattle.std.proofs.lemmas.Iterator.{YieldsList-from_slice}
use Rattle.std.proofs.lemmas.Iterator.Search.{position_from_yields_List}
use Rattle.std.proofs.lemmas.List.{take_rest}
use Rattle.command.proofs.Reading.{parts, cut_at_place}
use Rattle.command.proofs.fields.cut.Goals as goal

pub returns-in_err-at : goal.returns-in_err-at
returns-in_err-at c =
    let place = position_from_yields_List (λ b. eqb b c.args.separator) _ _ c.position.result c.position.ensures.ran (YieldsList-from_slice c.args.text.now c.iter.ensures.rest) (λ x b q k. search (rules, tests)) in
    rw c.from_residual.ensures (sym (cut_at_place c.args.separator c.args.text.now c.position.result place ∙ ap (option_map (parts c.args.text.now)) c.in_err-at.was))

pub returns : goal.returns
returns c =
    let place = position_from_yields_List (λ b. eqb b c.args.separator) _ _ c.position.result c.position.ensures.ran (YieldsList-from_slice c.args.text.now c.iter.ensures.rest) (λ x b q k. search (rules, tests)) in
    rw take_rest (sym (cut_at_place c.args.separator c.args.text.now c.position.result place ∙ ap (option_map (parts c.args.text.now)) c.in_ok-at.was))
