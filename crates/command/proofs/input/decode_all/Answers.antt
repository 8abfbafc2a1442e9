use Rattle.std.proofs.Common.{rules, tests}
use Rattle.std.proofs.lemmas.Iterator.{YieldsList-from_map, items_from_collect}
use Rattle.std.proofs.lemmas.Iterator.Consumers.{YieldsList-at}
use Rattle.std.proofs.lemmas.Result.{IfOk-weaker}
use Rattle.command.specs.Lines.{without_feed, DecodesAll}
use Rattle.command.proofs.Splitting.{fed_by_split, decoded, decoded_once, decodes_fed}
use Rattle.command.proofs.input.decode_all.Goals as goal

pub returns : goal.returns
returns c =
    let items = items_from_collect c.collect.result c.collect.ensures.ran (YieldsList-from_map _ (λ p. decoded (without_feed p)) (YieldsList-at c.map.ensures.source (fed_by_split _ c.args.input.now c.split_inclusive.ensures.rest c.split_inclusive.ensures.closure (λ x b q k. search (rules, tests)))) c.map.ensures.closure (λ x r q k. search (rules, decoded_once))) in
    IfOk-weaker c.collect.result _ (λ v. DecodesAll c.args.input.now v.items) (λ v e. decodes_fed c.args.input.now v.items e) items
