use Rattle.std.proofs.Common.{◌≡◌, ◌+◌, ◌<◌, [], ◌∷◌, ◌++◌, length, take, vec_items, sym, ap, ◌∙◌, rules}
use Rattle.std.proofs.lemmas.List.{take_more, take_all}
use Rattle.secrecy.proofs.Secrecy.{secrecy_stands}
use Rattle.states.specs.Step.{Step}
use Rattle.runs.specs.Runs.{RunOf}
use Rattle.runs.proofs.Running.{SoFar, sofar_more, run_whole, run_ends}
use Rattle.runs.proofs.run.Goals as goal

-- one call more, under the meaning that the scheme keeps
pub loop-call-preserved : goal.loop-call-preserved
loop-call-preserved g c =
    let frame : g.S.Scheme.meaning c.call-answer.new.s ≡ g.S.Scheme.meaning c.loop-call.s = c.call-answer.ensures.frame in
    let low : c.loop-call.call-index < length c.args.calls.now = search rules in
    let taken : take (c.loop-call.call-index + 1) c.args.calls.now ≡ take c.loop-call.call-index c.args.calls.now ++ c.call-item.result ∷ [] =
    take_more c.args.calls.now c.loop-call.call-index c.call-item.result low ∙ ap (λ x. take c.loop-call.call-index c.args.calls.now ++ x ∷ []) (sym c.call-item.is) in
    let step : Step (g.S.Scheme.meaning c.loop-call.s) c.loop-call.window.state c.loop-call.window.block.now c.call-item.result c.call-answer.result c.call-answer.new.self.state c.call-answer.new.self.block.now =
    search (rules, c.call-answer.ensures.step) in
    let noted : vec_items c.push.new.self ≡ vec_items c.loop-call.answers ++ c.call-answer.result ∷ [] = search (rules, c.in_ok-push.ensures.items) in
    let more =
    sofar_more (g.S.Scheme.meaning c.loop-call.s) c.new-window.result.block.now (take c.loop-call.call-index c.args.calls.now) (vec_items c.loop-call.answers) c.loop-call.window.state c.loop-call.window.block.now c.call-item.result c.call-answer.result c.call-answer.new.self.state c.call-answer.new.self.block.now c.loop-call.invariant.0 step in
    (rw (frame, taken, noted) more, frame ∙ c.loop-call.invariant.1, c.call-answer.ensures.lender ∙ c.loop-call.invariant.2)

-- the whole list, and the block handed back
pub returns : goal.returns
returns g c =
    let frame : g.S.Scheme.meaning c.loop-call.s ≡ g.S.Scheme.meaning c.args.s.now = c.loop-call.invariant.1 in
    let full : take c.loop-call.call-index c.args.calls.now ≡ c.args.calls.now = take_all c.loop-call.call-index c.args.calls.now c.loop-call-test.false in
    let so : SoFar (g.S.Scheme.meaning c.args.s.now) c.new-window.result.block.now c.args.calls.now (vec_items c.loop-call.answers) c.loop-call.window.state c.loop-call.window.block.now =
    rw (frame, full) at c.loop-call.invariant.0 in
    let start : c.new-window.result.block.now ≡ c.args.block.now = c.new-window.ensures.block in
    let whole : RunOf (g.S.Scheme.meaning c.args.s.now) c.args.block.now c.args.calls.now (vec_items c.loop-call.answers) c.loop-call.window.block.now =
    rw start at (run_whole (g.S.Scheme.meaning c.args.s.now) (g.met.S.Scheme.sound c.args.s.now) _ _ _ _ _ so) in
    let named = sym (c.loop-call.invariant.2 ∙ c.new-window.ensures.lender) in
    record { run = run_ends whole (search rules); houses = secrecy_stands; frame = frame }

-- where memory fails
pub returns-in_err-push-clause-houses : goal.returns-in_err-push-clause-houses
returns-in_err-push-clause-houses g c = secrecy_stands
