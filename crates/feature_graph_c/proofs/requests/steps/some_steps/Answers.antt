use Rattle.std.proofs.Common.{rules, ◌≡◌, ◌-◌, ◌+◌, ◌∙◌, ap, sym, arith}
use Rattle.feature_graph_c.specs.requests.Requests.{many_in, step_in}
use Rattle.feature_graph_c.proofs.StepLemmas.{after, after_nothing, many_more, many_none, many_end}
use Rattle.feature_graph_c.proofs.requests.steps.some_steps.Goals as goal

pub loop-init : goal.loop-init
loop-init c =
    let count : c.args.count - 0 ≡ c.args.count = omega arith in
    ap (λ z. after z (many_in step_in (c.args.count - 0) c.args.words.now)) c.new-steps.ensures.items ∙ after_nothing (many_in step_in (c.args.count - 0) c.args.words.now)
    ∙ ap (λ n. many_in step_in n c.args.words.now) count

pub returns-in_default : goal.returns-in_default
returns-in_default c =
    many_none step_in c.loop.steps.items (c.args.count - (c.loop.counter + 1)) (c.args.count - c.loop.counter) c.loop.rest.now _ (omega (arith, c.loop-test.true)) (search rules) c.loop.invariant

pub loop-preserved : goal.loop-preserved
loop-preserved c =
    many_more step_in c.loop.steps.items c.push.new.self.items (c.args.count - (c.loop.counter + 1)) (c.args.count - c.loop.counter) c.in-Some.step c.loop.rest.now c.in-Some.tail.now _
    (omega (arith, c.loop-test.true)) (sym c.in-Some.ensures) c.in_ok-push.ensures.items c.loop.invariant

pub returns : goal.returns
returns c = many_end step_in c.loop.steps.items (c.args.count - c.loop.counter) c.loop.rest.now _ (omega (arith, c.loop-test.false)) c.loop.invariant
