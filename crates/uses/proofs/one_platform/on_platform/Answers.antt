use Rattle.std.proofs.Common.{◌≡◌, ◌∙◌, Bool, refl, ap}
use Rattle.std.proofs.lemmas.Result.{IfOk-weaker}
use Rattle.guppy_features.specs.digraphs.Bits.{has}
use Rattle.guppy_features.specs.feature_graph.LinkValues.{Link}
use Rattle.guppy_features.specs.feature_graph.Values.{Query}
use Rattle.uses.specs.Answers.{by_links, is_on_platform}
use Rattle.uses.specs.declared.one_platform.OnePlatform.{OnePlatform}
use Rattle.uses.proofs.Tests.{answers_by}
use Rattle.uses.proofs.one_platform.on_platform.Goals as goal

-- The visitor doesn't change, so each answer is the test of the link.
pub returns : goal.returns
returns c =
    let platform = c.args.platform in
    let test = is_on_platform platform.spec.now platform.kind in
    let gives : OnePlatform → Query → Link → Bool → OnePlatform → Type 0 = λ s q l answer t. (t ≡ s) × (answer ≡ is_on_platform s.spec.now s.kind l) in
    IfOk-weaker
    c.resolve_with.result _ _
    (λ set walk.
    c.visitor_agrees_by_answer.ensures.least c.args.query (by_links test c.args.query.graph) platform c.resolve_with.new.visitor (has set.members)
    (answers_by gives (λ s. s ≡ platform) test (λ s q l answer t holds given. (given.0 ∙ holds, given.1 ∙ ap (λ p. is_on_platform p.spec.now p.kind l) holds)) c.args.query platform refl)
    walk)
    c.resolve_with.ensures.walk
