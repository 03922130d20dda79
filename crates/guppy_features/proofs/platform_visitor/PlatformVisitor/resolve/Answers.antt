use Rattle.std.proofs.Common.{◌≡◌, ◌∙◌, Bool, ap, refl, sym}
use Rattle.std.proofs.lemmas.Result.{IfOk-weaker}
use Rattle.digraphs.specs.Bits.{has}
use Rattle.feature_graph.specs.LinkValues.{Link}
use Rattle.feature_graph.specs.Visits.{answered, offered, query_content, shown}
use Rattle.feature_graph.proofs.Visits.{is_explained_walk}
use Rattle.guppy_features.specs.Platforms.{is_platform_link, platform_offers}
use Rattle.guppy_features.specs.PlatformViews.{kinds_of, specs_of}
use Rattle.feature_graph.specs.Values.{Query}
use Rattle.guppy_features.specs.declared.platform_visitor.PlatformVisitor.{PlatformVisitor}
use Rattle.guppy_features.proofs.PlatformLemmas.{answers_by}
use Rattle.guppy_features.proofs.platform_visitor.PlatformVisitor.resolve.Goals as goal

abbrev gives_link : PlatformVisitor → Query → Link → Bool → PlatformVisitor → Type 0
gives_link s q l answer t = (t ≡ s) × (answer ≡ is_platform_link (kinds_of s) (specs_of s) l)

answers : (v : PlatformVisitor) (u : PlatformVisitor) (q : Query) (l : Link) (answer : Bool) (t : PlatformVisitor) → u ≡ v → gives_link u q l answer t → (t ≡ v) × (answer ≡ is_platform_link (kinds_of v) (specs_of v) l)
answers v u q l answer t same given = (given.0 ∙ same, given.1 ∙ ap (λ p. is_platform_link (kinds_of p) (specs_of p) l) same)

-- it stays as it is, and its answers are those of the test of offers
pub returns-clause-walk : goal.returns-clause-walk
returns-clause-walk c =
    let v = c.args.self in
    let q = c.args.query in
    IfOk-weaker
    c.resolve_explained.result _ _
    (λ x walk.
    (is_explained_walk
    (λ (s : PlatformVisitor). s ≡ v) (λ (s : PlatformVisitor). tt {0}) (shown gives_link q) (answered (platform_offers (kinds_of v) (specs_of v) q.graph))
    (λ s e h answer t same given. answers v s q (offered q.graph e h) answer t same given)
    (query_content q) (has q.initials) v _ (has x.members) x.steps x.refused refl walk).1)
    c.resolve_explained.ensures.walk

pub returns-clause-checked : goal.returns-clause-checked
returns-clause-checked c =
    IfOk-weaker
    c.resolve_explained.result _ _
    (λ x walk. c.resolved_passes_checks.ensures c.args.query c.args.self _ (has x.members) x.steps x.refused (sym c.graph.ensures) walk)
    c.resolve_explained.ensures.walk

pub returns-clause-least : goal.returns-clause-least
returns-clause-least c =
    let v = c.args.self in
    IfOk-weaker
    c.resolve_explained.result _ _
    (λ x walk.
    c.visitor_agrees_by_answer.ensures.least c.args.query (platform_offers (kinds_of v) (specs_of v) c.args.query.graph) v _ (has x.members)
    (answers_by (is_platform_link (kinds_of v) (specs_of v)) gives_link v (answers v) c.args.query)
    walk.walk)
    c.resolve_explained.ensures.walk

pub returns-clause-explanation : goal.returns-clause-explanation
returns-clause-explanation c =
    let v = c.args.self in
    IfOk-weaker
    c.resolve_explained.result _ _
    (λ x walk.
    c.resolved_is_exact.ensures.by_answer c.args.query (platform_offers (kinds_of v) (specs_of v) c.args.query.graph) v _ (has x.members) x.steps x.refused
    (answers_by (is_platform_link (kinds_of v) (specs_of v)) gives_link v (answers v) c.args.query)
    walk)
    c.resolve_explained.ensures.walk
