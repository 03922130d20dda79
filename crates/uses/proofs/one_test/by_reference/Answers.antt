use Rattle.std.proofs.Common.{◌≡◌, ◌+◌, ◌-◌, ◌^◌, Bool}
use Rattle.std.specs.Prelude.{min}
use Rattle.std.proofs.lemmas.Result.{IfOk-weaker}
use Rattle.guppy_features.specs.digraphs.Bits.{has}
use Rattle.guppy_features.specs.feature_graph.LinkValues.{Link}
use Rattle.guppy_features.specs.feature_graph.Values.{Query}
use Rattle.uses.specs.Answers.{by_links, is_shipped}
use Rattle.uses.specs.declared.one_test.Shipped.{Shipped}
use Rattle.uses.proofs.Tests.{answers_by, counts_run}
use Rattle.uses.proofs.one_test.by_reference.Goals as goal

abbrev gives : Shipped → Query → Link → Bool → Shipped → Type 0
gives s q l answer t = (answer ≡ is_shipped l) × (t.calls ≡ min (s.calls + 1) (2 ^ 64 - 1))

-- Whatever the count, each answer is the test of the link.
pub returns-clause-least : goal.returns-clause-least
returns-clause-least c =
    IfOk-weaker
    c.resolve_with.result _ _
    (λ set walk.
    c.visitor_agrees_by_answer.ensures.least c.args.query (by_links is_shipped c.args.query.graph) c.args.visitor.now c.resolve_with.new.visitor (has set.members)
    (answers_by gives (λ s. Unit {0}) is_shipped (λ s q l answer t holds given. (tt, given.0)) c.args.query c.args.visitor.now tt)
    walk)
    c.resolve_with.ensures.walk

pub returns-clause-counted : goal.returns-clause-counted
returns-clause-counted c =
    IfOk-weaker
    c.resolve_with.result _ _
    (λ set walk. counts_run gives (λ s. s.calls) is_shipped (λ s q l answer t given. given) c.args.query c.args.visitor.now c.resolve_with.new.visitor walk.run walk.calls walk.legal walk.complete)
    c.resolve_with.ensures.walk
