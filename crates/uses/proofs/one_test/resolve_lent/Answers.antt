use Rattle.std.proofs.Common.{◌≡◌, ◌+◌, ◌-◌, ◌^◌, Bool}
use Rattle.std.specs.Prelude.{min}
use Rattle.std.proofs.lemmas.Result.{IfOk-weaker}
use Rattle.guppy_features.specs.digraphs.Bits.{has}
use Rattle.guppy_features.specs.feature_graph.Lent.{lent_visit}
use Rattle.guppy_features.specs.feature_graph.LinkValues.{Link}
use Rattle.guppy_features.specs.feature_graph.Values.{Query}
use Rattle.uses.specs.Answers.{by_links, is_shipped}
use Rattle.uses.specs.declared.one_test.Shipped.{Shipped}
use Rattle.uses.proofs.Tests.{answers_by, at_both_ends, counts_run}
use Rattle.uses.proofs.one_test.resolve_lent.Goals as goal

abbrev gives : Shipped → Query → Link → Bool → Shipped → Type 0
gives s q l answer t = (answer ≡ is_shipped l) × (t.calls ≡ min (s.calls + 1) (2 ^ 64 - 1))

pub returns-clause-same_reference : goal.returns-clause-same_reference
returns-clause-same_reference c =
    at_both_ends
    _ _ c.resolve_with.result c.resolve_with.ensures.walk c.resolve_with.ensures.run
    (λ set walk. (c.lent_visitor_stays.ensures c.args.query _ _ walk.run walk.calls).0)
    (λ run. (c.lent_visitor_stays.ensures c.args.query _ _ run.0 run.1).0)

-- The result depends on the link alone, whatever the count.
pub returns-clause-least : goal.returns-clause-least
returns-clause-least c =
    IfOk-weaker
    c.resolve_with.result _ _
    (λ set walk.
    c.visitor_agrees_by_answer.ensures.least c.args.query (by_links is_shipped c.args.query.graph) _ _ (has set.members)
    (answers_by (lent_visit gives) (λ s. Unit {0}) is_shipped (λ s q l answer t holds given. (tt, given.1.0)) c.args.query _ tt)
    walk)
    c.resolve_with.ensures.walk

-- The visitor behind the reference takes part in the same run.
pub returns-clause-counted : goal.returns-clause-counted
returns-clause-counted c =
    IfOk-weaker
    c.resolve_with.result _ _
    (λ set walk.
    let lent = c.lent_visitor_stays.ensures c.args.query _ _ walk.run walk.calls in
    counts_run gives (λ s. s.calls) is_shipped (λ s q l answer t given. given) c.args.query _ _ walk.run lent.1 walk.legal walk.complete)
    c.resolve_with.ensures.walk
