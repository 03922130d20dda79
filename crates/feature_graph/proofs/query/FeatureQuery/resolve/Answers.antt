use Rattle.std.proofs.Common.{◌∙◌, ap}
use Rattle.feature_graph.specs.Views.{tables_of_graph}
use Rattle.feature_graph.proofs.SetLemmas.{reach_carried}
use Rattle.feature_graph.proofs.query.FeatureQuery.resolve.Goals as goal

pub returns-clause-reach : goal.returns-clause-reach
returns-clause-reach c =
    reach_carried
    (tables_of_graph c.graph.result.now) c.args.self.graph.tables
    c.self.inside.direction c.args.self.direction
    c.members.result.now c.args.self.initials
    c.in_ok-members.members c.new.result.members
    (ap (λ g. g.tables) (c.graph.ensures.value ∙ ap (λ q. q.graph) c.self.view_is))
    (ap (λ q. q.direction) c.self.view_is)
    (c.members.ensures.value ∙ ap (λ q. q.initials) c.self.view_is)
    c.new.ensures.members
    c.in_ok-members.ensures.reach
