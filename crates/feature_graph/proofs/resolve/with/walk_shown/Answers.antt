use Rattle.std.proofs.Common.{◌≡◌, ◌∙◌, length, ap, sym, subst}
use Rattle.feature_core.specs.Built.{IsBuilt}
use Rattle.feature_core.specs.Nodes.{nodes}
use Rattle.digraphs.specs.Bits.{has}
use Rattle.feature_graph.specs.Values.{Query}
use Rattle.feature_graph.specs.Views.{graph_of}
use Rattle.feature_graph.proofs.BuiltLemmas.{built_count}
use Rattle.feature_graph.proofs.Offered.{OffersAreLinks, query_parts, content_is, nodes_are}
use Rattle.feature_graph.proofs.Visits.{shown_may, shown_run, shown_walk, on_err}
use Rattle.feature_graph.proofs.resolve.with.walk_shown.Goals as goal

pub walk_over-requires-clause-size : goal.walk_over-requires-clause-size
walk_over-requires-clause-size g c =
    let graph = c.graph-graph.result.now in
    let p : Query = record { graph = graph_of graph; direction = c.direction.result; initials = c.members-initials.result.now } in
    let parts : p ≡ c.query-query.result.now = query_parts c.query-query.result.now (graph_of graph) c.direction.result c.initials.result.now c.members-initials.result.now c.graph-graph.ensures c.direction.ensures c.initials.ensures c.members-initials.ensures.value in
    let count = built_count graph.graph.now graph.built.now graph.is_built in
    let there = nodes_are p c.query-query.result.now c.args.adapter.now.cx.now c.new-source.result parts c.query-query.ensures count c.new-source.ensures in
    ap length c.members-initials.ensures.value
    ∙ c.members-initials.ensures.size
    ∙ ap (λ x. length (nodes x.graph.tables)) c.initials.ensures
    ∙ ap (λ x. length (nodes x.graph.tables)) c.query-query.ensures
    ∙ sym there

pub walk_over-requires-clause-may : goal.walk_over-requires-clause-may
walk_over-requires-clause-may g c =
    let graph = c.graph-graph.result.now in
    let p : Query = record { graph = graph_of graph; direction = c.direction.result; initials = c.members-initials.result.now } in
    let parts : p ≡ c.query-query.result.now = query_parts c.query-query.result.now (graph_of graph) c.direction.result c.initials.result.now c.members-initials.result.now c.graph-graph.ensures c.direction.ensures c.initials.ensures c.members-initials.ensures.value in
    let same = content_is p c.query-query.result.now c.args.adapter.now.cx.now c.new-source.result parts c.query-query.ensures c.new-source.ensures in
    let built : IsBuilt c.args.adapter.now.cx.now.graph.tables c.args.adapter.now.cx.now.graph.built = subst (λ x. IsBuilt x.graph.tables x.graph.built) (parts ∙ c.query-query.ensures) graph.is_built in
    let law : OffersAreLinks c.args.adapter.now.cx.now.graph.tables = subst (λ x. OffersAreLinks x.graph.tables) (parts ∙ c.query-query.ensures) c.offers_are_links.ensures in
    shown_may g.V.FeatureLinkVisitor.can_visit g.V.FeatureLinkVisitor.visit_gives c.args.adapter.now c.new-source.result.holds same law built c.requires

pub returns-in_err-walk-clause-same_reference : goal.returns-in_err-walk-clause-same_reference
returns-in_err-walk-clause-same_reference g c =
    let graph = c.graph-graph.result.now in
    let p : Query = record { graph = graph_of graph; direction = c.direction.result; initials = c.members-initials.result.now } in
    let parts : p ≡ c.query-query.result.now = query_parts c.query-query.result.now (graph_of graph) c.direction.result c.initials.result.now c.members-initials.result.now c.graph-graph.ensures c.direction.ensures c.initials.ensures c.members-initials.ensures.value in
    let same = content_is p c.query-query.result.now c.args.adapter.now.cx.now c.new-source.result parts c.query-query.ensures c.new-source.ensures in
    (shown_run g.V.FeatureLinkVisitor.can_visit g.V.FeatureLinkVisitor.visit_gives c.args.adapter.now c.walk_over.new.offerer c.new-source.result.holds c.members-initials.result.now same (ap (λ x. x.initials) (parts ∙ c.query-query.ensures)) c.in_err-walk.ensures.err).0

pub returns-in_err-walk-clause-run : goal.returns-in_err-walk-clause-run
returns-in_err-walk-clause-run g c =
    let graph = c.graph-graph.result.now in
    let p : Query = record { graph = graph_of graph; direction = c.direction.result; initials = c.members-initials.result.now } in
    let parts : p ≡ c.query-query.result.now = query_parts c.query-query.result.now (graph_of graph) c.direction.result c.initials.result.now c.members-initials.result.now c.graph-graph.ensures c.direction.ensures c.initials.ensures c.members-initials.ensures.value in
    let same = content_is p c.query-query.result.now c.args.adapter.now.cx.now c.new-source.result parts c.query-query.ensures c.new-source.ensures in
    on_err c.from_residual.result (shown_run g.V.FeatureLinkVisitor.can_visit g.V.FeatureLinkVisitor.visit_gives c.args.adapter.now c.walk_over.new.offerer c.new-source.result.holds c.members-initials.result.now same (ap (λ x. x.initials) (parts ∙ c.query-query.ensures)) c.in_err-walk.ensures.err).1

pub returns-clause-same_reference : goal.returns-clause-same_reference
returns-clause-same_reference g c =
    let graph = c.graph-graph.result.now in
    let p : Query = record { graph = graph_of graph; direction = c.direction.result; initials = c.members-initials.result.now } in
    let parts : p ≡ c.query-query.result.now = query_parts c.query-query.result.now (graph_of graph) c.direction.result c.initials.result.now c.members-initials.result.now c.graph-graph.ensures c.direction.ensures c.initials.ensures c.members-initials.ensures.value in
    let same = content_is p c.query-query.result.now c.args.adapter.now.cx.now c.new-source.result parts c.query-query.ensures c.new-source.ensures in
    (shown_walk g.V.FeatureLinkVisitor.can_visit g.V.FeatureLinkVisitor.visit_gives c.args.adapter.now c.walk_over.new.offerer c.new-source.result.holds c.members-initials.result.now (has c.in_ok-walk.walk.members) same (ap (λ x. x.initials) (parts ∙ c.query-query.ensures)) c.in_ok-walk.ensures.walk).0

pub returns-clause-size : goal.returns-clause-size
returns-clause-size g c =
    let graph = c.graph-graph.result.now in
    let p : Query = record { graph = graph_of graph; direction = c.direction.result; initials = c.members-initials.result.now } in
    let parts : p ≡ c.query-query.result.now = query_parts c.query-query.result.now (graph_of graph) c.direction.result c.initials.result.now c.members-initials.result.now c.graph-graph.ensures c.direction.ensures c.initials.ensures c.members-initials.ensures.value in
    let count = built_count graph.graph.now graph.built.now graph.is_built in
    c.in_ok-walk.ensures.size ∙ nodes_are p c.query-query.result.now c.args.adapter.now.cx.now c.new-source.result parts c.query-query.ensures count c.new-source.ensures

pub returns-clause-walk : goal.returns-clause-walk
returns-clause-walk g c =
    let graph = c.graph-graph.result.now in
    let p : Query = record { graph = graph_of graph; direction = c.direction.result; initials = c.members-initials.result.now } in
    let parts : p ≡ c.query-query.result.now = query_parts c.query-query.result.now (graph_of graph) c.direction.result c.initials.result.now c.members-initials.result.now c.graph-graph.ensures c.direction.ensures c.initials.ensures c.members-initials.ensures.value in
    let same = content_is p c.query-query.result.now c.args.adapter.now.cx.now c.new-source.result parts c.query-query.ensures c.new-source.ensures in
    (shown_walk g.V.FeatureLinkVisitor.can_visit g.V.FeatureLinkVisitor.visit_gives c.args.adapter.now c.walk_over.new.offerer c.new-source.result.holds c.members-initials.result.now (has c.in_ok-walk.walk.members) same (ap (λ x. x.initials) (parts ∙ c.query-query.ensures)) c.in_ok-walk.ensures.walk).1
