use Rattle.std.proofs.Common.{◌∙◌, ap, arith, refl, sym, subst, Some}
use Rattle.feature_graph.specs.Views.{graph_of}
use Rattle.feature_graph.specs.Filters.{SelectsByFilter}
use Rattle.feature_graph.proofs.WorkspaceLemmas.{asked_none, asked_one, asked_all, passed_over, may_ask_node}
use Rattle.feature_graph.proofs.graph.FeatureGraph.query_workspace.Goals.{then-is_in_workspace, else-is_in_workspace}
use Rattle.feature_graph.proofs.graph.FeatureGraph.query_workspace.Goals as goal

pub nodes-init : goal.nodes-init
nodes-init g c = asked_none g.F.FeatureFilter.accept_gives (graph_of c.args.self.now) c.args.filter.now c.feature_count-count.result c.in_ok-members.members c.feature_count-count.ensures c.in_ok-members.ensures

pub ask_node-requires : goal.ask_node-requires
ask_node-requires g c κs =
    let asked = c.nodes.invariant in (
      (refl, tt),
      (
        omega (arith, c.feature_count-count.ensures, c.nodes-test.true),
        (
          asked.size,
          λ name named. may_ask_node g.F.FeatureFilter.accept_gives (graph_of c.args.self.now) c.args.filter.now g.F.FeatureFilter.can_accept c.nodes.node c.nodes.filter c.nodes.members name
              c.requires c.if-is_in_workspace.ensures asked named,
        ),
      ),
    )

pub nodes-preserved : goal.nodes-preserved
nodes-preserved g c =
    elim c.if-is_in_workspace.branch [
      | then-is_in_workspace w ↦
          rw (w.filter-is, w.members-is)
          (asked_one g.F.FeatureFilter.accept_gives (graph_of c.args.self.now) c.args.filter.now c.nodes.node c.nodes.filter _ c.nodes.members _
          (c.is_in_workspace.ensures ∙ ap Some w.if-is_in_workspace.true) w.ask_node.ensures c.nodes.invariant)
      | else-is_in_workspace w ↦
          rw (w.filter-is, w.members-is)
          (passed_over g.F.FeatureFilter.accept_gives (graph_of c.args.self.now) c.args.filter.now c.nodes.node c.nodes.filter c.nodes.members
          (omega (arith, c.feature_count-count.ensures, c.nodes-test.true)) (c.is_in_workspace.ensures ∙ ap Some w.if-is_in_workspace.false) c.nodes.invariant)
    ]

pub new-initials-requires : goal.new-initials-requires
new-initials-requires g c = c.nodes.invariant.size

pub returns-clause-initials : goal.returns-clause-initials
returns-clause-initials g c =
    let all = asked_all g.F.FeatureFilter.accept_gives (graph_of c.args.self.now) c.args.filter.now c.nodes.node c.nodes.filter c.nodes.members
    (omega (arith, c.feature_count-count.ensures, c.nodes-test.false, c.nodes.auto.node-end)) c.nodes.invariant in
    subst (λ m. SelectsByFilter g.F.FeatureFilter.accept_gives (graph_of c.args.self.now) c.args.filter.now c.nodes.filter m) (sym (ap (λ q. q.initials) c.new.ensures ∙ c.new-initials.ensures.members)) all
