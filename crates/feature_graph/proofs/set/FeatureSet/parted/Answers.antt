use Rattle.std.proofs.Common.{◌∙◌, ap, refl, rules, sym, subst}
use Rattle.feature_graph.specs.Parts.{MayCallEach}
use Rattle.feature_graph.specs.Views.{tables_of_graph}
use Rattle.feature_graph.proofs.PartLemmas.{calls_made}
use Rattle.feature_graph.proofs.set.FeatureSet.parted.Goals as goal

pub call_each-requires : goal.call_each-requires
call_each-requires g c κs =
    let order = c.nodes_in_order-numbers.ensures.order in (
      (refl, tt),
      (
        subst (λ t. MayCallEach (goal.F-pre g) (goal.F-step g) t c.nodes_in_order-numbers.result c.args.f.now) (sym (ap (λ s. s.graph.tables) c.self.view_is))
            (subst (λ l. MayCallEach (goal.F-pre g) (goal.F-step g) c.args.self.now.graph.tables l c.args.f.now) (sym order.2) (c.requires order.0 order.1)),
        (search rules, (search rules, search rules)),
      ),
    )

pub returns-clause-called : goal.returns-clause-called
returns-clause-called g c =
    let graph = ap (λ s. s.graph) c.self.view_is in
    calls_made (goal.F-step g) g.A.Answer.first g.A.Answer.second c.args.direction c.args.self.now (tables_of_graph c.self.inside.graph) c.nodes_in_order-numbers.result c.args.f.now c.call_each.new.f
    c.call_each.new.one c.call_each.new.other c.new.result c.new-2.result
    (ap (λ s. s.graph.tables) c.self.view_is) c.nodes_in_order-numbers.ensures.order c.call_each.ensures
    (c.new.ensures.graph ∙ graph) c.new.ensures.members (c.new-2.ensures.graph ∙ graph) c.new-2.ensures.members
