use Rattle.std.proofs.Common.{rules, refl}
use mathlib.Core.List.{mem-append_right}
use Rattle.feature_graph.specs.Boxed.{EndsAs-made, same_holds}
use Rattle.feature_graph.specs.LinkViews.{link_of}
use Rattle.feature_graph.proofs.query.visitor.BoxDynFeatureLinkObjectFeatureLinkVisitor.visit_link.Goals as goal

pub visit_any-requires : goal.visit_any-requires
visit_any-requires g c κs = (refl, λ i. (tt, ((λ a m. i a (mem-append_right _ m)), (c.requires.of_graph, same_holds (λ k x. (g.dyn-1.0.entry k).1.can_visit_any x c.args.cx.now (link_of c.args.link)) _ _ _ _ (search rules) c.requires.allowed))))

pub returns : goal.returns
returns g c = EndsAs-made (λ k x z. (g.dyn-1.0.entry k).1.visit_any_gives x c.args.cx.now (link_of c.args.link) c.visit_any.result z) _ _ _ _ _ (search rules) c.visit_any.ensures
