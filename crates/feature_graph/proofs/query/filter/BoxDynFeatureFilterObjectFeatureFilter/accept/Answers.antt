use Rattle.std.proofs.Common.{rules, refl}
use mathlib.Core.List.{mem-append_right}
use Rattle.feature_labels.specs.Names.{id_of}
use Rattle.feature_graph.specs.Boxed.{EndsAs-made, same_holds}
use Rattle.feature_graph.specs.Views.{graph_of}
use Rattle.feature_graph.proofs.query.filter.BoxDynFeatureFilterObjectFeatureFilter.accept.Goals as goal

pub returns : goal.returns
returns g c = EndsAs-made (λ k x z. (g.dyn-1.0.entry k).1.accept_any_gives x (graph_of c.args.graph.now) (id_of c.args.feature_id) c.accept_any.result z) _ _ _ _ _ (search rules) c.accept_any.ensures

pub accept_any-requires : goal.accept_any-requires
accept_any-requires g c κs = (refl, λ i. (tt, ((λ a m. i a (mem-append_right _ m)), (c.requires.known, same_holds (λ k x. (g.dyn-1.0.entry k).1.can_accept_any x (graph_of c.args.graph.now) (id_of c.args.feature_id)) _ _ _ _ (search rules) c.requires.allowed))))
