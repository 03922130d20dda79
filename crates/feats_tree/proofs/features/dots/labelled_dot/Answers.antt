use Rattle.std.proofs.Common.{map, ap, refl}
use Rattle.std.specs.String.{string_bytes}
use Rattle.feats_tree.specs.dots.Views.{node_text}
use Rattle.plan_whys.specs.StepViews.{spot_text}
use Rattle.feats_tree.specs.features.Dots.{clusters}
use Rattle.feats_tree.proofs.FeaturesShown.{graph_of}
use Rattle.feats_tree.proofs.features.dots.labelled_dot.Goals as goal

pub returns : goal.returns
returns c =
    graph_of c.dot_text.result clusters (map node_text c.in_ok-nodes.nodes.items) (map node_text c.deref.result.now) (map spot_text c.args.spots.now) (map string_bytes c.args.labels.now) c.args.links.now
    c.in_ok-shown.shown.items c.deref-2.result.now refl c.in_ok-nodes.ensures (ap (map node_text) c.deref.ensures.value) c.in_ok-shown.ensures c.deref-2.ensures.value c.dot_text.ensures
