use Rattle.std.proofs.Common.{◌≡◌, ◌++◌, map}
use Rattle.std.specs.Iterator.Adapters.{zip_first, zip_second}
use Rattle.std.specs.Slice.Iter.{iter_rest}
use Rattle.std.specs.String.{string_bytes}
use Rattle.feats_tree.specs.dots.Views.{node_text}
use Rattle.plan_whys.specs.StepViews.{spot_text}
use Rattle.feats_tree.specs.features.Dots.{nodes_with}
use Rattle.feats_tree.proofs.features.dots.nodes_of.Given as goal

abbrev pub invariant-loop-spot : goal.invariant-loop-spot
invariant-loop-spot l =
    nodes_with (map spot_text l.spots) (map string_bytes l.labels)
    ≡ map node_text l.nodes.items ++ nodes_with (map spot_text (iter_rest (zip_first l.spot-iterator))) (map string_bytes (iter_rest (zip_second l.spot-iterator)))
