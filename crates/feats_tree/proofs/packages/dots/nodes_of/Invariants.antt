use Rattle.std.proofs.Common.{◌≡◌, ◌++◌, map}
use Rattle.std.specs.Iterator.Adapters.{zip_first, zip_second}
use Rattle.std.specs.Slice.Iter.{iter_rest}
use Rattle.std.specs.String.{string_bytes}
use Rattle.feats_tree.specs.dots.Views.{node_text}
use Rattle.cargo_plans.specs.plan_units.UnitViews.{unit_text}
use Rattle.feats_tree.specs.packages.Dots.{nodes_with}
use Rattle.feats_tree.proofs.packages.dots.nodes_of.Given as goal

abbrev pub invariant-loop-unit : goal.invariant-loop-unit
invariant-loop-unit l =
    nodes_with l.count (map unit_text l.units) (map string_bytes l.titles)
    ≡ map node_text l.nodes.items ++ nodes_with l.count (map unit_text (iter_rest (zip_first l.unit-iterator))) (map string_bytes (iter_rest (zip_second l.unit-iterator)))
