use Rattle.std.proofs.Common.{◌≡◌, ◌+◌, ◌++◌, take}
use Rattle.std.specs.Prelude.{flat_map}
use Rattle.guppy_packages.specs.Tables.{PackageTable}
use Rattle.feature_links.specs.Links.{IsPackage}
use Rattle.feature_edges.specs.Nodes.{first_node}
use Rattle.feature_edges.specs.Warnings.{warnings_in}
use Rattle.feature_edges.specs.inner.Collects.{of_feature}
use Rattle.feature_edges.specs.inner.Made.{AreMadeBefore}
use Rattle.feature_edges.proofs.table.MadeEdges.add_features.Given as goal

abbrev pub invariant-loop-place : goal.invariant-loop-place
invariant-loop-place l =
    let t = l.material.numbers.graph.now in
    let start = l.initial.room.collected in
    record {
      made : AreMadeBefore t (first_node t l.ix + 1 + l.place) l.self;
      items : (table : PackageTable) → IsPackage t l.ix table → warnings_in l.room.collected.item_warnings ≡ warnings_in start.item_warnings ++ flat_map (of_feature t l.ix table) (take l.place table.features);
      names : warnings_in l.room.collected.name_warnings ≡ warnings_in start.name_warnings;
      later : l.room.later ≡ l.initial.room.later;
    }
