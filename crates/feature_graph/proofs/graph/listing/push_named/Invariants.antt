use Rattle.std.proofs.Common.{◌≡◌, ◌++◌, map, take}
use Rattle.guppy_packages.specs.NamedFeature.{feature_table}
use Rattle.feature_labels.specs.Names.{label_of}
use Rattle.feature_labels.specs.Names.LabelName.{named}
use Rattle.feature_graph.proofs.graph.listing.push_named.Given as goal

abbrev pub invariant-features : goal.invariant-features
invariant-features l = map label_of l.labels.items ≡ map label_of l.fn.labels.items ++ map (λ f. named f.name) (map feature_table (take l.feature-index l.features))
