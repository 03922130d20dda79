use Rattle.std.proofs.Common.{◌≡◌, ◌++◌, map, take}
use Rattle.std.specs.String.{string_bytes}
use Rattle.feature_labels.specs.Names.{label_of}
use Rattle.feature_labels.specs.Names.LabelName.{optional}
use Rattle.feature_graph.proofs.graph.listing.push_optional.Given as goal

abbrev pub invariant-names : goal.invariant-names
invariant-names l = map label_of l.labels.items ≡ map label_of l.fn.labels.items ++ map (λ d. optional d) (map string_bytes (take l.name-index l.names))
