-- Each iteration skips a label that is no named feature, so the remaining names are unchanged.
use Rattle.std.proofs.Common.{◌≡◌, length, map}
use Rattle.std.specs.List.{filter_map}
use Rattle.feature_labels.specs.Names.{label_of}
use Rattle.feature_labels.specs.Lists.{name_if_named}
use Rattle.feature_labels.proofs.feature_list.iterators.NamedFeaturesIterator.next.Given as goal

abbrev pub invariant-loop-label : goal.invariant-loop-label
invariant-loop-label l = filter_map name_if_named (map label_of l.self-inside.labels.rest.now) ≡ l.fn.self

abbrev pub decreases-loop-label : goal.decreases-loop-label
decreases-loop-label l = length l.self-inside.labels.rest.now
