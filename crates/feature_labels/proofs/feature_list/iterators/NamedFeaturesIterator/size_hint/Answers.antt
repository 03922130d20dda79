use Rattle.std.proofs.Common.{map, arith}
use Rattle.std.specs.Slice.Iter.{iter_rest}
use Rattle.std.proofs.lemmas.List.{length-map}
use Rattle.feature_labels.specs.Lists.{name_if_named}
use Rattle.feature_labels.specs.Names.{label_of}
use Rattle.feature_labels.proofs.Listed.{length_filter_map_le}
use Rattle.feature_labels.proofs.feature_list.iterators.NamedFeaturesIterator.size_hint.Goals as goal

pub returns-clause-upper : goal.returns-clause-upper
returns-clause-upper c =
    let labels = iter_rest c.self.inside.labels in
    (tt, rw (← c.self.view_is) (omega (arith, length_filter_map_le name_if_named (map label_of labels), length-map labels label_of, c.len.ensures.value)))
