use Rattle.std.proofs.Common.{◌∙◌, ap, map, subst, IfOk}
use Rattle.feature_labels.specs.Lists.{SameLabels}
use Rattle.feature_labels.specs.Names.{label_of}
use Rattle.feature_graph.proofs.graph.listing.package_list.Goals as goal

pub returns-clause-labels : goal.returns-clause-labels
returns-clause-labels c =
    subst (λ z. IfOk c.new.result (λ list. SameLabels z list.labels)) (ap (map label_of) c.as_slice.ensures.value ∙ c.in_ok-labels.ensures) c.new.ensures.same
