-- A binary search of ascending labels returns whether the label is among them.
use Rattle.std.proofs.Common.{ℕ, List, ◌↔◌, Result, IsTrue, length, map, ap}
use Rattle.std.specs.List.{Contains}
use Rattle.std.specs.List.Sorted.{IsBinarySearchResult, IsSearchInRange}
use Rattle.std.specs.Ordering.{is_eq}
use Rattle.std.specs.Result.{is_ok}
use Rattle.std.proofs.lemmas.List.{length-map}
use Rattle.feature_labels.specs.Lists.{Ascends}
use Rattle.feature_labels.specs.Names.{label_of, label_cmp}
use Rattle.feature_labels.specs.Orders.{label_cmp_total}
use Rattle.feature_labels.specs.declared.feature_label.FeatureLabel.{FeatureLabel}
use Rattle.feature_labels.specs.contracts.feature_label.FeatureLabelOrd.TheImpl as order
use Rattle.feature_labels.proofs.Derived.{label_cmp-derived}
use Rattle.feature_labels.proofs.Listed.{IsBinarySearchResult-map, found_from_search}
use Rattle.feature_labels.proofs.OrderLemmas.{label_eq-Decides}

pub found_label : (labels : List FeatureLabel) (label : FeatureLabel) (r : Result ℕ ℕ) → Ascends (map label_of labels) → IsSearchInRange r (length labels) → IsBinarySearchResult (λ each. (order.ghosts).cmp each label) labels r → IsTrue (is_ok r) ↔ Contains (map label_of labels) (label_of label)
found_label labels label r rises below searched =
    found_from_search label_cmp_total (λ a b e. (label_eq-Decides a b).0 (ap is_eq e)) (map label_of labels) (label_of label) rises r (rw (length-map labels label_of) below) (IsBinarySearchResult-map label_of (λ each. (order.ghosts).cmp each label) (λ name. label_cmp name (label_of label)) (λ each. label_cmp-derived each label) labels r below searched)
