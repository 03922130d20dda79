-- The labels that remain when repeats of sorted labels are dropped.
use Rattle.std.proofs.Common.{◌≡◌, List, [], map, ap, ◌∙◌, refl}
use Rattle.std.specs.List.{dedup}
use Rattle.std.specs.List.Retain.{IsFiltered, DiffersFromLast}
use Rattle.std.specs.List.Sorted.{IsSorted, IsPermutation}
use Rattle.std.proofs.lemmas.List.Filters.{dedup_is}
use Rattle.std.proofs.lemmas.List.Kept.{IsStrictlySortedBy-dedup, Contains-dedup, Contains-from_dedup}
use Rattle.std.proofs.lemmas.List.Sorted.{Contains-permutation, IsPermutation-map, IsPermutation-sym}
use Rattle.feature_labels.specs.Lists.{Ascends, SameLabels}
use Rattle.feature_labels.specs.Names.{label_of, label_cmp}
use Rattle.feature_labels.specs.Orders.{label_eq, label_eq_equiv, label_cmp_total}
use Rattle.feature_labels.specs.declared.feature_label.FeatureLabel.{FeatureLabel}
use Rattle.feature_labels.specs.contracts.feature_label.FeatureLabelOrd.TheImpl as order
use Rattle.feature_labels.specs.contracts.feature_label.FeatureLabelPartialEq.TheImpl as same
use Rattle.feature_labels.proofs.Derived.{label_cmp-derived, label_eq-derived}
use Rattle.feature_labels.proofs.Listed.{dedup-map, IsSorted-map}
use Rattle.feature_labels.proofs.OrderLemmas.{label_eq-Decides}

pub record IsKept (given kept : List FeatureLabel) : Type 0 where
  pub ascends : Ascends (map label_of kept)
  pub same : SameLabels (map label_of given) (map label_of kept)

pub kept_labels : (given sorted kept : List FeatureLabel) → IsPermutation given sorted → IsSorted (order.ghosts).cmp sorted → IsFiltered (DiffersFromLast (same.ghosts).eq) [] sorted kept → IsKept given kept
kept_labels given sorted kept moved rises filtered =
    let is : map label_of kept ≡ dedup label_eq (map label_of sorted) = ap (map label_of) (dedup_is (same.ghosts).eq sorted kept filtered) ∙ dedup-map label_of (same.ghosts).eq label_eq label_eq-derived sorted in
    let names : IsPermutation (map label_of given) (map label_of sorted) = IsPermutation-map label_of given sorted moved in
    record {
      ascends = rw is (IsStrictlySortedBy-dedup label_cmp_total (λ a b. refl) (map label_of sorted) (IsSorted-map label_of (order.ghosts).cmp label_cmp label_cmp-derived sorted rises));
      same = λ label. (
        λ has. rw is (Contains-dedup label_eq_equiv (λ a b. (label_eq-Decides a b).0) (map label_of sorted) label (Contains-permutation _ _ label names has)),
        λ has. Contains-permutation _ _ label (IsPermutation-sym _ _ names) (Contains-from_dedup label_eq (map label_of sorted) label (rw is at has)),
      );
    }
