-- The derived comparisons of labels and ids are those of their names.
use Rattle.std.proofs.Common.{◌≡◌, ◌∙◌, Bool, true, List, map, nat_eq, sym, ap, refl}
use Rattle.std.specs.Cmp.Lexicographic.{pointwise, slice_cmp, bytes_decides, texts_ties}
use Rattle.std.specs.Bool.{Decides}
use Rattle.std.specs.Ordering.{nat_cmp, ordering_then}
use Rattle.std.proofs.lemmas.Bool.Decides.{Decides-and}
use Rattle.std.specs.Cmp.Derive.Mapped.{pointwise-map}
use Rattle.feature_labels.specs.Lists.{ListValue}
use Rattle.feature_labels.specs.Names.{label_of, label_cmp, id_of, id_cmp}
use Rattle.feature_labels.specs.Orders.{label_eq, list_eq}
use Rattle.feature_labels.specs.declared.feature_label.FeatureLabel.{FeatureLabel}
use Rattle.feature_labels.specs.declared.feature_label.FeatureLabel.TheVariants.{Base, Named, OptionalDependency}
use Rattle.feature_labels.specs.declared.feature_id.FeatureId.{FeatureId}
use Rattle.feature_labels.specs.contracts.feature_id.FeatureIdOrd.TheImpl as id_order
use Rattle.feature_labels.specs.contracts.feature_id.FeatureIdPartialEq.TheImpl as id_same
use Rattle.feature_labels.specs.contracts.feature_label.FeatureLabelOrd.TheImpl as order
use Rattle.feature_labels.specs.contracts.feature_label.FeatureLabelPartialEq.TheImpl as same
use Rattle.feature_labels.proofs.OrderLemmas.{label_eq-Decides}

pub label_cmp-derived : (a b : FeatureLabel) → (order.ghosts).cmp a b ≡ label_cmp (label_of a) (label_of b)
label_cmp-derived Base Base = refl
label_cmp-derived Base (Named _) = refl
label_cmp-derived Base (OptionalDependency _) = refl
label_cmp-derived (Named _) Base = refl
label_cmp-derived (Named _) (Named _) = refl
label_cmp-derived (Named _) (OptionalDependency _) = refl
label_cmp-derived (OptionalDependency _) Base = refl
label_cmp-derived (OptionalDependency _) (Named _) = refl
label_cmp-derived (OptionalDependency _) (OptionalDependency _) = refl

pub label_eq-derived : (a b : FeatureLabel) → (same.ghosts).eq a b ≡ label_eq (label_of a) (label_of b)
label_eq-derived Base Base = refl
label_eq-derived Base (Named _) = refl
label_eq-derived Base (OptionalDependency _) = refl
label_eq-derived (Named _) Base = refl
label_eq-derived (Named s) (Named t) = texts_ties s.now t.now
label_eq-derived (Named _) (OptionalDependency _) = refl
label_eq-derived (OptionalDependency _) Base = refl
label_eq-derived (OptionalDependency _) (Named _) = refl
label_eq-derived (OptionalDependency s) (OptionalDependency t) = texts_ties s.now t.now

pub labels_eq-derived : (xs ys : List FeatureLabel) → pointwise (same.ghosts).eq xs ys ≡ pointwise label_eq (map label_of xs) (map label_of ys)
labels_eq-derived xs ys = (λ i. pointwise (λ a b. label_eq-derived a b i) xs ys) ∙ sym (pointwise-map label_of label_eq xs ys)

-- two lists compare by their packages' ids and their labels
pub list_eq-derived : (xs ys : List FeatureLabel) (a b : ListValue) (r : Bool) → map label_of xs ≡ a.labels → map label_of ys ≡ b.labels → true ≡ pointwise nat_eq a.package_id b.package_id → r ≡ pointwise (same.ghosts).eq xs ys → r ≡ list_eq a b
list_eq-derived xs ys a b r from to one labels = rw (← from, ← to, ← one) (labels ∙ labels_eq-derived xs ys)

pub id_cmp-derived : (a b : FeatureId) → (id_order.ghosts).cmp a b ≡ id_cmp (id_of a) (id_of b)
id_cmp-derived a b = ap (ordering_then (slice_cmp nat_cmp a.package_id.now b.package_id.now)) (label_cmp-derived a.label b.label)

pub id_eq-Decides : (a b : FeatureId) → Decides ((id_same.ghosts).eq a b) (id_of a ≡ id_of b)
id_eq-Decides a b =
    let ids : Decides (pointwise nat_eq a.package_id.now b.package_id.now) (a.package_id.now ≡ b.package_id.now) = bytes_decides a.package_id.now b.package_id.now in
    let labels : Decides ((same.ghosts).eq a.label b.label) (label_of a.label ≡ label_of b.label) = rw (label_eq-derived a.label b.label) (label_eq-Decides (label_of a.label) (label_of b.label)) in
    let both = Decides-and (pointwise nat_eq a.package_id.now b.package_id.now) ((same.ghosts).eq a.label b.label) ids labels in
    (λ e. (λ i. ((both.0 e).0 i, (both.0 e).1 i)), λ e. both.1 (ap (λ id. id.0) e, ap (λ id. id.1) e))
