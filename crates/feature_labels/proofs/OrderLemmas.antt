-- The orders of kinds and ids are total, and labels or lists that compare equal are equal.
use Rattle.std.proofs.Common.{◌≡◌, Bool, ◌&&◌, nat_eq, refl, subst, ap}
use Rattle.std.specs.Bool.{Decides}
use Rattle.std.specs.Cmp.{IsTotalOrder}
use Rattle.std.specs.Cmp.Lexicographic.{slice_cmp, pointwise, bytes_decides, texts_ties, on_texts}
use Rattle.std.specs.Ordering.{nat_cmp, eq_by_cmp}
use Rattle.std.proofs.lemmas.Bool.Decides.{Decides-and}
use Rattle.std.proofs.lemmas.Cmp.{then_total, on_total, nat_cmp_total}
use Rattle.std.proofs.lemmas.Slice.Eq.{slice_eq-Decides}
use Rattle.guppy_packages.specs.Rows.{Text}
use Rattle.feature_labels.specs.Lists.{ListValue}
use Rattle.feature_labels.specs.Names.{LabelName, kind_rank, kind_cmp, id_cmp}
use Rattle.feature_labels.specs.Names.LabelName.{base, named, optional}
use Rattle.feature_labels.specs.Orders.{label_eq, label_cmp_total, list_eq}

pub kind_cmp_total : IsTotalOrder kind_cmp
kind_cmp_total = on_total kind_rank nat_cmp_total

pub id_cmp_total : IsTotalOrder id_cmp
id_cmp_total = then_total (on_texts (λ (id : Text × LabelName). id.0)) (on_total (λ (id : Text × LabelName). id.1) label_cmp_total)

-- Texts that compare `Equal` are equal.
text_eq-Decides : (s t : Text) → Decides (eq_by_cmp (slice_cmp nat_cmp) s t) (s ≡ t)
text_eq-Decides s t = let P : Bool → Type 0 = λ r. Decides r (s ≡ t) in subst P (texts_ties s t) (bytes_decides s t)

pub label_eq-Decides : (a b : LabelName) → Decides (label_eq a b) (a ≡ b)
label_eq-Decides base base = (λ _. refl, λ _. refl)
label_eq-Decides base (named _) = (λ e. cc, λ e. cc)
label_eq-Decides base (optional _) = (λ e. cc, λ e. cc)
label_eq-Decides (named _) base = (λ e. cc, λ e. cc)
label_eq-Decides (named s) (named t) = let d = text_eq-Decides s t in (λ e. ap named (d.0 e), λ e. d.1 (cc))
label_eq-Decides (named _) (optional _) = (λ e. cc, λ e. cc)
label_eq-Decides (optional _) base = (λ e. cc, λ e. cc)
label_eq-Decides (optional _) (named _) = (λ e. cc, λ e. cc)
label_eq-Decides (optional s) (optional t) = let d = text_eq-Decides s t in (λ e. ap optional (d.0 e), λ e. d.1 (cc))

pub list_eq-Decides : (a b : ListValue) → Decides (list_eq a b) ((a.package_id ≡ b.package_id) × (a.labels ≡ b.labels))
list_eq-Decides a b =
    let ids : Decides (pointwise nat_eq a.package_id b.package_id) (a.package_id ≡ b.package_id) = bytes_decides a.package_id b.package_id in
    let labels : Decides (pointwise label_eq a.labels b.labels) (a.labels ≡ b.labels) = slice_eq-Decides label_eq-Decides a.labels b.labels (pointwise label_eq a.labels b.labels) refl in
    Decides-and (pointwise nat_eq a.package_id b.package_id) (pointwise label_eq a.labels b.labels) ids labels
