-- Equality of labels and of lists, with the proofs of its laws that `==` cites.
use Rattle.std.specs.Prelude.{ℕ, Bool, ◌&&◌, ◌≡◌, [], nat_eq, refl}
use Rattle.std.specs.Cmp.{IsTotalOrder, IsEquivalence}
use Rattle.std.specs.Cmp.Lexicographic.{slice_cmp, pointwise, on_texts, on_texts_equal}
use Rattle.std.specs.Ordering.{nat_cmp, on, then_cmp, eq_by_cmp}
use Rattle.std.proofs.Common.{subst}
use Rattle.std.proofs.lemmas.Cmp.{then_total, on_total, nat_cmp_total, eq_by_cmp_equiv, and_equiv, on_equiv, lists_equiv}
use Rattle.guppy_packages.specs.Rows.{Text}
use Rattle.feature_labels.specs.Lists.{ListValue}
use Rattle.feature_labels.specs.Names.{LabelName, kind_of, kind_rank, label_cmp}
use Rattle.feature_labels.specs.Names.LabelName.{base, named, optional}

-- Whether two labels are equal.
abbrev pub label_eq : LabelName → LabelName → Bool
label_eq = eq_by_cmp label_cmp

label_rank : LabelName → ℕ
label_rank label = kind_rank (kind_of label)

label_name : LabelName → Text
label_name base = []
label_name (named name) = name
label_name (optional name) = name

label_cmp-by_rank : (a b : LabelName) → then_cmp (on label_rank nat_cmp) (on label_name (slice_cmp nat_cmp)) a b ≡ label_cmp a b
unfolding label_rank label_name
label_cmp-by_rank base base = refl
label_cmp-by_rank base (named _) = refl
label_cmp-by_rank base (optional _) = refl
label_cmp-by_rank (named _) base = refl
label_cmp-by_rank (named _) (named _) = refl
label_cmp-by_rank (named _) (optional _) = refl
label_cmp-by_rank (optional _) base = refl
label_cmp-by_rank (optional _) (named _) = refl
label_cmp-by_rank (optional _) (optional _) = refl

pub label_cmp_total : IsTotalOrder label_cmp
label_cmp_total = subst IsTotalOrder (λ i a b. label_cmp-by_rank a b i) (then_total (on_total label_rank nat_cmp_total) (on_texts label_name))

pub label_eq_equiv : IsEquivalence label_eq
label_eq_equiv = eq_by_cmp_equiv label_cmp_total

-- Whether two lists have packages of one id and the same labels.
abbrev pub list_eq : ListValue → ListValue → Bool
list_eq a b = pointwise nat_eq a.package_id b.package_id && pointwise label_eq a.labels b.labels

pub list_eq_equiv : IsEquivalence list_eq
list_eq_equiv = and_equiv (on_texts_equal (λ (list : ListValue). list.package_id)) (on_equiv (λ (list : ListValue). list.labels) (lists_equiv label_eq_equiv))
