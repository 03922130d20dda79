-- The labels of a list, ascending and without repeats.
use Rattle.std.proofs.Common.{◌≡◌, ◌⊎◌, inl, inr, ⊎_elim, List, [], ◌∷◌, Ordering, Less, Equal, Greater, refl, ap, sym, ◌∙◌, subst}
use Rattle.std.specs.Prelude.{◌↔◌, Contains}
use Rattle.std.specs.List.{AllByRecursion}
use Rattle.std.specs.List.Sorted.{IsStrictlySortedBy}
use Rattle.std.specs.Ordering.{is_eq, ordering_reverse}
use Rattle.std.proofs.lemmas.Map.Keys.{sorted_head, sorted_tail}
use Rattle.feature_labels.specs.Lists.{Ascends, SameLabels}
use Rattle.feature_labels.specs.Names.{LabelName, label_cmp}
use Rattle.feature_labels.specs.Orders.{label_cmp_total}
use Rattle.feature_labels.proofs.OrderLemmas.{label_eq-Decides}
use Rattle.feature_core.proofs.AddsLemmas.{Contains-cases, Contains-first, Contains-later, Contains-none}

-- `more` ascends and has `label` and the labels of `labels`.
record IsInserted (label : LabelName) (labels more : List LabelName) : Type 0 where
  ascends : Ascends more
  exact : (l : LabelName) → Contains more l ↔ ((label ≡ l) ⊎ Contains labels l)

ascends_none : Ascends []
unfolding IsStrictlySortedBy
ascends_none = tt

ascends_first : (label : LabelName) (labels : List LabelName) → AllByRecursion (λ y. label_cmp label y ≡ Less) labels → Ascends labels → Ascends (label ∷ labels)
unfolding IsStrictlySortedBy
ascends_first label labels all rest = (all, rest)

all_of : (P : LabelName → Type 0) (labels : List LabelName) → ((l : LabelName) → Contains labels l → P l) → AllByRecursion P labels
all_of P [] f = tt
all_of P (l ∷ labels) f = (f l (Contains-first l labels), all_of P labels (λ m c. f m (Contains-later l labels m c)))

of_all : (P : LabelName → Type 0) (labels : List LabelName) (l : LabelName) → AllByRecursion P labels → Contains labels l → P l
of_all P [] l h c = absurd (Contains-none l c)
of_all P (m ∷ labels) l h c = ⊎_elim (λ e. subst P e h.0) (λ i. of_all P labels l h.1 i) (Contains-cases m labels l c)

inserted : (label : LabelName) (labels : List LabelName) → Ascends labels → (more : List LabelName) × IsInserted label labels more
inserted label [] sorted = (
  label ∷ [],
  record { ascends = ascends_first label [] tt ascends_none; exact = λ l. (λ c. Contains-cases label [] l c, λ h. ⊎_elim (λ e. subst (Contains (label ∷ [])) e (Contains-first label [])) (λ i. absurd (Contains-none l i)) h) },
)
inserted label (m ∷ labels) sorted = go (inserted label labels (sorted_tail label_cmp m labels sorted)) (label_cmp label m) refl
  where
    above : AllByRecursion (λ y. label_cmp m y ≡ Less) labels
    above = sorted_head label_cmp m labels sorted

    after : label_cmp m label ≡ Less → (rest : (more : List LabelName) × IsInserted label labels more) → (more : List LabelName) × IsInserted label (m ∷ labels) more
    after less (more, is) = (
      m ∷ more,
      record {
        ascends = ascends_first m more (all_of (λ y. label_cmp m y ≡ Less) more (λ l c. ⊎_elim (λ e. subst (λ z. label_cmp m z ≡ Less) e less) (λ i. of_all (λ y. label_cmp m y ≡ Less) labels l above i) ((is.exact l).0 c))) is.ascends;
        exact = λ l. (
          λ c. ⊎_elim
              (λ e. inr (subst (Contains (m ∷ labels)) e (Contains-first m labels)))
              (λ i. ⊎_elim (λ e. inl e) (λ j. inr (Contains-later m labels l j)) ((is.exact l).0 i))
              (Contains-cases m more l c),
          λ h. ⊎_elim
              (λ e. Contains-later m more l ((is.exact l).1 (inl e)))
              (λ i. ⊎_elim
              (λ e. subst (Contains (m ∷ more)) e (Contains-first m more))
              (λ j. Contains-later m more l ((is.exact l).1 (inr j)))
              (Contains-cases m labels l i))
              h,
        );
      },
    )

    go : ((more : List LabelName) × IsInserted label labels more) → (o : Ordering) → label_cmp label m ≡ o → (more : List LabelName) × IsInserted label (m ∷ labels) more
    go rest Less e = (
      label ∷ m ∷ labels,
      record {
        ascends = ascends_first label (m ∷ labels) (e, all_of (λ y. label_cmp label y ≡ Less) labels (λ l c. label_cmp_total.trans label m l e (of_all (λ y. label_cmp m y ≡ Less) labels l above c))) sorted;
        exact = λ l. (
          λ c. Contains-cases label (m ∷ labels) l c,
          λ h. ⊎_elim (λ e. subst (Contains (label ∷ m ∷ labels)) e (Contains-first label (m ∷ labels))) (λ i. Contains-later label (m ∷ labels) l i) h,
        );
      },
    )
    go rest Equal e =
        let same : label ≡ m = (label_eq-Decides label m).0 (ap is_eq e) in (
          m ∷ labels,
          record {
            ascends = sorted;
            exact = λ l. (
              λ c. inr c,
              λ h. ⊎_elim (λ e. subst (Contains (m ∷ labels)) (sym same ∙ e) (Contains-first m labels)) (λ i. i) h,
            );
          },
        )
    go rest Greater e = after (label_cmp_total.antisymm m label ∙ ap ordering_reverse e) rest

-- labels in any order have an ascending list
pub labels_ascend : (labels : List LabelName) → (sorted : List LabelName) × Ascends sorted × SameLabels labels sorted
labels_ascend [] = ([], ascends_none, λ l. (λ c. c, λ c. c))
labels_ascend (label ∷ labels) =
    let rest = labels_ascend labels in
    let all = inserted label rest.0 rest.1 in (
      all.0,
      all.1.ascends,
      λ l. (
        λ c. (all.1.exact l).1 (⊎_elim (λ e. inl e) (λ i. inr ((rest.2 l).0 i)) (Contains-cases label labels l c)),
        λ c. ⊎_elim (λ e. subst (Contains (label ∷ labels)) e (Contains-first label labels)) (λ i. Contains-later label labels l ((rest.2 l).1 i)) ((all.1.exact l).0 c),
      ),
    )
