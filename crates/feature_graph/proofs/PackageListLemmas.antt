-- The labels of one package's members, collected node by node.
use Rattle.std.proofs.Common.{◌≡◌, ℕ, ◌+◌, ◌<◌, ◌≤◌, ◌⊎◌, inl, inr, ⊎_elim, Bool, List, [], ◌∷◌, ◌++◌, length, Option, Some, ap, sym, ◌∙◌, subst, arith}
use Rattle.std.specs.Prelude.{◌↔◌, IsTrue, IfOk, Contains, slice_get}
use Rattle.std.specs.Option.{option_map}
use Rattle.std.specs.declared.result.Result.{Result}
use Rattle.std.specs.declared.result.Result.TheVariants.{Ok, Err}
use Rattle.std.proofs.lemmas.Option.{slice_get-map}
use Rattle.std.proofs.lemmas.List.Elements.{Contains-append_left, Contains-append_cases, Contains-push}
use Rattle.digraphs.specs.Bits.{has}
use Rattle.guppy_packages.specs.Tables.{PackageTable, Tables}
use Rattle.feature_core.specs.Nodes.{NodeAt, first_node, node_packages, node_places}
use Rattle.feature_labels.specs.Lists.{Ascends, ListValue, SameLabels}
use Rattle.feature_labels.specs.Names.{LabelName}
use Rattle.feature_graph.proofs.ListLemmas.{element_cases}
use Rattle.feature_graph.proofs.RangeLemmas.{node_of}
use Rattle.feature_graph.specs.PackageLists.{HasMemberAt, ListsMembers}
use Rattle.feature_graph.specs.inner.MemberLabels.{AddsLabel, HasMemberBelow}

-- a node with a label of package `p` is a node of package `p`
package_there : (t : Tables) (n p : ℕ) (label : LabelName) → NodeAt t n p label → slice_get (node_packages t) n ≡ Some p
package_there t n p label at = slice_get-map (λ x. x.0) (node_places t) n ∙ ap (option_map (λ x. x.0)) at

one_label : (t : Tables) (n p : ℕ) (a b : LabelName) → NodeAt t n p a → NodeAt t n p b → a ≡ b
one_label t n p a b at bt =
    let both : ◌≡◌ {A = Option (ℕ × LabelName)} (Some (p, a)) (Some (p, b)) = sym at ∙ bt in
    let pair : ◌≡◌ {A = ℕ × LabelName} (p, a) (p, b) = cc in
    ap (λ z. z.1) pair

no_label : (label : LabelName) → Contains [] label → ⊥
no_label label h = omega (arith, h.1)

last_label : (a b : LabelName) → Contains (a ∷ []) b → a ≡ b
last_label a b h = ⊎_elim (λ e. e) (λ i. absurd (no_label b i)) (element_cases a [] b h)

module _ (t : Tables) (members : List Bool) (p : ℕ) where
  pub adds_label : (n : ℕ) (old : List LabelName) (label : LabelName) → NodeAt t n p label → IsTrue (has members n) → AddsLabel t members p n old (old ++ label ∷ [])
  adds_label n old label at is other = (
    (λ h. ⊎_elim
        (λ before. inl before)
        (λ last. inr (subst (NodeAt t n p) (last_label label other last) at, is))
        (Contains-append_cases old (label ∷ []) other h)),
    (λ h. ⊎_elim
        (λ before. Contains-append_left old (label ∷ []) other before)
        (λ both. subst (λ z. Contains (old ++ label ∷ []) z) (one_label t n p label other at both.0) (Contains-push old label))
        h),
  )

  module _ (within : p < length t.packages) where
    range_of : (n : ℕ) (label : LabelName) → NodeAt t n p label → (first_node t p ≤ n) × (n < first_node t (p + 1))
    range_of n label at = (node_of t p n within).0 (package_there t n p label at)

    pub none_gathered : (n : ℕ) → n ≡ first_node t p → (label : LabelName) → Contains [] label ↔ HasMemberBelow t members p n label
    none_gathered n first label = (
      (λ h. absurd (no_label label h)),
      (λ h. let range = range_of h.0 label h.1.0 in let below = h.1.2 in absurd (omega (arith, first, range.0, below))),
    )

    pub one_gathered : (n : ℕ) (old new : List LabelName) → ((label : LabelName) → Contains old label ↔ HasMemberBelow t members p n label) → AddsLabel t members p n old new
        → (label : LabelName) → Contains new label ↔ HasMemberBelow t members p (n + 1) label
    one_gathered n old new before adds label = (
      (λ h. ⊎_elim
          (λ o. let b = (before label).0 o in let below = b.1.2 in (b.0, (b.1.0, b.1.1, omega (arith, below))))
          (λ now. (n, (now.0, now.1, omega arith)))
          ((adds label).0 h)),
      (λ h. ⊎_elim
          (λ below. (adds label).1 (inl ((before label).1 (h.0, (h.1.0, h.1.1, below)))))
          (λ is. (adds label).1 (inr (subst (λ m. NodeAt t m p label) is h.1.0, subst (λ m. IsTrue (has members m)) is h.1.1)))
          (below_or_at h.0 n h.1.2)),
    )
      where
        below_or_at : (m n : ℕ) → m < n + 1 → (m < n) ⊎ (m ≡ n)
        below_or_at m n h = grind arith

    pub all_gathered : (n : ℕ) (labels : List LabelName) → first_node t (p + 1) ≤ n → ((label : LabelName) → Contains labels label ↔ HasMemberBelow t members p n label)
        → (label : LabelName) → Contains labels label ↔ HasMemberAt t members p label
    all_gathered n labels past each label = (
      (λ h. let b = (each label).0 h in (b.0, b.1.0, b.1.1)),
      (λ h. let range = range_of h.0 label h.1 in (each label).1 (h.0, (h.1, h.2, omega (arith, range.1, past)))),
    )

  -- a list of these labels is the list of the members
  pub members_listed : {E : Type 0} (u : Tables) (table : PackageTable) (labels : List LabelName) (r : Result ListValue E) → u ≡ t → slice_get u.packages p ≡ Some table
      → ((label : LabelName) → Contains labels label ↔ HasMemberAt t members p label)
      → IfOk r (λ l. l.graph ≡ u) → IfOk r (λ l. l.number ≡ p) → IfOk r (λ l. l.package_id ≡ table.id) → IfOk r (λ l. SameLabels labels l.labels) → IfOk r (λ l. Ascends l.labels)
      → IfOk r (ListsMembers t members p)
  members_listed u table labels (Ok l) same is each graph number id listed ascends = record {
    of_graph = graph ∙ same;
    at_place = number;
    table = table;
    is_package = subst (λ z. slice_get z.packages p ≡ Some table) same is;
    of_package = id;
    labels = λ label. ((λ h. (each label).0 ((listed label).1 h)), (λ h. (listed label).0 ((each label).1 h)));
    ascends = ascends;
  }
  members_listed u table labels (Err e) same is each graph number id listed ascends = tt
