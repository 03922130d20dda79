-- The keys of the base, of each feature and of the optional dependencies of a package.
use Rattle.std.proofs.Common.{◌≡◌, ℕ, zero, suc, ◌+◌, ◌-◌, ◌<◌, ◌≤◌, ◌⊎◌, inl, inr, ⊎_elim, List, [], ◌∷◌, ◌++◌, Bool, true, false, length, length-append, map, take, Option, Some, refl, ap, sym, ◌∙◌, subst, arith, if◌then◌else◌}
use Rattle.std.specs.Prelude.{slice_get, flat_map, Contains}
use Rattle.std.proofs.lemmas.Grind.{flat_map-append}
use Rattle.std.proofs.lemmas.List.Elements.{Contains-append_left, Contains-append_right, Contains-append_cases}
use Rattle.guppy_packages.specs.Rows.{Text, Declared}
use Rattle.guppy_packages.specs.Tables.{FeatureTable, LinkTable, PackageTable, Tables}
use Rattle.guppy_packages.specs.Items.{item_of}
use Rattle.feature_labels.specs.Names.{LabelName}
use Rattle.feature_labels.specs.Names.LabelName.{base, named, optional}
use Rattle.feature_links.specs.Links.{IsPackage}
use Rattle.feature_edges.specs.declared.candidate.CandidateKind.TheVariants.{FeatureToBase}
use Rattle.feature_edges.specs.declared.candidate.Key.{Key}
use Rattle.feature_edges.specs.Nodes.{NodeAt, first_node, labels_of}
use Rattle.feature_edges.specs.inner.Adds.{Adds}
use Rattle.feature_edges.specs.inner.Made.{AreFrom}
use Rattle.feature_edges.specs.inner.Parts.{key, start_of, IsAround, IsOfFeature, IsOfFeatureAt, IsOfLinkAt, IsLinkFrom, IsOfSource, IsOfTables, IsToFirst}
use Rattle.feature_edges.proofs.AddsLemmas.{Contains-none, place_below}
use Rattle.feature_edges.proofs.NodeLabels.{element_within}
use Rattle.feature_edges.proofs.NodeLemmas.{append-none, length_labels, take-next}
use Rattle.feature_edges.proofs.PartLemmas.{base_back}
use Rattle.feature_edges.proofs.Places.{got_same, node_there, node_back}
use Rattle.feature_edges.proofs.Ranks.{same_home}
use Rattle.feature_edges.proofs.SourceLemmas.{home, item_from, tables_of_source}

-- the names of optional dependencies follow those of features
named_before : (fs : List FeatureTable) (ds : List Text) (i : ℕ) (d : Text) → slice_get (map (λ f. named f.name) fs ++ map (λ d. optional d) ds) i ≡ Some (optional d) → length fs ≤ i
named_before [] ds i d h = omega arith
named_before (f ∷ fs) ds zero d h = cc
named_before (f ∷ fs) ds (suc i) d h = let l = named_before fs ds i d h in omega (arith, l)

optional_after : (table : PackageTable) (i : ℕ) (d : Text) → slice_get (labels_of table) i ≡ Some (optional d) → 1 + length table.features ≤ i
optional_after table zero d h = cc
optional_after table (suc i) d h = let l = named_before table.features table.optional_names i d h in omega (arith, l)

starts_at : (link : LinkTable) (d : Declared) (b : Bool) → d.optional ≡ b → (start_of link d ≡ base) ⊎ (start_of link d ≡ optional link.name)
starts_at link d true e = inr (ap (λ z. if z then optional link.name else base) e)
starts_at link d false e = inl (ap (λ z. if z then optional link.name else base) e)

module _ (t : Tables) (p : ℕ) (table : PackageTable) (is : IsPackage t p table) where
  -- the first node of the next package
  pub next_first : first_node t (p + 1) ≡ first_node t p + length (labels_of table)
  next_first =
      ap (λ z. length (flat_map labels_of z)) (take-next t.packages p table is)
      ∙ ap length (flat_map-append labels_of (take p t.packages) (table ∷ []))
      ∙ length-append (flat_map labels_of (take p t.packages)) (labels_of table ++ [])
      ∙ ap (λ z. first_node t p + length z) (append-none (labels_of table))

  -- a key from a node of the package is a key of the package
  own : (k : ℕ) (x : Key) → k < length (labels_of table) → x.from ≡ first_node t p + k → IsOfTables t x → IsOfSource t p x
  own k x l from i =
      let label = element_within (labels_of table) k l in
      let there : NodeAt t (first_node t p + k) p label.0 = node_there t p k table label.0 is label.1 in
      let q = tables_of_source t x i in
      let a = home t q.0 x q.1 in
      let other : NodeAt t (first_node t p + k) q.0 a.0 = subst (λ z. NodeAt t z q.0 a.0) from a.1 in
      subst (λ z. IsOfSource t z x) (same_home t (first_node t p + k) q.0 p a.0 label.0 other there) q.1

  -- a key of a link starts at the base or at an optional dependency
  link_start : (k : ℕ) (x : Key) → IsLinkFrom t p k → IsOfLinkAt t k x → (label : LabelName) × NodeAt t x.from p label × ((label ≡ base) ⊎ ((d : Text) × (label ≡ optional d)))
  link_start k x leaves h =
      let d = h.2.1 in
      let label : LabelName = start_of h.0 d.0 in
      let from : h.0.from ≡ p = ap (λ z. z.from) (got_same h.0 leaves.0 (sym h.1 ∙ leaves.1)) ∙ leaves.2 in
      let same : x.from ≡ d.2.0 = ap (λ z. z.from) d.2.2.2.2 in
      (label, subst (λ z. NodeAt t z p label) (sym same) (subst (λ z. NodeAt t d.2.0 z label) from d.2.1), ⊎_elim (λ e. inl e) (λ e. inr (h.0.name, e)) (starts_at h.0 d.0 d.0.optional refl))

  optional_bounds : (n : ℕ) (d : Text) → NodeAt t n p (optional d) → (first_node t p + 1 + length table.features ≤ n) × (n < first_node t (p + 1))
  optional_bounds n d h =
      let y = node_back t n p (optional d) h in
      let same : y.row ≡ table = got_same y.row table (sym y.is_row ∙ is) in
      let at : slice_get (labels_of table) y.place ≡ Some (optional d) = subst (λ z. slice_get (labels_of z) y.place ≡ Some (optional d)) same y.is_place in
      let after = optional_after table y.place d at in
      let within = place_below (labels_of table) y.place (optional d) at in
      (omega (arith, after, y.is), omega (arith, within, y.is, next_first))

  link_bounds : (k : ℕ) (x : Key) → IsLinkFrom t p k → IsOfLinkAt t k x → (x.from ≡ first_node t p) ⊎ ((first_node t p + 1 + length table.features ≤ x.from) × (x.from < first_node t (p + 1)))
  link_bounds k x leaves h =
      let s = link_start k x leaves h in
      ⊎_elim
      (λ e. inl (base_back t x.from p (subst (λ z. NodeAt t x.from p z) e s.1)))
      (λ e. inr (optional_bounds x.from e.0 (subst (λ z. NodeAt t x.from p z) e.1 s.1)))
      s.2

  around_bounds : (x : Key) → IsAround t p table x → (x.from ≡ first_node t p) ⊎ ((first_node t p + 1 + length table.features ≤ x.from) × (x.from < first_node t (p + 1)))
  around_bounds x (inl h) = link_bounds h.0 x h.1 h.2
  around_bounds x (inr h) =
      let from : x.from ≡ first_node t p + h.0 = ap (λ z. z.from) h.2.1.1 in
      inr (omega (arith, from, h.2.0), omega (arith, from, h.1, next_first))

  around_tables : (x : Key) → IsAround t p table x → IsOfTables t x
  around_tables x (inl h) = inr (h.0, h.2)
  around_tables x (inr h) = inl (p, (table, is, inl (h.0, h.1, h.2.1)))

  feature_from : (k : ℕ) (feature : FeatureTable) (x : Key) → IsOfFeature t (first_node t p + 1 + k) p feature x → x.from ≡ first_node t p + 1 + k
  feature_from k feature x (inl h) = ap (λ z. z.from) h
  feature_from k feature x (inr h) = item_from t (first_node t p + 1 + k) p feature.name (item_of h.1.0) x h.1.2

  feature_tables : (k : ℕ) (feature : FeatureTable) (x : Key) → slice_get table.features k ≡ Some feature → IsOfFeature t (first_node t p + 1 + k) p feature x → IsOfTables t x
  feature_tables k feature x at (inl h) =
      let l : k < length table.features = place_below table.features k feature at in
      let same : first_node t p + 1 + k ≡ first_node t p + (1 + k) = omega arith in
      inl (p, (table, is, inl (1 + k, omega (arith, l, length_labels table), (omega arith, h ∙ ap (λ z. key z (first_node t p) FeatureToBase 0 0) same))))
  feature_tables k feature x at (inr h) = inl (p, (table, is, inr (k, (feature, at, h))))

  -- a key of the package is of a feature, or around the features
  apart : (x : Key) → IsOfSource t p x → ((k : ℕ) × (feature : FeatureTable) × (slice_get table.features k ≡ Some feature) × IsOfFeature t (first_node t p + 1 + k) p feature x) ⊎ IsAround t p table x
  apart x (inr h) = inr (inl h)
  apart x (inl h) = ⊎_elim
      (λ i. to_first i.0 i.1 i.2)
      (λ i. inl (i.0, i.1.0, i.1.1, inr i.1.2))
      moved
    where
      same_table : (other : PackageTable) → ◌≡◌ {A = Option PackageTable} (Some other) (Some table) → other ≡ table
      same_table other q = cc

      moved : ((k : ℕ) × (k < length (labels_of table)) × IsToFirst (first_node t p) k x) ⊎ ((k : ℕ) × IsOfFeatureAt t p table k x)
      moved = subst (λ z. ((k : ℕ) × (k < length (labels_of z)) × IsToFirst (first_node t p) k x) ⊎ ((k : ℕ) × IsOfFeatureAt t p z k x)) (same_table h.0 (sym h.1 ∙ is)) h.2

      split : (m n : ℕ) → (m < n) ⊎ (n ≤ m)
      split m n = grind arith

      to_first : (k : ℕ) → k < length (labels_of table) → IsToFirst (first_node t p) k x → ((k : ℕ) × (feature : FeatureTable) × (slice_get table.features k ≡ Some feature) × IsOfFeature t (first_node t p + 1 + k) p feature x) ⊎ IsAround t p table x
      to_first zero l i = absurd (omega (arith, i.0))
      to_first (suc k) l i = ⊎_elim
          (λ (m : k < length table.features).
          let feature = element_within table.features k m in
          let same : first_node t p + suc k ≡ first_node t p + 1 + k = omega arith in
          inl (k, feature.0, feature.1, inl (i.1 ∙ ap (λ z. key z (first_node t p) FeatureToBase 0 0) same)))
          (λ (m : length table.features ≤ k). inr (inr (suc k, l, (omega (arith, m), i))))
          (split k (length table.features))

  -- the keys around the features, before and after these
  module _ (a c : List Key) (around : Adds (IsAround t p table) [] (a ++ c)) (front : (x : Key) → Contains a x → x.from < first_node t p + 1) (back : (x : Key) → Contains c x → first_node t p + 1 ≤ x.from) where
    told : (x : Key) → Contains (a ++ c) x → IsAround t p table x
    told x h = ⊎_elim (λ i. absurd (Contains-none x i)) (λ i. i) (around.nothing_else x h)

    pub base_keys : AreFrom t (first_node t p) (first_node t p + 1) a
    base_keys x = (
      (λ h.
          let i = told x (Contains-append_left a c x h) in
          let low : first_node t p ≤ x.from = ⊎_elim (λ e. omega (arith, e)) (λ e. omega (arith, e.0)) (around_bounds x i) in
          (around_tables x i, low, front x h)),
      (λ h.
          let source = own 0 x (omega (arith, length_labels table)) (omega (arith, h.1, h.2)) h.0 in
          ⊎_elim
          (λ f. let from = feature_from f.0 f.1 x f.3 in absurd (omega (arith, from, h.2)))
          (λ i. ⊎_elim (λ u. u) (λ u. let l = back x u in absurd (omega (arith, l, h.2))) (Contains-append_cases a c x (around.added x i)))
          (apart x source)),
    )

    pub optional_keys : AreFrom t (first_node t p + 1 + length table.features) (first_node t (p + 1)) c
    optional_keys x = (
      (λ h.
          let i = told x (Contains-append_right a c x h) in
          let l = back x h in
          let bounds : (first_node t p + 1 + length table.features ≤ x.from) × (x.from < first_node t (p + 1)) = ⊎_elim (λ e. absurd (omega (arith, e, l))) (λ e. e) (around_bounds x i) in
          (around_tables x i, bounds.0, bounds.1)),
      (λ h.
          let place = x.from - first_node t p in
          let source = own place x (omega (arith, h.1, h.2, next_first)) (omega (arith, h.1)) h.0 in
          ⊎_elim
          (λ f. let from = feature_from f.0 f.1 x f.3 in let l = place_below table.features f.0 f.1 f.2 in absurd (omega (arith, from, l, h.1)))
          (λ i. ⊎_elim (λ u. let l = front x u in absurd (omega (arith, l, h.1))) (λ u. u) (Contains-append_cases a c x (around.added x i)))
          (apart x source)),
    )

  -- the keys of a feature
  pub feature_keys : (k : ℕ) (feature : FeatureTable) (keys : List Key) → slice_get table.features k ≡ Some feature → Adds (IsOfFeature t (first_node t p + 1 + k) p feature) [] keys → AreFrom t (first_node t p + 1 + k) (first_node t p + 1 + (k + 1)) keys
  feature_keys k feature keys at of x = (
    (λ h.
        let i = ⊎_elim (λ i. absurd (Contains-none x i)) (λ i. i) (of.nothing_else x h) in
        let from = feature_from k feature x i in
        (feature_tables k feature x at i, omega (arith, from), omega (arith, from))),
    (λ h.
        let l : k < length table.features = place_below table.features k feature at in
        let from : x.from ≡ first_node t p + 1 + k = omega (arith, h.1, h.2) in
        let source = own (1 + k) x (omega (arith, l, length_labels table)) (omega (arith, from)) h.0 in
        of.added x (⊎_elim
        (λ f.
        let other = feature_from f.0 f.1 x f.3 in
        let number : f.0 ≡ k = omega (arith, from, other) in
        let same : f.1 ≡ feature = got_same f.1 feature (sym f.2 ∙ ap (slice_get table.features) number ∙ at) in
        subst (λ z. IsOfFeature t (first_node t p + 1 + k) p z x) same (subst (λ z. IsOfFeature t (first_node t p + 1 + z) p f.1 x) number f.3))
        (λ i. absurd (no_around i from l))
        (apart x source))),
  )
    where
      no_around : IsAround t p table x → x.from ≡ first_node t p + 1 + k → k < length table.features → ⊥
      no_around i from l = ⊎_elim (λ e. omega (arith, e, from)) (λ e. omega (arith, e.0, from, l)) (around_bounds x i)
