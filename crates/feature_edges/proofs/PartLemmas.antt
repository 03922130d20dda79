-- The parts of the tables contribute exactly one key for each candidate of a pair.
use Rattle.std.proofs.Common.{◌≡◌, ◌≢◌, ℕ, zero, suc, ◌+◌, ◌<◌, inl, inr, ⊎_elim, List, ◌∷◌, [], length, map, Bool, true, false, refl, ap, sym, ◌∙◌, subst, arith, Option, Some, cond}
use Rattle.std.specs.Prelude.{slice_get, IsTrue, IsFalse, ◌&&◌, ◌||◌, not}
use Rattle.std.specs.List.{list_any}
use Rattle.std.specs.Option.{option_map}
use Rattle.std.proofs.lemmas.Option.{slice_get-map}
use Rattle.guppy_packages.specs.Rows.{Text, Declared}
use Rattle.guppy_packages.specs.Tables.{FeatureTable, PackageTable, LinkTable, Tables}
use Rattle.guppy_packages.specs.Items.{Item, feature_item, optional_item, slash_item, item_of}
use Rattle.feature_labels.specs.Names.{LabelName}
use Rattle.feature_labels.specs.Names.LabelName.{base, named, optional}
use Rattle.feature_labels.specs.declared.link_declarations.LinkDeclarations.{LinkDeclarations}
use Rattle.feature_labels.specs.declared.link_declarations.LinkDeclarations.TheVariants.{Unsplit, Required, Optional}
use Rattle.feature_edges.specs.declared.candidate.CandidateKind.{CandidateKind}
use Rattle.feature_edges.specs.declared.candidate.CandidateKind.TheVariants.{FeatureToBase, NamedFeature, DepColon, SlashFull, SlashOptional, SlashWeak, Section}
use Rattle.feature_edges.specs.Nodes.{NodeAt, labels_of, first_node}
use Rattle.feature_links.specs.Links.{IsPackage, IsLink, over, includes, has_declaration, by_name}
use Rattle.feature_edges.specs.Candidates.{Edge, Candidate, HasItem, LeadsOver, IsSection, requests, requesting, unsplit_of, to_base, to_feature, to_dependency, over_strong, over_weak, with_dependency, with_feature, of_required, of_optional, feature_to_base, named_feature, dep_colon, slash_full, slash_optional, slash_weak, section}
use Rattle.feature_edges.specs.declared.candidate.Key.{Key}
use Rattle.feature_edges.specs.inner.Keys.{kind_of}
use Rattle.feature_edges.specs.inner.Parts.{key, over_kind, IsToFirst, IsOfItem, IsOfPackageAt, start_of, IsOfLinkAt, IsOfTables}
use Rattle.feature_edges.proofs.KeySays.{Says}
use Rattle.feature_edges.proofs.Places.{IsSpread, node_there, node_back, get_left, get_cases, got_map}
use Rattle.feature_edges.proofs.AddsLemmas.{place_of_element, element_at_place, place_below}

-- no two named features of a package have one name
abbrev pub NamesDiffer : Tables → Type 0
NamesDiffer t = (p : ℕ) (table : PackageTable) → IsPackage t p table → (i j : ℕ) (f g : FeatureTable) → slice_get table.features i ≡ Some f → slice_get table.features j ≡ Some g → f.name ≡ g.name → i ≡ j

same_some : {X : Type 0} (x y : X) → ◌≡◌ {A = Option X} (Some x) (Some y) → x ≡ y
same_some x y h = cc

-- a named feature is the node after the base and the features before it
pub feature_node : (t : Tables) (p k : ℕ) (table : PackageTable) (feature : FeatureTable) → IsPackage t p table → slice_get table.features k ≡ Some feature → NodeAt t (first_node t p + 1 + k) p (named feature.name)
feature_node t p k table feature h i =
    let at : slice_get (map (λ f. named f.name) table.features) k ≡ Some (named feature.name) = slice_get-map (λ f. named f.name) table.features k ∙ ap (option_map (λ f. named f.name)) i in
    let there : slice_get (labels_of table) (suc k) ≡ Some (named feature.name) = get_left (map (λ f. named f.name) table.features) (map (λ d. optional d) table.optional_names) k (named feature.name) at in
    subst (λ n. NodeAt t n p (named feature.name)) (omega arith) (node_there t p (suc k) table (named feature.name) h there)

pub base_node : (t : Tables) (p : ℕ) (table : PackageTable) → IsPackage t p table → NodeAt t (first_node t p) p base
base_node t p table h = subst (λ n. NodeAt t n p base) (omega arith) (node_there t p 0 table base h refl)

record IsFeatureNode (t : Tables) (n p : ℕ) (name : Text) : Type 0 where
  table : PackageTable
  is_package : IsPackage t p table
  place : ℕ
  feature : FeatureTable
  there : slice_get table.features place ≡ Some feature
  same : feature.name ≡ name
  is : n ≡ first_node t p + 1 + place

base_apart : (d : Text) → ◌≡◌ {A = Option LabelName} (Some base) (Some (named d)) → ⊥
base_apart d h = cc

kinds_apart : (c d : Text) → optional c ≡ named d → ⊥
kinds_apart c d h = cc

named_same : (c d : Text) → named c ≡ named d → c ≡ d
named_same c d h = cc

-- a node with the label of a named feature is that feature's
feature_back : (t : Tables) (n p : ℕ) (name : Text) → NodeAt t n p (named name) → IsFeatureNode t n p name
feature_back t n p name h = let s = node_back t n p (named name) h in go s s.place s.is_place s.is
  where
    go : (s : IsSpread labels_of t.packages n p (named name)) (k : ℕ) → slice_get (labels_of s.row) k ≡ Some (named name) → n ≡ first_node t p + k → IsFeatureNode t n p name
    go s zero at is = absurd (base_apart name at)
    go s (suc k) at is = ⊎_elim
        (λ e.
        let m = got_map (λ f. named f.name) (slice_get s.row.features k) (named name) (sym (slice_get-map (λ f. named f.name) s.row.features k) ∙ e) in
        record { table = s.row; is_package = s.is_row; place = k; feature = m.0; there = m.1; same = named_same m.0.name name m.2; is = omega arith })
        (λ e.
        let m = got_map (λ d. optional d) (slice_get s.row.optional_names e.0) (named name) (sym (slice_get-map (λ d. optional d) s.row.optional_names e.0) ∙ e.2) in
        absurd (kinds_apart m.0 name m.2))
        (get_cases (map (λ f. named f.name) s.row.features) (map (λ d. optional d) s.row.optional_names) k (named name) at)

pub list_any_there : {X : Type 0} (p : X → Bool) (xs : List X) (k : ℕ) (x : X) → slice_get xs k ≡ Some x → IsTrue (p x) → IsTrue (list_any p xs)
list_any_there p [] k x h i = cc
list_any_there p (y ∷ ys) zero x h i =
    let e : y ≡ x = cc in
    rw (e, i)
list_any_there p (y ∷ ys) (suc k) x h i = rw (list_any_there p ys k x h i) (or_true (p y))
  where
    or_true : (b : Bool) → b || true ≡ true
    or_true true = refl
    or_true false = refl

pub record IsPassing {X : Type 0} (p : X → Bool) (xs : List X) : Type 0 where
  pub place : ℕ
  pub element : X
  pub there : slice_get xs place ≡ Some element
  pub passes : IsTrue (p element)

passing_later : {X : Type 0} (p : X → Bool) (y : X) (ys : List X) → IsPassing p ys → IsPassing p (y ∷ ys)
passing_later p y ys h = record { place = suc h.place; element = h.element; there = h.there; passes = h.passes }

pub list_any_back : {X : Type 0} (p : X → Bool) (xs : List X) → IsTrue (list_any p xs) → IsPassing p xs
list_any_back p [] h = cc
list_any_back p (y ∷ ys) h = go (p y) refl h (λ i. list_any_back p ys i)
  where
    go : (b : Bool) → p y ≡ b → b || list_any p ys ≡ true → (list_any p ys ≡ true → IsPassing p ys) → IsPassing p (y ∷ ys)
    go true e i more = record { place = 0; element = y; there = refl; passes = e }
    go false e i more = passing_later p y ys (more i)

both : (a b : Bool) → a && b ≡ true → (a ≡ true) × (b ≡ true)
both true b h = (refl, h)
both false b h = cc

joined_true : (a b : Bool) → a ≡ true → b ≡ true → a && b ≡ true
joined_true true b h i = i
joined_true false b h i = cc

not_true : (a : Bool) → not a ≡ true → a ≡ false
not_true true h = cc
not_true false h = refl

not_false : (a : Bool) → a ≡ false → not a ≡ true
not_false a h = rw h

-- the label at a later place is no base
later_label : (table : PackageTable) (k : ℕ) (label : LabelName) → slice_get (labels_of table) (suc k) ≡ Some label → label ≢ base
later_label table k label h is = ⊎_elim
    (λ e. let m = got_map (λ f. named f.name) (slice_get table.features k) label (sym (slice_get-map (λ f. named f.name) table.features k) ∙ e) in apart_named m.0.name (m.2 ∙ is))
    (λ e. let m = got_map (λ d. optional d) (slice_get table.optional_names e.0) label (sym (slice_get-map (λ d. optional d) table.optional_names e.0) ∙ e.2) in apart_optional m.0 (m.2 ∙ is))
    (get_cases (map (λ f. named f.name) table.features) (map (λ d. optional d) table.optional_names) k label h)
  where
    apart_named : (d : Text) → named d ≡ base → ⊥
    apart_named d e = cc

    apart_optional : (d : Text) → optional d ≡ base → ⊥
    apart_optional d e = cc

-- a node labelled base is its package's first
pub base_back : (t : Tables) (n p : ℕ) → NodeAt t n p base → n ≡ first_node t p
base_back t n p h = let s = node_back t n p base h in go s s.place s.is_place s.is
  where
    go : (s : IsSpread labels_of t.packages n p base) (k : ℕ) → slice_get (labels_of s.row) k ≡ Some base → n ≡ first_node t p + k → n ≡ first_node t p
    go s zero at is = omega arith
    go s (suc k) at is = absurd (later_label s.row k base at refl)

-- a key for the candidate e of the pair (u, w)
pub record IsKeyOf (u w : ℕ) (e : Edge) (x : Key) : Type 0 where
  pub from : x.from ≡ u
  pub to : x.to ≡ w
  pub kind : x.kind ≡ kind_of e

-- the candidate that the key represents, and its link
pub record StandsFor (t : Tables) (x : Key) : Type 0 where
  pub edge : Edge
  pub candidate : Candidate t x.from x.to edge
  pub kind : x.kind ≡ kind_of edge
  pub says : Says t x edge

is_key : (u w : ℕ) (kind : CandidateKind) (source place : ℕ) (e : Edge) → kind ≡ kind_of e → IsKeyOf u w e (key u w kind source place)
is_key u w kind source place e h = record { from = refl; to = refl; kind = h }

stands : (t : Tables) (u w : ℕ) (kind : CandidateKind) (source place : ℕ) (e : Edge) (x : Key) → x ≡ key u w kind source place → Candidate t u w e → kind ≡ kind_of e → Says t (key u w kind source place) e → StandsFor t x
stands t u w kind source place e x is c r says = subst (λ z. StandsFor t z) (sym is) (record { edge = e; candidate = c; kind = r; says = says })

module _ (t : Tables) (differ : NamesDiffer t) where
  -- a key that a package contributes
  OfPackage : ℕ → ℕ → ℕ → Edge → Type 0
  OfPackage p u w e = (x : Key) × IsOfPackageAt t p x × IsKeyOf u w e x

  -- a node of a package that isn't its base
  of_base : (u w p : ℕ) (l : LabelName) → NodeAt t u p l → l ≢ base → NodeAt t w p base → (x : Key) × IsOfPackageAt t p x × IsKeyOf u w feature_to_base x
  of_base u w p l nu ne nw = let s = node_back t u p l nu in go s s.place s.is_place s.is
    where
      go : (s : IsSpread labels_of t.packages u p l) (k : ℕ) → slice_get (labels_of s.row) k ≡ Some l → u ≡ first_node t p + k → (x : Key) × IsOfPackageAt t p x × IsKeyOf u w feature_to_base x
      go s zero at is = let e : base ≡ l = same_some base l at in absurd (ne (sym e))
      go s (suc k) at is =
          (key (first_node t p + suc k) (first_node t p) FeatureToBase 0 0, (s.row, s.is_row, inl (suc k, place_below (labels_of s.row) (suc k) l at, (omega arith, refl))), record { from = sym is; to = sym (base_back t w p nw); kind = refl })

  -- the keys of an item of a feature are keys of its package
  of_item : (u p : ℕ) (f : Text) (item : Item) (x : Key) → HasItem t p f item → NodeAt t u p (named f) → IsOfItem t u p f item x → IsOfPackageAt t p x
  of_item u p f item x h nu of =
      let j = place_of_element h.table.features h.feature h.is_feature in
      let i = place_of_element h.feature.items h.text h.is_item in
      let b = feature_back t u p f nu in
      let at : slice_get b.table.features j.0 ≡ Some h.feature = let e : b.table ≡ h.table = same_some b.table h.table (sym b.is_package ∙ h.is_package) in subst (λ z. slice_get z.features j.0 ≡ Some h.feature) (sym e) j.1 in
      let place : b.place ≡ j.0 = differ p b.table b.is_package b.place j.0 b.feature h.feature b.there at (b.same ∙ sym h.name) in
      let is : u ≡ first_node t p + 1 + j.0 = b.is ∙ ap (λ z. first_node t p + 1 + z) place in
      let there = subst (λ z. IsOfItem t z p f item x) is of in
      let named_there = subst (λ z. IsOfItem t (first_node t p + 1 + j.0) p z item x) (sym h.name) there in
      let said = subst (λ z. IsOfItem t (first_node t p + 1 + j.0) p h.feature.name z x) (sym h.says) named_there in
      (h.table, h.is_package, inr (j.0, (h.feature, j.1, (i.0, (h.text, i.1, said)))))

  of_section : (u w : ℕ) (which : LinkDeclarations) (label : LinkTable → LabelName) (e : Edge) (s : IsSection t u w which label e)
      → ((d : Declared) → IsTrue (includes which d) → start_of s.link d ≡ label s.link) → (x : Key) × IsOfLinkAt t s.k x × IsKeyOf u w e x
  of_section u w which label e s starts =
      let d = list_any_back (requesting s.asked which) s.link.declarations s.is_requested in
      let counted = both (includes which d.element) (requests d.element s.asked) d.passes in
      (key u w Section s.k d.place, (s.link, s.is_link, (d.place, (d.element, d.there, (u, subst (λ z. NodeAt t u s.link.from z) (sym (starts d.element counted.0)) s.from_node, (s.asked, counted.1, (w, s.to_node, refl)))))), is_key u w Section s.k d.place e (sym (ap kind_of s.is_edge)))

  required_start : (link : LinkTable) (d : Declared) → IsTrue (not d.optional) → start_of link d ≡ base
  required_start link d h = ap (λ b. cond b (optional link.name) base) (not_true d.optional h)

  optional_start : (link : LinkTable) (d : Declared) → IsTrue d.optional → start_of link d ≡ optional link.name
  optional_start link d h = ap (λ b. cond b (optional link.name) base) h

  over_strongly : (weak : Bool) (link : LinkTable) → IsFalse (weak && has_declaration Optional link) → over_kind weak link ≡ SlashFull
  over_strongly weak link h = ap (λ b. cond b SlashWeak SlashFull) h

  over_weakly : (weak : Bool) (link : LinkTable) → IsTrue (weak && has_declaration Optional link) → over_kind weak link ≡ SlashWeak
  over_weakly weak link h = ap (λ b. cond b SlashWeak SlashFull) h

  of_item_to : (u w p : ℕ) (kind : CandidateKind) (source : ℕ) (f : Text) (item : Item) (e : Edge) → HasItem t p f item → NodeAt t u p (named f) → kind ≡ kind_of e → IsOfItem t u p f item (key u w kind source 0) → (x : Key) × IsOfTables t x × IsKeyOf u w e x
  of_item_to u w p kind source f item e h nu r of = (key u w kind source 0, inl (p, of_item u p f item (key u w kind source 0) h nu of), is_key u w kind source 0 e r)

  -- each candidate has a key
  pub contributed : (u w : ℕ) (e : Edge) → Candidate t u w e → (x : Key) × IsOfTables t x × IsKeyOf u w e x
  contributed u w e (to_base p l nu ne nw is) = let b = of_base u w p l nu ne nw in (b.0, inl (p, b.1), subst (λ z. IsKeyOf u w z b.0) (sym is) b.2)
  contributed u w e (to_feature p f g h ne nu nw is) = of_item_to u w p NamedFeature 0 f (feature_item g) e h nu (sym (ap kind_of is)) (ne, (w, nw, refl))
  contributed u w e (to_dependency p f d h nu nw is) = of_item_to u w p DepColon 0 f (optional_item d) e h nu (sym (ap kind_of is)) (w, nw, refl)
  contributed u w e (over_strong k link weak l strong is) =
      of_item_to u w link.from SlashFull k l.f (slash_item link.name l.g weak) e l.has_item l.from_node (sym (ap kind_of is)) (inl (k, (link, l.is_link, refl, refl, (w, l.to_node, ap (λ z. key u w z k 0) (sym (over_strongly weak link strong))))))
  contributed u w e (over_weak k link l weak is) =
      of_item_to u w link.from SlashWeak k l.f (slash_item link.name l.g true) e l.has_item l.from_node (sym (ap kind_of is)) (inl (k, (link, l.is_link, refl, refl, (w, l.to_node, ap (λ z. key u w z k 0) (sym (over_weakly true link weak))))))
  contributed u w e (with_dependency p f d g h nu nw is) = of_item_to u w p SlashOptional 0 f (slash_item d g false) e h nu (sym (ap kind_of is)) (inr (refl, inl (w, nw, refl)))
  contributed u w e (with_feature p n f d g h nu nd ne nw is) = of_item_to u w p SlashOptional 0 f (slash_item d g false) e h nu (sym (ap kind_of is)) (inr (refl, inr (ne, (n, nd), (w, nw, refl))))
  contributed u w e (of_required s) = let x = of_section u w Required (λ link. base) e s (λ d i. required_start s.link d i) in (x.0, inr (s.k, x.1), x.2)
  contributed u w e (of_optional s) = let x = of_section u w Optional (λ link. optional link.name) e s (λ d i. optional_start s.link d i) in (x.0, inr (s.k, x.1), x.2)

  over_link : (u w p k : ℕ) (f d g : Text) (weak : Bool) (link : LinkTable) (x : Key) → HasItem t p f (slash_item d g weak) → NodeAt t u p (named f) → IsLink t k link → link.from ≡ p → link.name ≡ d → NodeAt t w link.to (named g) → x ≡ key u w (over_kind weak link) k 0 → StandsFor t x
  over_link u w p k f d g weak link x h nu is from name nw eq = go (weak && has_declaration Optional link) refl
    where
      item : (weaker : Bool) → weak ≡ weaker → HasItem t link.from f (slash_item link.name g weaker)
      item weaker e = subst (λ z. HasItem t link.from f (slash_item link.name g z)) e (subst (λ z. HasItem t link.from f (slash_item z g weak)) (sym name) (subst (λ z. HasItem t z f (slash_item d g weak)) (sym from) h))

      leads : (weaker : Bool) → weak ≡ weaker → LeadsOver t u w weaker k link
      leads weaker e = record { f = f; g = g; has_item = item weaker e; from_node = subst (λ z. NodeAt t u z (named f)) (sym from) nu; is_link = is; to_node = nw }

      go : (b : Bool) → weak && has_declaration Optional link ≡ b → StandsFor t x
      go true e =
          let both_true = both weak (has_declaration Optional link) e in
          stands t u w (over_kind weak link) k 0 (slash_weak k (unsplit_of k link)) x eq (over_weak k link (leads true both_true.0) both_true.1 refl) (over_weakly weak link e)
          (record { number = refl; over = record { link = link; is_link = is; is = refl }; optional = record { link = link; is_link = is; has = both_true.1 } })
      go false e = stands t u w (over_kind weak link) k 0 (slash_full (unsplit_of k link)) x eq (over_strong k link weak (leads weak refl) e refl) (over_strongly weak link e) (record { link = link; is_link = is; is = refl })

  -- a key of an item represents a candidate
  by_item : (u p : ℕ) (f : Text) (item : Item) (x : Key) → HasItem t p f item → NodeAt t u p (named f) → IsOfItem t u p f item x → StandsFor t x
  by_item u p f (feature_item g) x h nu of = stands t u of.1.0 NamedFeature 0 0 named_feature x of.1.2 (to_feature p f g h of.0 nu of.1.1 refl) refl tt
  by_item u p f (optional_item d) x h nu of = stands t u of.0 DepColon 0 0 (dep_colon (by_name t p Unsplit d)) x of.2 (to_dependency p f d h nu of.1 refl) refl (record { p = p; d = d; to_node = of.1; is = refl })
  by_item u p f (slash_item d g weak) x h nu of = ⊎_elim
      (λ o. over_link u o.1.4.0 p o.0 f d g weak o.1.0 x h nu o.1.1 o.1.2 o.1.3 o.1.4.1 o.1.4.2)
      (λ o.
      let strong : HasItem t p f (slash_item d g false) = subst (λ z. HasItem t p f (slash_item d g z)) o.0 h in
      ⊎_elim
      (λ i. stands t u i.0 SlashOptional 0 0 (slash_optional (by_name t p Optional d)) x i.2 (with_dependency p f d g strong nu i.1 refl) refl (record { p = p; d = d; to_node = inl i.1; is = refl }))
      (λ i. stands t u i.2.0 SlashOptional 0 0 (slash_optional (by_name t p Optional d)) x i.2.2 (with_feature p i.1.0 f d g strong nu i.1.1 i.0 i.2.1 refl) refl (record { p = p; d = d; to_node = inr i.2.1; is = refl }))
      o.1)
      of

  by_base : (p k : ℕ) (table : PackageTable) (x : Key) → IsPackage t p table → k < length (labels_of table) → IsToFirst (first_node t p) k x → StandsFor t x
  by_base p zero table x h l i = absurd (omega (arith, i.0))
  by_base p (suc k) table x h l i =
      let s = within (labels_of table) (suc k) l in
      stands t (first_node t p + suc k) (first_node t p) FeatureToBase 0 0 feature_to_base x i.1 (to_base p s.0 (node_there t p (suc k) table s.0 h s.1) (later_label table k s.0 s.1) (base_node t p table h) refl) refl tt
    where
      within : {X : Type 0} (xs : List X) (k : ℕ) → k < length xs → (y : X) × (slice_get xs k ≡ Some y)
      within [] k l = absurd (omega (arith, l))
      within (y ∷ ys) zero l = (y, refl)
      within (y ∷ ys) (suc k) l = within ys k (omega (arith, l))

  by_package : (p : ℕ) (x : Key) → IsOfPackageAt t p x → StandsFor t x
  by_package p x h = ⊎_elim
      (λ b. by_base p b.0 h.0 x h.1 b.1 b.2)
      (λ b.
      let feature : FeatureTable = b.1.0 in
      let at = b.1.1 in
      let i = b.1.2 in
      let text : Text = i.1.0 in
      by_item (first_node t p + 1 + b.0) p feature.name (item_of text) x
      (record { table = h.0; is_package = h.1; feature = feature; is_feature = element_at_place h.0.features b.0 feature at; name = refl; text = text; is_item = element_at_place feature.items i.0 text i.1.1; says = refl })
      (feature_node t p b.0 h.0 feature h.1 at) i.1.2)
      h.2

  by_declaration : (k j : ℕ) (link : LinkTable) (d : Declared) (x : Key) (u w : ℕ) (asked : LabelName) → IsLink t k link → slice_get link.declarations j ≡ Some d → NodeAt t u link.from (start_of link d) → IsTrue (requests d asked) → NodeAt t w link.to asked → x ≡ key u w Section k j → StandsFor t x
  by_declaration k j link d x u w asked is at nu req nw eq = go d.optional refl
    where
      section_of : (which : LinkDeclarations) (label : LinkTable → LabelName) → IsTrue (includes which d) → start_of link d ≡ label link → IsSection t u w which label (section (over which (requesting asked which) ((k, link) ∷ [])))
      section_of which label counted starts = record {
        k = k;
        link = link;
        is_link = is;
        asked = asked;
        is_requested = list_any_there (requesting asked which) link.declarations j d at (joined_true (includes which d) (requests d asked) counted req);
        from_node = subst (λ z. NodeAt t u link.from z) starts nu;
        to_node = nw;
        is_edge = refl;
      }

      go : (b : Bool) → d.optional ≡ b → StandsFor t x
      go true e = stands t u w Section k j (section (over Optional (requesting asked Optional) ((k, link) ∷ []))) x eq (of_optional (section_of Optional (λ l. optional l.name) e (optional_start link d e))) refl
          (record { which = Optional; link = link; asked = asked; is_link = is; to_node = nw; start = inr (refl, subst (λ z. NodeAt t u link.from z) (optional_start link d e) nu); is = refl })
      go false e = stands t u w Section k j (section (over Required (requesting asked Required) ((k, link) ∷ []))) x eq (of_required (section_of Required (λ l. base) (not_false d.optional e) (required_start link d (not_false d.optional e)))) refl
          (record { which = Required; link = link; asked = asked; is_link = is; to_node = nw; start = inl (refl, subst (λ z. NodeAt t u link.from z) (required_start link d (not_false d.optional e)) nu); is = refl })

  by_link : (k : ℕ) (x : Key) → IsOfLinkAt t k x → StandsFor t x
  by_link k x h =
      let d = h.2.1 in
      let asked = d.2.2 in
      by_declaration k h.2.0 h.0 d.0 x d.2.0 asked.2.0 asked.0 h.1 d.1 d.2.1 asked.1 asked.2.1 asked.2.2

  -- each key represents a candidate
  pub stands_for : (x : Key) → IsOfTables t x → StandsFor t x
  stands_for x h = ⊎_elim (λ i. by_package i.0 x i.1) (λ i. by_link i.0 x i.1) h
