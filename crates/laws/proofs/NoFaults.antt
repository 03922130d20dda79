-- Rows by package have no fault.
use Rattle.std.proofs.Common.{◌≡◌, ℕ, ◌+◌, ◌<◌, inl, inr, Bool, true, false, ◌&&◌, ◌||◌, cond, not, List, [], ◌∷◌, ◌++◌, length, map, get_or, Option, None, Some, is_some, refl, ap, sym, ◌∙◌, subst, arith, append_assoc, append-nil, length-append}
use Rattle.std.specs.Prelude.{◌==◌, filter, slice_get}
use Rattle.std.specs.List.{AllByRecursion, cons_option, list_any}
use Rattle.std.specs.Option.{option_map, option_map_or}
use Rattle.std.specs.Str.{bytes_eq}
use Rattle.std.specs.Cmp.Lexicographic.{bytes_decides}
use Rattle.std.proofs.lemmas.Bool.{eqb-true}
use Rattle.std.proofs.lemmas.List.{length-map, map-append}
use Rattle.std.proofs.lemmas.List.Quantifiers.{position-Some}
use Rattle.cargo_workspaces.specs.Workspaces.{FeatureText}
use Rattle.workspace_documents.specs.Dependencies.{DependencyText, name_of}
use Rattle.guppy_packages.specs.Graph.{Dependency, dependencies_of, faults_by, faults_of, firsts, has_other_name, is_joined, link_fault, link_of, links_of, owner, packages_of, row_dependency, row_fault}
use Rattle.guppy_packages.specs.Rows.{Declared, RowText, Text, a_dep, a_feature, a_package}
use Rattle.guppy_packages.specs.Tables.{FeatureTable, LinkTable, PackageTable, has_feature, package_place}
use Rattle.guppy_packages.specs.declared.row_error.RowError.{RowError}
use Rattle.guppy_packages.specs.declared.row_error.RowFault.{RowFault}
use Rattle.guppy_packages.specs.declared.row_error.RowFault.TheVariants.{DuplicateFeature, DuplicatePackage, NoPackage, OtherName, UnknownTarget}
use Rattle.guppy_packages.specs.inner.Steps.{add_name}
use Rattle.guppy_packages.proofs.EachAfter.{after, after-append, each_after-is, each_after-push}
use Rattle.guppy_packages.proofs.Lists.{is_some-position, list_any-map}
use Rattle.guppy_packages.proofs.Sections.{grown, map_last, packages_of-own, packages_of-package, with_rows}
use Rattle.laws.specs.rows.Rows.{declared_of, dependency_row, feature_row}
use Rattle.laws.proofs.Sections.{Agree, Among, AreFresh, IsSound, Section, ids_of, names_of, rows_in, section_rows}

-- ---- the packages of rows

abbrev ids_in : List RowText → List Text
ids_in before = map (λ (p : PackageTable). p.id) (packages_of before)

-- The rows end in those of package `id`: `done` are the ids of the packages before it, and `names` its features so far.
record IsIn (before : List RowText) (done : List Text) (id : Text) (names : List Text) : Type 0 where
  front : List PackageTable
  last : PackageTable
  is : packages_of before ≡ front ++ last ∷ []
  ids : map (λ (p : PackageTable). p.id) front ≡ done
  own : last.id ≡ id
  features : map (λ (f : FeatureTable). f.name) last.features ≡ names

map_last-append : {X : Type 0} (f : X → X) (xs : List X) (x : X) → map_last f (xs ++ x ∷ []) ≡ xs ++ f x ∷ []
map_last-append f [] x = refl
map_last-append f (y ∷ []) x = refl
map_last-append f (y ∷ z ∷ xs) x = ap (λ ys. y ∷ ys) (map_last-append f (z ∷ xs) x)

at_end : {X : Type 0} (xs : List X) (x : X) → slice_get (xs ++ x ∷ []) (length xs) ≡ Some x
at_end [] x = refl
at_end (y ∷ xs) x = at_end xs x

begun : (before : List RowText) (done : List Text) (id : Text) (w : Bool) → ids_in before ≡ done → IsIn (before ++ a_package id w ∷ []) done id []
begun before done id w e = record { front = packages_of before; last = with_rows id w []; is = packages_of-package before id w; ids = e; own = refl; features = refl }

kept_id : (name : Text) (b : Bool) (p : PackageTable) → (add_name name b p).id ≡ p.id
kept_id name true p = refl
kept_id name false p = refl

kept_features : (name : Text) (b : Bool) (p : PackageTable) → (add_name name b p).features ≡ p.features
kept_features name true p = refl
kept_features name false p = refl

module _ {before : List RowText} {done : List Text} {id : Text} {names : List Text} (i : IsIn before done id names) where
  with_feature : (name : Text) (items : List Text) → IsIn (before ++ a_feature name items ∷ []) done id (names ++ name ∷ [])
  with_feature name items = record {
    front = i.front;
    last = grown (a_feature name items) i.last;
    is = packages_of-own before (a_feature name items) refl ∙ ap (map_last (grown (a_feature name items))) i.is ∙ map_last-append (grown (a_feature name items)) i.front i.last;
    ids = i.ids;
    own = i.own;
    features = map-append (λ (f : FeatureTable). f.name) i.last.features (record { name = name; items = items } ∷ []) ∙ ap (λ z. z ++ name ∷ []) i.features;
  }

  with_dep : (name target : Text) (d : Declared) → IsIn (before ++ a_dep name target d ∷ []) done id names
  with_dep name target d = record {
    front = i.front;
    last = grown (a_dep name target d) i.last;
    is = packages_of-own before (a_dep name target d) refl ∙ ap (map_last (grown (a_dep name target d))) i.is ∙ map_last-append (grown (a_dep name target d)) i.front i.last;
    ids = i.ids;
    own = kept_id name d.optional i.last ∙ i.own;
    features = ap (map (λ (f : FeatureTable). f.name)) (kept_features name d.optional i.last) ∙ i.features;
  }

  ended : ids_in before ≡ done ++ id ∷ []
  ended =
      ap (map (λ (p : PackageTable). p.id)) i.is ∙ map-append (λ (p : PackageTable). p.id) i.front (i.last ∷ [])
      ∙ ap (λ z. z ++ i.last.id ∷ []) i.ids ∙ ap (λ z. done ++ z ∷ []) i.own

  owner_is : owner before ≡ length i.front
  owner_is =
      let long = ap length i.is in
      let more = length-append i.front (i.last ∷ []) in
      omega (arith, long, more)

  owner_count : owner before ≡ length done
  owner_count = owner_is ∙ sym (length-map i.front (λ (p : PackageTable). p.id)) ∙ ap length i.ids

  owned : slice_get (packages_of before) (owner before) ≡ Some i.last
  owned = ap (λ z. slice_get z (owner before)) i.is ∙ ap (slice_get (i.front ++ i.last ∷ [])) owner_is ∙ at_end i.front i.last

  no_feature_fault : (name : Text) (items : List Text) → list_any (bytes_eq name) names ≡ false → row_fault before (a_feature name items) ≡ None
  no_feature_fault name items fresh =
      let has : has_feature name i.last.features ≡ false = sym (list_any-map (λ (f : FeatureTable). f.name) (bytes_eq name) i.last.features) ∙ ap (list_any (bytes_eq name)) i.features ∙ fresh in
      ap (λ o. option_map_or (λ (p : PackageTable). cond (has_feature name p.features) (Some DuplicateFeature) None) o (Some NoPackage)) owned
      ∙ ap (λ b. cond b (Some DuplicateFeature) None) has

  no_dep_fault : (name target : Text) (d : Declared) → row_fault before (a_dep name target d) ≡ None
  no_dep_fault name target d = ap (λ o. option_map_or (λ (p : PackageTable). None) o (Some NoPackage)) owned

no_package_fault : (before : List RowText) (done : List Text) (id : Text) (w : Bool) → ids_in before ≡ done → list_any (bytes_eq id) done ≡ false → row_fault before (a_package id w) ≡ None
no_package_fault before done id w e fresh =
    let any : list_any (λ (p : PackageTable). bytes_eq id p.id) (packages_of before) ≡ false = sym (list_any-map (λ (p : PackageTable). p.id) (bytes_eq id) (packages_of before)) ∙ ap (list_any (bytes_eq id)) e ∙ fresh in
    ap (λ b. cond b (Some DuplicatePackage) None) any

-- ---- faults of rows by themselves

abbrev told : (List RowText → RowText → Option RowFault) → List RowText → RowText → Option RowError
told fault before row = option_map (λ f. record { row = length before; fault = f }) (fault before row)

no_fault_first : (fault : List RowText → RowText → Option RowFault) (before : List RowText) (row : RowText) (rows : List RowText) → fault before row ≡ None → after (told fault) (before ++ row ∷ []) rows ≡ [] → after (told fault) before (row ∷ rows) ≡ []
no_fault_first fault before row rows e h = ap (λ o. cons_option (option_map (λ f. record { row = length before; fault = f }) o) (after (told fault) (before ++ row ∷ []) rows)) e ∙ h

no_fault_both : (fault : List RowText → RowText → Option RowFault) (before xs ys : List RowText) → after (told fault) before xs ≡ [] → after (told fault) (before ++ xs) ys ≡ [] → after (told fault) before (xs ++ ys) ≡ []
no_fault_both fault before xs ys p q = after-append (told fault) before xs ys ∙ ap (λ z. z ++ after (told fault) (before ++ xs) ys) p ∙ q

-- Rows of a package have no fault, and the package is as it was but for its features.
record Passes (before rows : List RowText) (done : List Text) (id : Text) : Type 0 where
  faults : after (told row_fault) before rows ≡ []
  names : List Text
  state : IsIn (before ++ rows) done id names

none_passes : {before : List RowText} {done : List Text} {id : Text} {names : List Text} → IsIn before done id names → Passes before [] done id
none_passes {before} {done} {id} {names} i = record { faults = refl; names = names; state = subst (λ z. IsIn z done id names) (sym (append-nil before)) i }

first_passes : (before : List RowText) (row : RowText) (rows : List RowText) (done : List Text) (id : Text) → row_fault before row ≡ None → Passes (before ++ row ∷ []) rows done id → Passes before (row ∷ rows) done id
first_passes before row rows done id e p = record {
  faults = no_fault_first row_fault before row rows e p.faults;
  names = p.names;
  state = subst (λ z. IsIn z done id p.names) (append_assoc before (row ∷ []) rows) p.state;
}

features_pass : (before : List RowText) (done : List Text) (id : Text) (names : List Text) (fs : List FeatureText) → IsIn before done id names → AreFresh names (names_of fs) → Passes before (map feature_row fs) done id
features_pass before done id names [] i fresh = none_passes i
features_pass before done id names (f ∷ fs) i fresh =
    first_passes before (feature_row f) (map feature_row fs) done id (no_feature_fault i f.name f.items fresh.0)
    (features_pass (before ++ feature_row f ∷ []) done id (names ++ f.name ∷ []) fs (with_feature i f.name f.items) fresh.1)

deps_pass : (before : List RowText) (done : List Text) (id : Text) (names : List Text) (es : List DependencyText) → IsIn before done id names → Passes before (map dependency_row es) done id
deps_pass before done id names [] i = none_passes i
deps_pass before done id names (e ∷ es) i =
    first_passes before (dependency_row e) (map dependency_row es) done id (no_dep_fault i (name_of e.declaration) e.target.id (declared_of e))
    (deps_pass (before ++ dependency_row e ∷ []) done id names es (with_dep i (name_of e.declaration) e.target.id (declared_of e)))

-- The rows of sections have no fault by themselves.
record AllPass (before rows : List RowText) (ids : List Text) : Type 0 where
  faults : after (told row_fault) before rows ≡ []
  state : ids_in (before ++ rows) ≡ ids

section_passes : (before : List RowText) (done : List Text) (s : Section) → ids_in before ≡ done → list_any (bytes_eq s.text.id) done ≡ false → AreFresh [] (names_of s.text.features) → AllPass before (section_rows s) (done ++ s.text.id ∷ [])
section_passes before done s e fresh names =
    let own : RowText = a_package s.text.id s.is_member in
    let fs : List RowText = map feature_row s.text.features in
    let ds : List RowText = map dependency_row s.es in
    let one = features_pass (before ++ own ∷ []) done s.text.id [] s.text.features (begun before done s.text.id s.is_member e) names in
    let two = deps_pass ((before ++ own ∷ []) ++ fs) done s.text.id one.names s.es one.state in
    record {
      faults = no_fault_first row_fault before own (fs ++ ds) (no_package_fault before done s.text.id s.is_member e fresh) (no_fault_both row_fault (before ++ own ∷ []) fs ds one.faults two.faults);
      state = ap ids_in (sym (append_assoc before (own ∷ []) (fs ++ ds)) ∙ sym (append_assoc (before ++ own ∷ []) fs ds)) ∙ ended two.state;
    }

all_pass : (before : List RowText) (done : List Text) (sections : List Section) (ids : List Text) → ids_in before ≡ done → AreFresh done (ids_of sections) → AllByRecursion (IsSound ids) sections → AllPass before (rows_in sections) (done ++ ids_of sections)
all_pass before done [] ids e fresh sound = record { faults = refl; state = ap ids_in (append-nil before) ∙ e ∙ sym (append-nil done) }
all_pass before done (s ∷ sections) ids e fresh sound =
    let one = section_passes before done s e fresh.0 sound.0.names in
    let rest = all_pass (before ++ section_rows s) (done ++ s.text.id ∷ []) sections ids one.state fresh.1 sound.1 in
    record {
      faults = no_fault_both row_fault before (section_rows s) (rows_in sections) one.faults rest.faults;
      state = ap ids_in (sym (append_assoc before (section_rows s) (rows_in sections))) ∙ rest.state ∙ append_assoc done (s.text.id ∷ []) (ids_of sections);
    }

-- ---- faults among all packages

all_of_both : {X : Type 0} (P : X → Type 0) (xs ys : List X) → AllByRecursion P xs → AllByRecursion P ys → AllByRecursion P (xs ++ ys)
all_of_both P [] ys a b = b
all_of_both P (x ∷ xs) ys a b = (a.0, all_of_both P xs ys a.1 b)

all_weaker : {X : Type 0} (P Q : X → Type 0) (xs : List X) → ((x : X) → P x → Q x) → AllByRecursion P xs → AllByRecursion Q xs
all_weaker P Q [] f a = tt
all_weaker P Q (x ∷ xs) f a = (f x a.0, all_weaker P Q xs f a.1)

all_kept : {X : Type 0} (P : X → Type 0) (p : X → Bool) (xs : List X) → AllByRecursion P xs → AllByRecursion P (filter p xs)
all_kept P p [] a = tt
all_kept P p (x ∷ xs) a = go (p x) (all_kept P p xs a.1)
  where
    go : (b : Bool) → AllByRecursion P (filter p xs) → AllByRecursion P (cond b (x ∷ filter p xs) (filter p xs))
    go true rest = (a.0, rest)
    go false rest = rest

all_firsts : {X : Type 0} (P : X → Type 0) (like : X → X → Bool) (xs : List X) → AllByRecursion P xs → AllByRecursion P (firsts like xs)
all_firsts P like [] a = tt
all_firsts P like (x ∷ xs) a = (a.0, all_kept P (λ y. not (like y x)) (firsts like xs) (all_firsts P like xs a.1))

neither : (a b : Bool) → a ≡ false → b ≡ false → a || b ≡ false
neither true b e f = e
neither false b e f = f

none_any : {X : Type 0} (p : X → Bool) (xs : List X) → AllByRecursion (λ x. p x ≡ false) xs → list_any p xs ≡ false
none_any p [] a = refl
none_any p (x ∷ xs) a = neither (p x) (list_any p xs) a.0 (none_any p xs a.1)

third : (x y z : Bool) → (x ≡ true → y ≡ true → z ≡ false) → x && y && z ≡ false
third false y z h = refl
third true false z h = refl
third true true z h = h refl refl

bytes_same : (a b : Text) → a ≡ b → bytes_eq a b ≡ true
bytes_same a b e = (bytes_decides a b).1 e

no_table : PackageTable
no_table = record { id = []; in_workspace = false; features = []; optional_names = [] }

module _ (packages : List PackageTable) where
  one_target : (a b : Text) (k : ℕ) → package_place a packages ≡ Some k → package_place b packages ≡ Some k → a ≡ b
  one_target a b k p q =
      let one = position-Some (λ (t : PackageTable). bytes_eq a t.id) packages k no_table p in
      let other = position-Some (λ (t : PackageTable). bytes_eq b t.id) packages k no_table q in
      (bytes_decides a (get_or packages k no_table).id).0 one.1 ∙ sym ((bytes_decides b (get_or packages k no_table).id).0 other.1)

  abbrev Placed : DependencyText → Type 0
  Placed e = (to : ℕ) × (package_place e.target.id packages ≡ Some to)

  abbrev IsOf : List DependencyText → Dependency → Type 0
  IsOf es d = (e : DependencyText) × Among e es × (d.name ≡ name_of e.declaration) × (package_place e.target.id packages ≡ Some d.to)

  -- The dependencies of the rows: those of packages before number `count`, and those of declarations of `es`.
  record AreLinked (before : List RowText) (count : ℕ) (es : List DependencyText) : Type 0 where
    front : List Dependency
    own : List Dependency
    is : dependencies_of packages before ≡ front ++ own
    low : AllByRecursion (λ (d : Dependency). d.from < count) front
    mine : AllByRecursion (λ (d : Dependency). (d.from ≡ count) × IsOf es d) own

  abbrev AreLow : List RowText → ℕ → Type 0
  AreLow before count = AllByRecursion (λ (d : Dependency). d.from < count) (dependencies_of packages before)

  linked_package : (before : List RowText) (count : ℕ) (es : List DependencyText) (id : Text) (w : Bool) → AreLow before count → AreLinked (before ++ a_package id w ∷ []) count es
  linked_package before count es id w low = record { front = dependencies_of packages before; own = []; is = each_after-push (row_dependency packages) before (a_package id w); low = low; mine = tt }

  linked_feature : (before : List RowText) (count : ℕ) (es : List DependencyText) (name : Text) (items : List Text) → AreLinked before count es → AreLinked (before ++ a_feature name items ∷ []) count es
  linked_feature before count es name items l = record { front = l.front; own = l.own; is = each_after-push (row_dependency packages) before (a_feature name items) ∙ append-nil (dependencies_of packages before) ∙ l.is; low = l.low; mine = l.mine }

  abbrev joined_to : List RowText → DependencyText → ℕ → Dependency
  joined_to before e to = record { from = owner before; to = to; name = name_of e.declaration; declared = declared_of e }

  linked_dep : (before : List RowText) (count : ℕ) (es : List DependencyText) (e : DependencyText) (to : ℕ) → owner before ≡ count → Among e es → package_place e.target.id packages ≡ Some to → AreLinked before count es → AreLinked (before ++ dependency_row e ∷ []) count es
  linked_dep before count es e to at among place l = record {
    front = l.front;
    own = l.own ++ joined_to before e to ∷ [];
    is =
        each_after-push (row_dependency packages) before (dependency_row e)
        ∙ ap (λ o. dependencies_of packages before ++ cons_option (option_map (joined_to before e) o) []) place
        ∙ ap (λ z. z ++ joined_to before e to ∷ []) l.is
        ∙ append_assoc l.front l.own (joined_to before e to ∷ []);
    low = l.low;
    mine = all_of_both (λ (d : Dependency). (d.from ≡ count) × IsOf es d) l.own (joined_to before e to ∷ []) l.mine ((at, (e, among, refl, place)), tt);
  }

  ended_low : (before : List RowText) (count : ℕ) (es : List DependencyText) → AreLinked before count es → AreLow before (count + 1)
  ended_low before count es l =
      subst (AllByRecursion (λ (d : Dependency). d.from < count + 1)) (sym l.is)
      (all_of_both (λ (d : Dependency). d.from < count + 1) l.front l.own
      (all_weaker (λ (d : Dependency). d.from < count) (λ (d : Dependency). d.from < count + 1) l.front (λ d h. omega (arith, h)) l.low)
      (all_weaker (λ (d : Dependency). (d.from ≡ count) × IsOf es d) (λ (d : Dependency). d.from < count + 1) l.own (λ d h. let same = h.0 in omega (arith, same)) l.mine))

  -- Whether a dependency joins the pair under another name.
  abbrev is_other : ℕ → ℕ → Text → Dependency → Bool
  is_other from to name d = (from == d.from) && (to == d.to) && not (bytes_eq name d.name)

  no_other_low : (from to count : ℕ) (name : Text) (d : Dependency) → from ≡ count → d.from < count → is_other from to name d ≡ false
  no_other_low from to count name d at low = third (from == d.from) (to == d.to) (not (bytes_eq name d.name)) (λ x y. let same = eqb-true from d.from x in absurd (omega (arith, same, at, low)))

  no_other_own : (from to : ℕ) (es : List DependencyText) (e : DependencyText) (d : Dependency) → Agree es → Among e es → package_place e.target.id packages ≡ Some to → IsOf es d → is_other from to (name_of e.declaration) d ≡ false
  no_other_own from to es e d agree among place (other, there, named, its) =
      third (from == d.from) (to == d.to) (not (bytes_eq (name_of e.declaration) d.name)) (λ x y.
      let same : to ≡ d.to = eqb-true to d.to y in
      let target : e.target.id ≡ other.target.id = one_target e.target.id other.target.id d.to (place ∙ ap Some same) its in
      let name : name_of e.declaration ≡ d.name = agree e other among there target ∙ sym named in
      ap not (bytes_same (name_of e.declaration) d.name name))

  no_link_fault : (before : List RowText) (count : ℕ) (es : List DependencyText) (e : DependencyText) (to : ℕ) → owner before ≡ count → Agree es → Among e es → package_place e.target.id packages ≡ Some to → AreLinked before count es → link_fault packages before (dependency_row e) ≡ None
  no_link_fault before count es e to at agree among place l =
      let all : AllByRecursion (λ (d : Dependency). is_other (owner before) to (name_of e.declaration) d ≡ false) (dependencies_of packages before) =
      subst (AllByRecursion (λ (d : Dependency). is_other (owner before) to (name_of e.declaration) d ≡ false)) (sym l.is)
      (all_of_both (λ (d : Dependency). is_other (owner before) to (name_of e.declaration) d ≡ false) l.front l.own
      (all_weaker (λ (d : Dependency). d.from < count) (λ (d : Dependency). is_other (owner before) to (name_of e.declaration) d ≡ false) l.front (λ d h. no_other_low (owner before) to count (name_of e.declaration) d at h) l.low)
      (all_weaker (λ (d : Dependency). (d.from ≡ count) × IsOf es d) (λ (d : Dependency). is_other (owner before) to (name_of e.declaration) d ≡ false) l.own (λ d h. no_other_own (owner before) to es e d agree among place h.1) l.mine))
      in
      let none : has_other_name (owner before) to (name_of e.declaration) (links_of (dependencies_of packages before)) ≡ false =
      list_any-map (link_of (dependencies_of packages before)) (λ (l : LinkTable). (owner before == l.from) && (to == l.to) && not (bytes_eq (name_of e.declaration) l.name)) (firsts is_joined (dependencies_of packages before))
      ∙ none_any (is_other (owner before) to (name_of e.declaration)) (firsts is_joined (dependencies_of packages before)) (all_firsts (λ (d : Dependency). is_other (owner before) to (name_of e.declaration) d ≡ false) is_joined (dependencies_of packages before) all)
      in
      ap (λ o. option_map_or (λ n. cond (has_other_name (owner before) n (name_of e.declaration) (links_of (dependencies_of packages before))) (Some OtherName) None) o (Some UnknownTarget)) place
      ∙ ap (λ b. cond b (Some OtherName) None) none

  -- Rows of a package have no fault among all packages.
  record Links (before rows : List RowText) (done : List Text) (id : Text) (es : List DependencyText) : Type 0 where
    faults : after (told (link_fault packages)) before rows ≡ []
    names : List Text
    state : IsIn (before ++ rows) done id names
    linked : AreLinked (before ++ rows) (length done) es

  none_links : (before : List RowText) (done : List Text) (id : Text) (names : List Text) (es : List DependencyText) → IsIn before done id names → AreLinked before (length done) es → Links before [] done id es
  none_links before done id names es i l = record {
    faults = refl;
    names = names;
    state = subst (λ z. IsIn z done id names) (sym (append-nil before)) i;
    linked = subst (λ z. AreLinked z (length done) es) (sym (append-nil before)) l;
  }

  first_links : (before : List RowText) (row : RowText) (rows : List RowText) (done : List Text) (id : Text) (es : List DependencyText) → link_fault packages before row ≡ None → Links (before ++ row ∷ []) rows done id es → Links before (row ∷ rows) done id es
  first_links before row rows done id es e p = record {
    faults = no_fault_first (link_fault packages) before row rows e p.faults;
    names = p.names;
    state = subst (λ z. IsIn z done id p.names) (append_assoc before (row ∷ []) rows) p.state;
    linked = subst (λ z. AreLinked z (length done) es) (append_assoc before (row ∷ []) rows) p.linked;
  }

  features_link : (before : List RowText) (done : List Text) (id : Text) (names : List Text) (es : List DependencyText) (fs : List FeatureText) → IsIn before done id names → AreLinked before (length done) es → Links before (map feature_row fs) done id es
  features_link before done id names es [] i l = none_links before done id names es i l
  features_link before done id names es (f ∷ fs) i l =
      first_links before (feature_row f) (map feature_row fs) done id es refl
      (features_link (before ++ feature_row f ∷ []) done id (names ++ f.name ∷ []) es fs (with_feature i f.name f.items) (linked_feature before (length done) es f.name f.items l))

  deps_link : (before : List RowText) (done : List Text) (id : Text) (names : List Text) (all es : List DependencyText) → Agree all → ((e : DependencyText) → Among e es → Among e all) → AllByRecursion Placed es → IsIn before done id names → AreLinked before (length done) all → Links before (map dependency_row es) done id all
  deps_link before done id names all [] agree within placed i l = none_links before done id names all i l
  deps_link before done id names all (e ∷ es) agree within placed i l =
      let among = within e (inl refl) in
      let to = placed.0 in
      first_links before (dependency_row e) (map dependency_row es) done id all (no_link_fault before (length done) all e to.0 (owner_count i) agree among to.1 l)
      (deps_link (before ++ dependency_row e ∷ []) done id names all es agree (λ x h. within x (inr h)) placed.1 (with_dep i (name_of e.declaration) e.target.id (declared_of e)) (linked_dep before (length done) all e to.0 (owner_count i) among to.1 l))

  record AllLink (before rows : List RowText) (ids : List Text) : Type 0 where
    faults : after (told (link_fault packages)) before rows ≡ []
    state : ids_in (before ++ rows) ≡ ids
    low : AreLow (before ++ rows) (length ids)

  section_links : (before : List RowText) (done : List Text) (s : Section) → ids_in before ≡ done → AreLow before (length done) → Agree s.es → AllByRecursion Placed s.es → AllLink before (section_rows s) (done ++ s.text.id ∷ [])
  section_links before done s e low agree placed =
      let own : RowText = a_package s.text.id s.is_member in
      let fs : List RowText = map feature_row s.text.features in
      let ds : List RowText = map dependency_row s.es in
      let one = features_link (before ++ own ∷ []) done s.text.id [] s.es s.text.features (begun before done s.text.id s.is_member e) (linked_package before (length done) s.es s.text.id s.is_member low) in
      let two = deps_link ((before ++ own ∷ []) ++ fs) done s.text.id one.names s.es s.es agree (λ x h. h) placed one.state one.linked in
      let joined : ((before ++ own ∷ []) ++ fs) ++ ds ≡ before ++ section_rows s = append_assoc (before ++ own ∷ []) fs ds ∙ append_assoc before (own ∷ []) (fs ++ ds) in
      let long : length done + 1 ≡ length (done ++ s.text.id ∷ []) = sym (length-append done (s.text.id ∷ [])) in
      record {
        faults = no_fault_first (link_fault packages) before own (fs ++ ds) refl (no_fault_both (link_fault packages) (before ++ own ∷ []) fs ds one.faults two.faults);
        state = ap ids_in (sym joined) ∙ ended two.state;
        low = subst (AreLow (before ++ section_rows s)) long (subst (λ z. AreLow z (length done + 1)) joined (ended_low (((before ++ own ∷ []) ++ fs) ++ ds) (length done) s.es two.linked));
      }

  all_link : (before : List RowText) (done : List Text) (sections : List Section) → ids_in before ≡ done → AreLow before (length done) → AllByRecursion (λ (s : Section). Agree s.es × AllByRecursion Placed s.es) sections → after (told (link_fault packages)) before (rows_in sections) ≡ []
  all_link before done [] e low sound = refl
  all_link before done (s ∷ sections) e low sound =
      let one = section_links before done s e low sound.0.0 sound.0.1 in
      no_fault_both (link_fault packages) before (section_rows s) (rows_in sections) one.faults (all_link (before ++ section_rows s) (done ++ s.text.id ∷ []) sections one.state one.low sound.1)

-- ---- all faults

some_place : {X : Type 0} (o : Option X) → is_some o ≡ true → (x : X) × (o ≡ Some x)
some_place None e = absurd (cc)
some_place (Some x) e = (x, refl)

placed_all : (packages : List PackageTable) (ids : List Text) (es : List DependencyText) → map (λ (p : PackageTable). p.id) packages ≡ ids → AllByRecursion (λ (e : DependencyText). list_any (bytes_eq e.target.id) ids ≡ true) es → AllByRecursion (Placed packages) es
placed_all packages ids es same known = all_weaker (λ (e : DependencyText). list_any (bytes_eq e.target.id) ids ≡ true) (Placed packages) es (λ e h. some_place (package_place e.target.id packages) (is_some-position (λ (p : PackageTable). bytes_eq e.target.id p.id) packages ∙ sym (list_any-map (λ (p : PackageTable). p.id) (bytes_eq e.target.id) packages) ∙ ap (list_any (bytes_eq e.target.id)) same ∙ h)) known

-- rows of sound sections have no fault
pub no_faults : (sections : List Section) → AreFresh [] (ids_of sections) → AllByRecursion (IsSound (ids_of sections)) sections → faults_of (rows_in sections) ≡ []
no_faults sections fresh sound =
    let pass = all_pass [] [] sections (ids_of sections) refl fresh sound in
    let first : faults_by row_fault (rows_in sections) ≡ [] = each_after-is (told row_fault) (rows_in sections) ∙ pass.faults in
    let linked : AllByRecursion (λ (s : Section). Agree s.es × AllByRecursion (Placed (packages_of (rows_in sections))) s.es) sections =
    all_weaker (IsSound (ids_of sections)) (λ (s : Section). Agree s.es × AllByRecursion (Placed (packages_of (rows_in sections))) s.es) sections (λ s x. (x.agree, placed_all (packages_of (rows_in sections)) (ids_of sections) s.es pass.state x.known)) sound
    in
    let second : faults_by (link_fault (packages_of (rows_in sections))) (rows_in sections) ≡ [] =
    each_after-is (told (link_fault (packages_of (rows_in sections)))) (rows_in sections) ∙ all_link (packages_of (rows_in sections)) [] [] sections refl tt linked
    in
    ap (λ z. z ++ faults_by (link_fault (packages_of (rows_in sections))) (rows_in sections)) first ∙ second
