-- The links of the tables of entries are the entries' dependencies.
use Rattle.std.proofs.Common.{◌≡◌, ⊎_elim, ℕ, zero, suc, ◌+◌, ◌<◌, List, [], ◌∷◌, ◌++◌, Bool, false, Option, None, Some, Ok, length, map, refl, ap, sym, ◌∙◌, subst, arith, append_assoc, length-append, bytes_eq}
use Rattle.std.specs.Prelude.{Contains, slice_get}
use Rattle.std.specs.Cmp.Lexicographic.{bytes_decides}
use Rattle.std.specs.Fmt.{decimal}
use Rattle.std.specs.List.{cons_option, list_any}
use Rattle.std.specs.Option.{option_map}
use Rattle.std.proofs.lemmas.List.{append-nil}
use Rattle.std.proofs.lemmas.List.Elements.{Contains-append_cases}
use Rattle.guppy_packages.specs.Graph.{Dependency as GraphDependency, dependencies_of, faults_by, faults_of, first_or, firsts, is_joined, is_package, link_fault, link_of, links_of, owner, package_before, packages_of, row_dependency, row_fault, tables_of}
use Rattle.guppy_packages.specs.Rows.{Declared, RowText, Text, a_package}
use Rattle.guppy_packages.specs.Tables.{AreTables, LinkTable, PackageTable, Tables, package_place}
use Rattle.guppy_packages.specs.declared.row.DependencyKind.TheVariants.{Normal}
use Rattle.guppy_packages.specs.declared.row_error.RowError.{RowError}
use Rattle.guppy_packages.proofs.EachAfter.{after, after-append, each_after-is}
use Rattle.guppy_packages.proofs.Lists.{slice_get-map}
use Rattle.guppy_packages.proofs.Sound.{tables_sound}
use Rattle.cargo_workspaces.specs.Workspaces.{FeatureText}
use Rattle.feature_core.proofs.AddsLemmas.{Contains-first, Contains-later, Contains-cases, Contains-none, element_at_place}
use Rattle.feature_core.proofs.LabelLemmas.{position_there}
use Rattle.feature_core.proofs.PushLemmas.{from_map}
use Rattle.plan_rows.specs.Tables.{Dependency, Entry, dependency_row, entry_rows, feature_row, rows_from, rows_of}
use Rattle.plan_rows.proofs.Sound.{owner-is, packages_of-append}
use Rattle.plan_rows.proofs.RowFaults.{entry_packages, no_packages-append, no_packages-features}
use Rattle.laws.proofs.Members.{from_firsts, number_on}

-- Tables of rows satisfy the rules of tables.

no_first : {X : Type 0} (xs ys : List X) → xs ++ ys ≡ [] → xs ≡ []
no_first [] ys e = refl
no_first (x ∷ xs) ys e = absurd (cc)

no_second : {X : Type 0} (xs ys : List X) → xs ++ ys ≡ [] → ys ≡ []
no_second [] ys e = e
no_second (x ∷ xs) ys e = absurd (cc)

no_fault : {X : Type 0} (faults : List RowError) (x y : X) → first_or faults x ≡ Ok y → (faults ≡ []) × (x ≡ y)
no_fault [] x y e = (refl, cc)
no_fault (f ∷ faults) x y e = absurd (cc)

abbrev tables_in : List RowText → Tables
tables_in rows = record { packages = packages_of rows; links = links_of (dependencies_of (packages_of rows) rows) }

are_those : (rows : List RowText) (t : Tables) → tables_of rows ≡ Ok t → tables_in rows ≡ t
are_those rows t e = (no_fault (faults_of rows) (tables_in rows) t e).1

pub rows_sound : (rows : List RowText) (t : Tables) → tables_of rows ≡ Ok t → AreTables t
rows_sound rows t e =
    let none = no_fault (faults_of rows) (tables_in rows) t e in
    let first : faults_by row_fault rows ≡ [] = no_first (faults_by row_fault rows) (faults_by (link_fault (packages_of rows)) rows) none.0 in
    let second : faults_by (link_fault (packages_of rows)) rows ≡ [] = no_second (faults_by row_fault rows) (faults_by (link_fault (packages_of rows)) rows) none.0 in
    subst AreTables none.1 (tables_sound rows first second)

-- The packages of the rows of entries.

packages_rows : (past : List RowText) (k : ℕ) (es : List Entry) → packages_of (past ++ rows_from k es) ≡ packages_of past ++ packages_of (rows_from k es)
packages_rows past k [] = ap packages_of (append-nil past) ∙ sym (append-nil (packages_of past))
packages_rows past k (e ∷ es) = packages_of-append past ((map feature_row e.features ++ map dependency_row e.dependencies) ++ rows_from (k + 1) es) (decimal k) false

pub packages_step : (k : ℕ) (e : Entry) (es : List Entry) → packages_of (rows_from k (e ∷ es)) ≡ package_before (decimal k) false (map feature_row e.features ++ map dependency_row e.dependencies) ∷ packages_of (rows_from (k + 1) es)
packages_step k e es = packages_rows (entry_rows k e) (k + 1) es ∙ ap (λ z. z ++ packages_of (rows_from (k + 1) es)) (entry_packages [] k e)

-- an entry's package has the entry's number as its id
pub id_at : (k : ℕ) (es : List Entry) (m : ℕ) → m < length es → slice_get (map (λ (p : PackageTable). p.id) (packages_of (rows_from k es))) m ≡ Some (decimal (k + m))
id_at k [] m within = absurd (omega arith)
id_at k (e ∷ es) zero within =
    let first : k + zero ≡ k = omega arith in
    ap (λ ps. slice_get (map (λ (p : PackageTable). p.id) ps) zero) (packages_step k e es) ∙ ap (λ n. Some (decimal n)) (sym first)
id_at k (e ∷ es) (suc m) within =
    let below : m < length es = omega arith in
    ap (λ ps. slice_get (map (λ (p : PackageTable). p.id) ps) (suc m)) (packages_step k e es) ∙ id_at (k + 1) es m below ∙ ap (λ n. Some (decimal n)) (number_on k m)

-- The dependencies of the rows of entries.

-- what a row declares
abbrev pub declared_of : Dependency → Declared
declared_of d = record { kind = Normal; optional = d.optional; platform = None; default_features = d.default_features; features = d.features }

module _ (all : List PackageTable) where
  abbrev pub read : List RowText → RowText → Option GraphDependency
  read = row_dependency all

  features_none : (before : List RowText) (fs : List FeatureText) → after read before (map feature_row fs) ≡ []
  features_none before [] = refl
  features_none before (f ∷ fs) = features_none (before ++ feature_row f ∷ []) fs

  -- the entry's dependency of which a graph's dependency is read
  pub record IsRead (ds : List Dependency) (d : GraphDependency) : Type 0 where
    pub dependency : Dependency
    pub member : Contains ds dependency
    pub place : package_place (decimal dependency.to) all ≡ Some d.to
    pub name : d.name ≡ dependency.name
    pub declared : d.declared ≡ declared_of dependency

  later_read : (x : Dependency) (xs : List Dependency) (d : GraphDependency) → IsRead xs d → IsRead (x ∷ xs) d
  later_read x xs d r = record { dependency = r.dependency; member = Contains-later x xs r.dependency r.member; place = r.place; name = r.name; declared = r.declared }

  module _ (past : List RowText) (id : Text) (w : Bool) where
    dependencies_read : (rows : List RowText) (ds : List Dependency) → list_any is_package rows ≡ false → (d : GraphDependency) → Contains (after read (past ++ a_package id w ∷ rows) (map dependency_row ds)) d → (d.from ≡ length (packages_of past)) × IsRead ds d
    dependencies_read rows [] none d h = absurd (Contains-none d h)
    dependencies_read rows (x ∷ xs) none d h =
        let next : past ++ a_package id w ∷ (rows ++ dependency_row x ∷ []) ≡ (past ++ a_package id w ∷ rows) ++ dependency_row x ∷ [] = sym (append_assoc past (a_package id w ∷ rows) (dependency_row x ∷ [])) in
        go (package_place (decimal x.to) all) refl h
        (λ i. let r = dependencies_read (rows ++ dependency_row x ∷ []) xs (no_packages-append rows (dependency_row x ∷ []) none refl) d (subst (λ z. Contains (after read z (map dependency_row xs)) d) (sym next) i) in (r.0, later_read x xs d r.1))
      where
        go : (o : Option ℕ) → package_place (decimal x.to) all ≡ o
            → Contains (cons_option (option_map (λ to. record { from = owner (past ++ a_package id w ∷ rows); to = to; name = x.name; declared = declared_of x }) o) (after read ((past ++ a_package id w ∷ rows) ++ dependency_row x ∷ []) (map dependency_row xs))) d
            → (Contains (after read ((past ++ a_package id w ∷ rows) ++ dependency_row x ∷ []) (map dependency_row xs)) d → (d.from ≡ length (packages_of past)) × IsRead (x ∷ xs) d)
            → (d.from ≡ length (packages_of past)) × IsRead (x ∷ xs) d
        go None e i more = more i
        go (Some to) e i more = ⊎_elim
            (λ same. (
              sym (ap (λ (z : GraphDependency). z.from) same) ∙ owner-is past rows id w none,
              record {
                dependency = x;
                member = Contains-first x xs;
                place = e ∙ ap (λ (z : GraphDependency). Some z.to) same;
                name = sym (ap (λ (z : GraphDependency). z.name) same);
                declared = sym (ap (λ (z : GraphDependency). z.declared) same);
              },
            ))
            more
            (Contains-cases (record { from = owner (past ++ a_package id w ∷ rows); to = to; name = x.name; declared = declared_of x }) (after read ((past ++ a_package id w ∷ rows) ++ dependency_row x ∷ []) (map dependency_row xs)) d i)

  -- of one entry
  entry_read : (past : List RowText) (k : ℕ) (e : Entry) (d : GraphDependency) → Contains (after read past (entry_rows k e)) d → (d.from ≡ length (packages_of past)) × IsRead e.dependencies d
  entry_read past k e d h =
      let F = map feature_row e.features in
      let D = map dependency_row e.dependencies in
      let begin = past ++ a_package (decimal k) false ∷ [] in
      let cut : after read begin (F ++ D) ≡ after read (begin ++ F) D = after-append read begin F D ∙ ap (λ z. z ++ after read (begin ++ F) D) (features_none begin e.features) in
      let joined : begin ++ F ≡ past ++ a_package (decimal k) false ∷ F = append_assoc past (a_package (decimal k) false ∷ []) F in
      dependencies_read past (decimal k) false F e.dependencies (no_packages-features e.features) d
      (subst (λ z. Contains (after read z D) d) joined (subst (λ z. Contains z d) cut h))

  -- of entries, the first of which has number `k`
  record IsReadFrom (k : ℕ) (es : List Entry) (d : GraphDependency) : Type 0 where
    place : ℕ
    entry : Entry
    there : slice_get es place ≡ Some entry
    from : d.from ≡ k + place
    is_read : IsRead entry.dependencies d

  entries_read : (past : List RowText) (k : ℕ) (es : List Entry) → length (packages_of past) ≡ k → (d : GraphDependency) → Contains (after read past (rows_from k es)) d → IsReadFrom k es d
  entries_read past k [] count d h = absurd (Contains-none d h)
  entries_read past k (e ∷ es) count d h =
      let more : length (packages_of (past ++ entry_rows k e)) ≡ k + 1 = ap length (entry_packages past k e) ∙ length-append (packages_of past) _ ∙ ap (λ n. n + 1) count in
      ⊎_elim
      (λ i. let r = entry_read past k e d i in
      let first : k ≡ k + zero = omega arith in
      record { place = zero; entry = e; there = refl; from = r.0 ∙ count ∙ first; is_read = r.1 })
      (λ i. let r = entries_read (past ++ entry_rows k e) (k + 1) es more d i in
      record { place = suc r.place; entry = r.entry; there = r.there; from = r.from ∙ number_on k r.place; is_read = r.is_read })
      (Contains-append_cases (after read past (entry_rows k e)) (after read (past ++ entry_rows k e) (rows_from (k + 1) es)) d (subst (λ z. Contains z d) (after-append read past (entry_rows k e) (rows_from (k + 1) es)) h))

-- an entry's dependency leads from the one entry to the other
pub record LeadsFrom (es : List Entry) (from to : ℕ) : Type 0 where
  pub entry : Entry
  pub there : slice_get es from ≡ Some entry
  pub dependency : Dependency
  pub member : Contains entry.dependencies dependency
  pub leads : dependency.to ≡ to

-- the entry's dependency of which a graph's dependency is read
pub record IsOfEntry (es : List Entry) (d : GraphDependency) : Type 0 where
  pub entry : Entry
  pub there : slice_get es d.from ≡ Some entry
  pub dependency : Dependency
  pub member : Contains entry.dependencies dependency
  pub leads : dependency.to ≡ d.to
  pub name : d.name ≡ dependency.name
  pub declared : d.declared ≡ declared_of dependency

-- entries whose dependencies lead to entries
abbrev pub AreWithin : List Entry → Type 0
AreWithin es = (m : ℕ) (e : Entry) (d : Dependency) → slice_get es m ≡ Some e → Contains e.dependencies d → d.to < length es

module _ (es : List Entry) (t : Tables) (are : tables_of (rows_of es) ≡ Ok t) (within : AreWithin es) where
  abbrev pub all : List PackageTable
  all = packages_of (rows_of es)

  pub packages_are : all ≡ t.packages
  packages_are = ap (λ (z : Tables). z.packages) (are_those (rows_of es) t are)

  pub links_are : links_of (dependencies_of all (rows_of es)) ≡ t.links
  links_are = ap (λ (z : Tables). z.links) (are_those (rows_of es) t are)

  -- the place of an entry's id is the entry's number
  pub place_is : (n to : ℕ) → n < length es → package_place (decimal n) all ≡ Some to → n ≡ to
  place_is n to below found =
      let q = position_there (λ (p : PackageTable). bytes_eq (decimal n) p.id) to all found in
      let same : decimal n ≡ q.element.id = (bytes_decides (decimal n) q.element.id).0 q.passes in
      let ids = rows_sound (rows_of es) t are in
      let first : slice_get (map (λ (p : PackageTable). p.id) all) n ≡ Some (decimal n) = id_at 0 es n below ∙ ap (λ m. Some (decimal m)) (let plain : 0 + n ≡ n = omega arith in plain) in
      let second : slice_get (map (λ (p : PackageTable). p.id) all) to ≡ Some (decimal n) = slice_get-map (λ (p : PackageTable). p.id) all to q.element q.there ∙ ap Some (sym same) in
      ids.ids n to (decimal n) (subst (λ ps. slice_get (map (λ (p : PackageTable). p.id) ps) n ≡ Some (decimal n)) packages_are first) (subst (λ ps. slice_get (map (λ (p : PackageTable). p.id) ps) to ≡ Some (decimal n)) packages_are second)

  pub dependency_back : (d : GraphDependency) → Contains (dependencies_of all (rows_of es)) d → IsOfEntry es d
  dependency_back d h =
      let r = entries_read all [] 0 es refl d (subst (λ z. Contains z d) (each_after-is (row_dependency all) (rows_of es)) h) in
      let plain : 0 + r.place ≡ r.place = omega arith in
      let from : r.place ≡ d.from = sym (r.from ∙ plain) in
      let there : slice_get es d.from ≡ Some r.entry = subst (λ n. slice_get es n ≡ Some r.entry) from r.there in
      record {
        entry = r.entry;
        there = there;
        dependency = r.is_read.dependency;
        member = r.is_read.member;
        leads = place_is r.is_read.dependency.to d.to (within d.from r.entry r.is_read.dependency there r.is_read.member) r.is_read.place;
        name = r.is_read.name;
        declared = r.is_read.declared;
      }

  pub link_back : (k : ℕ) (l : LinkTable) → slice_get t.links k ≡ Some l → LeadsFrom es l.from l.to
  link_back k l h =
      let deps = dependencies_of all (rows_of es) in
      let listed : Contains (links_of deps) l = subst (λ z. Contains z l) (sym links_are) (element_at_place t.links k l h) in
      let x = from_map (link_of deps) (firsts is_joined deps) l listed in
      let r = dependency_back x.0 (from_firsts is_joined deps x.0 x.1) in
      subst (λ (z : LinkTable). LeadsFrom es z.from z.to) x.2 (record { entry = r.entry; there = r.there; dependency = r.dependency; member = r.member; leads = r.leads })
