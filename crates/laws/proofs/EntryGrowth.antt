-- Tables of entries that grow.
use Rattle.std.proofs.Common.{◌≡◌, ⊎_elim, ℕ, zero, suc, ◌+◌, ◌<◌, List, [], ◌∷◌, ◌++◌, Bool, true, false, not, Option, None, Some, Ok, length, map, refl, ap, sym, ◌∙◌, subst, arith, append_assoc, length-append, bytes_eq, eq-eqb, take_while}
use Rattle.std.specs.Prelude.{◌==◌, Contains, IsTrue, filter, slice_get}
use Rattle.std.specs.Cmp.Lexicographic.{bytes_decides}
use Rattle.std.specs.Fmt.{decimal}
use Rattle.std.specs.List.{cons_option, filter_map, list_any}
use Rattle.std.specs.Option.{option_map}
use Rattle.std.proofs.lemmas.Bool.{eqb-true}
use Rattle.std.proofs.lemmas.List.Elements.{Contains-append_left, Contains-append_right}
use Rattle.std.proofs.lemmas.List.Sums.{take_while-cons}
use Rattle.std.proofs.lemmas.Option.{slice_get_within}
use Rattle.guppy_packages.specs.Graph.{Dependency as GraphDependency, dependencies_of, firsts, is_joined, is_package, link_of, links_of, owner, package_before, packages_of, row_dependency, row_feature, tables_of}
use Rattle.guppy_packages.specs.Rows.{RowText, Text, a_package}
use Rattle.guppy_packages.specs.Tables.{FeatureTable, LinkTable, PackageTable, Tables, package_place}
use Rattle.guppy_packages.proofs.EachAfter.{after, after-append, each_after-is}
use Rattle.guppy_packages.proofs.Firsts.{list_any-firsts}
use Rattle.guppy_packages.proofs.Lists.{slice_get-map}
use Rattle.cargo_workspaces.specs.Workspaces.{FeatureText}
use Rattle.feature_core.proofs.AddsLemmas.{Contains-cases, Contains-first, Contains-later, Contains-none, element_at_place, place_of_element}
use Rattle.feature_core.proofs.LabelLemmas.{position_missing}
use Rattle.feature_core.proofs.NodeLabels.{element_within}
use Rattle.feature_core.proofs.PushLemmas.{from_filter, from_map, into_filter, into_map}
use Rattle.plan_rows.specs.Tables.{Dependency, Entry, dependency_row, entry_rows, feature_row, rows_from, rows_of}
use Rattle.plan_rows.proofs.RowFaults.{entry_packages, no_packages-append, no_packages-features}
use Rattle.plan_rows.proofs.Sound.{owner-is}
use Rattle.laws.specs.plans.Growth.{HasLink, HasMore, IsMoreOf}
use Rattle.laws.proofs.EntryLinks.{AreWithin, declared_of, dependency_back, id_at, links_are, packages_are, packages_step, place_is, read}
use Rattle.laws.proofs.Members.{any_member, both_true, from_firsts, member_any, number_on, same_some}

-- The features of an entry's package.

abbrev feature_of : FeatureText → FeatureTable
feature_of f = record { name = f.name; items = f.items }

none_of : (ds : List Dependency) → filter_map row_feature (take_while (λ row. not (is_package row)) (map dependency_row ds)) ≡ []
none_of [] = refl
none_of (d ∷ ds) = ap (filter_map row_feature) (take_while-cons (λ row. not (is_package row)) (dependency_row d) (map dependency_row ds)) ∙ none_of ds

features_of : (fs : List FeatureText) (ds : List Dependency) → filter_map row_feature (take_while (λ row. not (is_package row)) (map feature_row fs ++ map dependency_row ds)) ≡ map feature_of fs
features_of [] ds = none_of ds
features_of (f ∷ fs) ds =
    ap (filter_map row_feature) (take_while-cons (λ row. not (is_package row)) (feature_row f) (map feature_row fs ++ map dependency_row ds)) ∙ ap (λ z. feature_of f ∷ z) (features_of fs ds)

abbrev package_of : ℕ → Entry → PackageTable
package_of k e = package_before (decimal k) false (map feature_row e.features ++ map dependency_row e.dependencies)

package_at : (k : ℕ) (es : List Entry) (m : ℕ) (e : Entry) → slice_get es m ≡ Some e → slice_get (packages_of (rows_from k es)) m ≡ Some (package_of (k + m) e)
package_at k [] m e h = absurd (cc)
package_at k (x ∷ es) zero e h =
    let first : k + zero ≡ k = omega arith in
    ap (λ ps. slice_get ps zero) (packages_step k x es) ∙ ap (λ z. Some (package_of k z)) (same_some x e h) ∙ ap (λ n. Some (package_of n e)) (sym first)
package_at k (x ∷ es) (suc m) e h =
    ap (λ ps. slice_get ps (suc m)) (packages_step k x es) ∙ package_at (k + 1) es m e h ∙ ap (λ n. Some (package_of n e)) (number_on k m)

packages_long : (k : ℕ) (es : List Entry) → length (packages_of (rows_from k es)) ≡ length es
packages_long k [] = refl
packages_long k (e ∷ es) = ap length (packages_step k e es) ∙ ap suc (packages_long (k + 1) es)

-- The dependencies of an entry are read.

abbrev read_as : ℕ → Dependency → GraphDependency
read_as from d = record { from = from; to = d.to; name = d.name; declared = declared_of d }

later_some : {Y : Type 0} (o : Option Y) (y : Y) (ys : List Y) → Contains ys y → Contains (cons_option o ys) y
later_some None y ys h = h
later_some (Some z) y ys h = Contains-later z ys y h

module _ (all : List PackageTable) where
  module _ (past : List RowText) (id : Text) (w : Bool) where
    dependencies_into : (rows : List RowText) (ds : List Dependency) → list_any is_package rows ≡ false → (d : Dependency) → Contains ds d → package_place (decimal d.to) all ≡ Some d.to → Contains (after (read all) (past ++ a_package id w ∷ rows) (map dependency_row ds)) (read_as (length (packages_of past)) d)
    dependencies_into rows [] none d h place = absurd (Contains-none d h)
    dependencies_into rows (x ∷ xs) none d h place =
        let next : past ++ a_package id w ∷ (rows ++ dependency_row x ∷ []) ≡ (past ++ a_package id w ∷ rows) ++ dependency_row x ∷ [] = sym (append_assoc past (a_package id w ∷ rows) (dependency_row x ∷ [])) in
        ⊎_elim
        (λ same. subst (λ z. Contains (after (read all) (past ++ a_package id w ∷ rows) (map dependency_row (x ∷ xs))) (read_as (length (packages_of past)) z)) same
        (here (package_place (decimal x.to) all) (subst (λ (z : Dependency). package_place (decimal z.to) all ≡ Some z.to) (sym same) place)))
        (λ i. later_some (row_dependency all (past ++ a_package id w ∷ rows) (dependency_row x)) (read_as (length (packages_of past)) d) (after (read all) ((past ++ a_package id w ∷ rows) ++ dependency_row x ∷ []) (map dependency_row xs))
        (subst (λ z. Contains (after (read all) z (map dependency_row xs)) (read_as (length (packages_of past)) d)) next (dependencies_into (rows ++ dependency_row x ∷ []) xs (no_packages-append rows (dependency_row x ∷ []) none refl) d i place)))
        (Contains-cases x xs d h)
      where
        here : (o : Option ℕ) → o ≡ Some x.to → Contains (cons_option (option_map (λ to. record { from = owner (past ++ a_package id w ∷ rows); to = to; name = x.name; declared = declared_of x }) o) (after (read all) ((past ++ a_package id w ∷ rows) ++ dependency_row x ∷ []) (map dependency_row xs))) (read_as (length (packages_of past)) x)
        here None e = absurd (cc)
        here (Some to) e =
            let rest = after (read all) ((past ++ a_package id w ∷ rows) ++ dependency_row x ∷ []) (map dependency_row xs) in
            let first : ℕ → ℕ → GraphDependency = λ from to. record { from = from; to = to; name = x.name; declared = declared_of x } in
            let number = owner-is past rows id w none in
            let same : first (owner (past ++ a_package id w ∷ rows)) to ≡ first (length (packages_of past)) x.to = ap (λ z. first z to) number ∙ ap (first (length (packages_of past))) (same_some to x.to e) in
            subst (λ z. Contains (first (owner (past ++ a_package id w ∷ rows)) to ∷ rest) z) same (Contains-first (first (owner (past ++ a_package id w ∷ rows)) to) rest)

  entry_into : (past : List RowText) (k : ℕ) (e : Entry) (d : Dependency) → Contains e.dependencies d → package_place (decimal d.to) all ≡ Some d.to → Contains (after (read all) past (entry_rows k e)) (read_as (length (packages_of past)) d)
  entry_into past k e d h place =
      let F = map feature_row e.features in
      let D = map dependency_row e.dependencies in
      let begin = past ++ a_package (decimal k) false ∷ [] in
      let joined : begin ++ F ≡ past ++ a_package (decimal k) false ∷ F = append_assoc past (a_package (decimal k) false ∷ []) F in
      let there = dependencies_into past (decimal k) false F e.dependencies (no_packages-features e.features) d h place in
      subst (λ z. Contains z (read_as (length (packages_of past)) d)) (sym (after-append (read all) begin F D))
      (Contains-append_right (after (read all) begin F) (after (read all) (begin ++ F) D) (read_as (length (packages_of past)) d) (subst (λ z. Contains (after (read all) z D) (read_as (length (packages_of past)) d)) (sym joined) there))

  entries_into : (past : List RowText) (k : ℕ) (es : List Entry) → length (packages_of past) ≡ k → (m : ℕ) (e : Entry) (d : Dependency) → slice_get es m ≡ Some e → Contains e.dependencies d → package_place (decimal d.to) all ≡ Some d.to → Contains (after (read all) past (rows_from k es)) (read_as (k + m) d)
  entries_into past k [] count m e d at h place = absurd (cc)
  entries_into past k (x ∷ es) count zero e d at h place =
      let same : x ≡ e = same_some x e at in
      let first : length (packages_of past) ≡ k + zero = omega (arith, count) in
      subst (λ z. Contains z (read_as (k + zero) d)) (sym (after-append (read all) past (entry_rows k x) (rows_from (k + 1) es)))
      (Contains-append_left (after (read all) past (entry_rows k x)) (after (read all) (past ++ entry_rows k x) (rows_from (k + 1) es)) (read_as (k + zero) d)
      (subst (λ n. Contains (after (read all) past (entry_rows k x)) (read_as n d)) first (entry_into past k x d (subst (λ (z : Entry). Contains z.dependencies d) (sym same) h) place)))
  entries_into past k (x ∷ es) count (suc m) e d at h place =
      let more : length (packages_of (past ++ entry_rows k x)) ≡ k + 1 = ap length (entry_packages past k x) ∙ length-append (packages_of past) _ ∙ ap (λ n. n + 1) count in
      subst (λ z. Contains z (read_as (k + suc m) d)) (sym (after-append (read all) past (entry_rows k x) (rows_from (k + 1) es)))
      (Contains-append_right (after (read all) past (entry_rows k x)) (after (read all) (past ++ entry_rows k x) (rows_from (k + 1) es)) (read_as (k + suc m) d)
      (subst (λ n. Contains (after (read all) (past ++ entry_rows k x) (rows_from (k + 1) es)) (read_as n d)) (number_on k m) (entries_into (past ++ entry_rows k x) (k + 1) es more m e d at h place)))

-- The dependency, which leads to the entry with this number.
abbrev pub renumbered : (ℕ → ℕ) → Dependency → Dependency
renumbered number d = record { name = d.name; to = number d.to; optional = d.optional; default_features = d.default_features; features = d.features }

-- What an entry has, the other has too, where `number` is the number of each entry there.
pub record IsMoreEntry (number : ℕ → ℕ) (e f : Entry) : Type 0 where
  pub features : (x : FeatureText) → Contains e.features x → (y : FeatureText) × Contains f.features y × (y.name ≡ x.name) × ((i : Text) → Contains x.items i → Contains y.items i)
  pub dependencies : (d : Dependency) → Contains e.dependencies d → Contains f.dependencies (renumbered number d)

-- Dependencies of one entry on one entry have one name.
abbrev pub HasOneName : Entry → Type 0
HasOneName e = (c d : Dependency) → Contains e.dependencies c → Contains e.dependencies d → c.to ≡ d.to → c.name ≡ d.name

-- Entries of a set have more in the second list, where `number` is the number of each of them. No dependency leads out of the set.
pub record HaveMore (es fs : List Entry) (R : ℕ → Bool) (number : ℕ → ℕ) : Type 0 where
  pub entries : (m : ℕ) (e : Entry) → IsTrue (R m) → slice_get es m ≡ Some e → (f : Entry) × (slice_get fs (number m) ≡ Some f) × IsMoreEntry number e f
  pub stays : (m : ℕ) (e : Entry) (d : Dependency) → IsTrue (R m) → slice_get es m ≡ Some e → Contains e.dependencies d → IsTrue (R d.to)
  pub names : (m : ℕ) (f : Entry) → IsTrue (R m) → slice_get fs (number m) ≡ Some f → HasOneName f

joined_is : (c d : GraphDependency) → is_joined c d ≡ true → (c.from ≡ d.from) × (c.to ≡ d.to)
joined_is c d h = let parts = both_true (c.from == d.from) (c.to == d.to) h in (eqb-true c.from d.from parts.0, eqb-true c.to d.to parts.1)

is_joined-of : (c d : GraphDependency) → c.from ≡ d.from → c.to ≡ d.to → is_joined c d ≡ true
is_joined-of c d x y = rw (eq-eqb c.from d.from x, eq-eqb c.to d.to y) refl

joined_along : (b c d : GraphDependency) → is_joined b c ≡ true → is_joined c d ≡ true → is_joined b d ≡ true
joined_along b c d x y =
    let p = joined_is b c x in
    let q = joined_is c d y in
    is_joined-of b d (p.0 ∙ q.0) (p.1 ∙ q.1)

module _ (es fs : List Entry) (t s : Tables) (is_t : tables_of (rows_of es) ≡ Ok t) (is_s : tables_of (rows_of fs) ≡ Ok s) (within_t : AreWithin es) (within_s : AreWithin fs) (R : ℕ → Bool) (number : ℕ → ℕ) (more : HaveMore es fs R number) where
  abbrev all_t : List PackageTable
  all_t = packages_of (rows_of es)

  abbrev all_s : List PackageTable
  all_s = packages_of (rows_of fs)

  abbrev deps_t : List GraphDependency
  deps_t = dependencies_of all_t (rows_of es)

  abbrev deps_s : List GraphDependency
  deps_s = dependencies_of all_s (rows_of fs)

  plain : (n : ℕ) → 0 + n ≡ n
  plain n = omega arith

  -- Packages.

  entry_there : (m : ℕ) (x : PackageTable) → slice_get t.packages m ≡ Some x → (e : Entry) × (slice_get es m ≡ Some e) × (x.features ≡ map feature_of e.features)
  entry_there m x h =
      let below : m < length t.packages = slice_get_within t.packages m x h in
      let long : length t.packages ≡ length es = ap length (sym (packages_are es t is_t within_t)) ∙ packages_long 0 es in
      let e = element_within es m (subst (λ z. m < z) long below) in
      let at : slice_get t.packages m ≡ Some (package_of (0 + m) e.0) = ap (λ ps. slice_get ps m) (sym (packages_are es t is_t within_t)) ∙ package_at 0 es m e.0 e.1 in
      let same : x ≡ package_of (0 + m) e.0 = same_some x (package_of (0 + m) e.0) (sym h ∙ at) in
      (e.0, e.1, ap (λ (z : PackageTable). z.features) same ∙ features_of e.0.features e.0.dependencies)

  packages_more : (p : ℕ) (x : PackageTable) → IsTrue (R p) → slice_get t.packages p ≡ Some x → (y : PackageTable) × (slice_get s.packages (number p) ≡ Some y) × IsMoreOf x y
  packages_more p x r h =
      let e = entry_there p x h in
      let f = more.entries p e.0 r e.1 in
      let at : slice_get s.packages (number p) ≡ Some (package_of (0 + number p) f.0) = ap (λ ps. slice_get ps (number p)) (sym (packages_are fs s is_s within_s)) ∙ package_at 0 fs (number p) f.0 f.1 in (
        package_of (0 + number p) f.0,
        at,
        record {
          features = λ g c.
              let m = from_map feature_of e.0.features g (subst (λ z. Contains z g) e.2 c) in
              let y = f.2.features m.0 m.1 in (
                feature_of y.0,
                subst (λ z. Contains z (feature_of y.0)) (sym (features_of f.0.features f.0.dependencies)) (into_map feature_of f.0.features y.0 y.1),
                y.2 ∙ ap (λ (z : FeatureTable). z.name) m.2,
                λ i k. y.3 i (subst (λ (z : FeatureTable). Contains z.items i) (sym m.2) k),
              );
        },
      )

  -- Links.

  found_at : (n : ℕ) → n < length fs → package_place (decimal n) all_s ≡ Some n
  found_at n below = go (package_place (decimal n) all_s) refl
    where
      go : (o : Option ℕ) → package_place (decimal n) all_s ≡ o → package_place (decimal n) all_s ≡ Some n
      go None e =
          let x = element_within all_s n (subst (λ z. n < z) (sym (packages_long 0 fs)) below) in
          let id : slice_get (map (λ (p : PackageTable). p.id) all_s) n ≡ Some (decimal (0 + n)) = id_at 0 fs n below in
          let other : slice_get (map (λ (p : PackageTable). p.id) all_s) n ≡ Some x.0.id = slice_get-map (λ (p : PackageTable). p.id) all_s n x.0 x.1 in
          let same : decimal n ≡ x.0.id = ap decimal (sym (plain n)) ∙ same_some (decimal (0 + n)) x.0.id (sym id ∙ other) in
          absurd (position_missing (λ (p : PackageTable). bytes_eq (decimal n) p.id) n all_s x.0 e x.1 ((bytes_decides (decimal n) x.0.id).1 same))
      go (Some j) e = let same : n ≡ j = place_is fs s is_s within_s n j below e in e ∙ ap Some (sym same)

  read_there : (m : ℕ) (f : Entry) (d : Dependency) → slice_get fs m ≡ Some f → Contains f.dependencies d → Contains deps_s (read_as m d)
  read_there m f d at h =
      let i = entries_into all_s [] 0 fs refl m f d at h (found_at d.to (within_s m f d at h)) in
      subst (λ z. Contains z (read_as m d)) (sym (each_after-is (row_dependency all_s) (rows_of fs))) (subst (λ n. Contains (after (read all_s) [] (rows_from 0 fs)) (read_as n d)) (plain m) i)

  -- a dependency of the smaller tables is one of the larger
  moved : (x : GraphDependency) → Contains deps_t x → IsTrue (R x.from) → (y : GraphDependency) × Contains deps_s y × (y.from ≡ number x.from) × (y.to ≡ number x.to) × (y.name ≡ x.name) × (y.declared ≡ x.declared)
  moved x c r =
      let b = dependency_back es t is_t within_t x c in
      let f = more.entries x.from b.entry r b.there in
      let d = f.2.dependencies b.dependency b.member in
      (read_as (number x.from) (renumbered number b.dependency), read_there (number x.from) f.0 (renumbered number b.dependency) f.1 d, refl, ap number b.leads, sym b.name, sym b.declared)

  -- dependencies of one entry on one entry have one name
  one_name : (m : ℕ) → IsTrue (R m) → (x y : GraphDependency) → Contains deps_s x → Contains deps_s y → x.from ≡ number m → y.from ≡ number m → x.to ≡ y.to → x.name ≡ y.name
  one_name m r x y c d first second to =
      let a = dependency_back fs s is_s within_s x c in
      let b = dependency_back fs s is_s within_s y d in
      let there : slice_get fs (number m) ≡ Some a.entry = ap (slice_get fs) (sym first) ∙ a.there in
      let same : b.entry ≡ a.entry = same_some b.entry a.entry (sym b.there ∙ ap (slice_get fs) second ∙ there) in
      a.name ∙ more.names m a.entry r there a.dependency b.dependency a.member (subst (λ (z : Entry). Contains z.dependencies b.dependency) same b.member) (a.leads ∙ to ∙ sym b.leads) ∙ sym b.name

  link_there : (x : GraphDependency) → Contains deps_t x → IsTrue (R x.from) → HasLink s number (link_of deps_t x)
  link_there x c r =
      let y = moved x c r in
      let any : list_any (is_joined y.0) (firsts is_joined deps_s) ≡ true = list_any-firsts is_joined joined_along y.0 deps_s ∙ any_member (is_joined y.0) deps_s y.0 y.1 (is_joined-of y.0 y.0 refl refl) in
      let z = member_any (is_joined y.0) (firsts is_joined deps_s) any in
      let pair = joined_is y.0 z.element z.passes in
      let first = from_firsts is_joined deps_s z.element z.member in
      let link = link_of deps_s z.element in
      let q = place_of_element s.links link (subst (λ ls. Contains ls link) (links_are fs s is_s within_s) (into_map (link_of deps_s) (firsts is_joined deps_s) z.element z.member)) in
      let from : z.element.from ≡ number x.from = sym pair.0 ∙ y.2 in
      let to : z.element.to ≡ number x.to = sym pair.1 ∙ y.3 in
      record {
        place = q.0;
        link = link;
        is_link = q.1;
        from = from;
        to = to;
        name = sym (one_name x.from r y.0 z.element y.1 first y.2 from pair.1) ∙ y.4;
        declarations = λ d i.
            let m = from_map (λ (e : GraphDependency). e.declared) (filter (is_joined x) deps_t) d i in
            let k = from_filter (is_joined x) deps_t m.0 m.1 in
            let own = joined_is x m.0 k.1 in
            let v = moved m.0 k.0 (subst (λ n. IsTrue (R n)) own.0 r) in
            let joined : is_joined z.element v.0 ≡ true = is_joined-of z.element v.0 (from ∙ ap number own.0 ∙ sym v.2) (to ∙ ap number own.1 ∙ sym v.3) in
            subst (λ e. Contains link.declarations e) (v.5 ∙ m.2) (into_map (λ (e : GraphDependency). e.declared) (filter (is_joined z.element) deps_s) v.0 (into_filter (is_joined z.element) deps_s v.0 v.1 joined));
      }

  links_more : (k : ℕ) (l : LinkTable) → IsTrue (R l.from) → slice_get t.links k ≡ Some l → HasLink s number l × IsTrue (R l.to)
  links_more k l r h =
      let listed : Contains (links_of deps_t) l = subst (λ z. Contains z l) (sym (links_are es t is_t within_t)) (element_at_place t.links k l h) in
      let x = from_map (link_of deps_t) (firsts is_joined deps_t) l listed in
      let c = from_firsts is_joined deps_t x.0 x.1 in
      let from : x.0.from ≡ l.from = ap (λ (z : LinkTable). z.from) x.2 in
      let to : x.0.to ≡ l.to = ap (λ (z : LinkTable). z.to) x.2 in
      let own : IsTrue (R x.0.from) = subst (λ n. IsTrue (R n)) (sym from) r in
      let b = dependency_back es t is_t within_t x.0 c in
      (subst (HasLink s number) x.2 (link_there x.0 c own), subst (λ n. IsTrue (R n)) (b.leads ∙ to) (more.stays x.0.from b.entry b.dependency own b.there b.member))

  pub has_more : HasMore t s R number
  has_more = record { packages = packages_more; links = links_more }
