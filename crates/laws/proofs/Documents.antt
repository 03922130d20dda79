-- The packages of a document: their ids and features ascend, and the packages that they use are packages of the document.
use Rattle.std.proofs.Common.{◌≡◌, inl, inr, Bool, true, false, ◌&&◌, ◌||◌, not, cond, List, [], ◌∷◌, ◌++◌, map, Option, Some, None, find, Less, Ok, refl, ap, sym, ◌∙◌, subst}
use Rattle.std.specs.Prelude.{codes, filter, option_and_then, ⊤}
use Rattle.std.specs.Cmp.Lexicographic.{bytes_decides, nat_list_cmp_total, texts_ties}
use Rattle.std.specs.List.{AllByRecursion, list_all, list_any}
use Rattle.std.specs.List.Sorted.{IsStrictlySortedBy}
use Rattle.std.specs.Map.{keys_of, lookup}
use Rattle.std.specs.Option.{unwrap_or}
use Rattle.std.specs.Ordering.{is_eq, ordering_reverse}
use Rattle.std.specs.Str.{bytes_eq}
use Rattle.std.proofs.lemmas.Map.Keys.{sorted_head, sorted_tail}
use Rattle.json.specs.Find.{as_array, get}
use Rattle.json.specs.Json.{Json}
use Rattle.cargo_json.specs.declared.fault.Place.TheVariants as place
use Rattle.cargo_json.specs.Faults.{Text}
use Rattle.cargo_json.specs.Fields.{wanted}
use Rattle.workspace_documents.specs.Dependencies.{DependencyText, FoundPackage, agree, agrees, choice, choice_of, dependencies_of, fits, found_of, is_other_name, led, led_to, name_of, nothing, one, pick, several, target_of, with_target}
use Rattle.workspace_documents.specs.Lists.{ById, each_by_id, id_cmp}
use Rattle.workspace_documents.specs.Nodes.{DepText, NodeText, no_node, node_of}
use Rattle.workspace_documents.specs.Packages.{DeclarationText, PackageText, package_with_id, packages_at, packages_in}
use Rattle.workspace_documents.specs.Rules.{HasSortedFeatures, is_known}
use Rattle.workspace_documents.proofs.Sorted.{both_ok, by_id_all, by_id_sorted, ok_same, own_features, own_id}
use Rattle.guppy_packages.proofs.Apart.{list_any-push}
use Rattle.laws.proofs.Sections.{Agree, Among, AreFresh}

-- ---- ascending texts

abbrev pub Ascend : List Text → Type 0
Ascend texts = IsStrictlySortedBy id_cmp texts

-- a greater text is another text
other_text : (x y : Text) → id_cmp x y ≡ Less → bytes_eq y x ≡ false
other_text x y less = texts_ties y x ∙ ap is_eq (nat_list_cmp_total.antisymm y x ∙ ap ordering_reverse less)

none_first : (done : List Text) (x y : Text) → list_any (bytes_eq y) done ≡ false → id_cmp x y ≡ Less → list_any (bytes_eq y) (done ++ x ∷ []) ≡ false
none_first done x y none less = list_any-push (bytes_eq y) done x ∙ ap (λ b. b || bytes_eq y x) none ∙ other_text x y less

both_none : (done : List Text) (x : Text) (xs : List Text) → AllByRecursion (λ y. list_any (bytes_eq y) done ≡ false) xs → AllByRecursion (λ y. id_cmp x y ≡ Less) xs → AllByRecursion (λ y. list_any (bytes_eq y) (done ++ x ∷ []) ≡ false) xs
both_none done x [] a b = tt
both_none done x (y ∷ xs) a b = (none_first done x y a.0 b.0, both_none done x xs a.1 b.1)

ascend_fresh : (done xs : List Text) → AllByRecursion (λ y. list_any (bytes_eq y) done ≡ false) xs → Ascend xs → AreFresh done xs
ascend_fresh done [] none s = tt
ascend_fresh done (x ∷ xs) none s = (none.0, ascend_fresh (done ++ x ∷ []) xs (both_none done x xs none.1 (sorted_head id_cmp x xs s)) (sorted_tail id_cmp x xs s))

none_before : (xs : List Text) → AllByRecursion (λ y. list_any (bytes_eq y) [] ≡ false) xs
none_before [] = tt
none_before (x ∷ xs) = (refl, none_before xs)

pub all_fresh : (xs : List Text) → Ascend xs → AreFresh [] xs
all_fresh xs s = ascend_fresh [] xs (none_before xs) s

-- ---- packages

none_ascend : Ascend (keys_of {X = PackageText} [])
unfolding IsStrictlySortedBy
none_ascend = tt

-- Packages at their own ids, which ascend. So do the features of each.
pub record AreEntries (packages : ById PackageText) : Type 0 where
  pub ascend : Ascend (keys_of packages)
  pub own : AllByRecursion (λ (e : Text × PackageText). e.1.id ≡ e.0) packages
  pub features : AllByRecursion (λ (e : Text × PackageText). HasSortedFeatures e.1) packages

pub packages_entries : (d : Json) (packages : ById PackageText) → packages_in d ≡ Ok packages → AreEntries packages
unfolding packages_in packages_at
packages_entries d packages e =
    let items = both_ok (wanted place.Document (codes "packages") (option_and_then as_array (get (codes "packages") d))) (each_by_id package_with_id place.Package 0 []) packages e in
    record {
      ascend = by_id_sorted package_with_id place.Package items.0 0 [] packages items.2 none_ascend;
      own = by_id_all package_with_id place.Package (λ (x : Text × PackageText). x.1.id ≡ x.0) own_id items.0 0 [] packages items.2 tt;
      features = by_id_all package_with_id place.Package (λ (x : Text × PackageText). HasSortedFeatures x.1) own_features items.0 0 [] packages items.2 tt;
    }

-- ---- used packages

both_true : (a b : Bool) → a && b ≡ true → (a ≡ true) × (b ≡ true)
both_true true b e = (refl, e)
both_true false b e = absurd (cc)

module _ (packages : ById PackageText) where
  -- The package's id is one of the document's.
  abbrev IsKnownPackage : PackageText → Type 0
  IsKnownPackage p = is_known packages p.id ≡ true

  abbrev UsesKnown : NodeText → Type 0
  UsesKnown node = list_all (λ (dep : DepText). is_known packages dep.target.id) node.deps ≡ true

  abbrev pub NodesKnown : ById NodeText → Type 0
  NodesKnown nodes = AllByRecursion (λ (e : Text × NodeText). UsesKnown e.1) nodes

  node_by : (b : Bool) (n : NodeText) (o : Option NodeText) → UsesKnown n → UsesKnown (unwrap_or o no_node) → UsesKnown (unwrap_or (cond b (Some n) o) no_node)
  node_by true n o p q = p
  node_by false n o p q = q

  node_uses : (id : Text) (nodes : ById NodeText) → NodesKnown nodes → UsesKnown (node_of id nodes)
  node_uses id [] all = refl
  node_uses id (e ∷ nodes) all = node_by (bytes_eq id e.0) e.1 (lookup (bytes_eq id) nodes) all.0 (node_uses id nodes all.1)

  all_listed : (deps : List DepText) → list_all (λ (dep : DepText). is_known packages dep.target.id) deps ≡ true → AllByRecursion (λ (dep : DepText). IsKnownPackage dep.target) deps
  all_listed [] e = tt
  all_listed (dep ∷ deps) e =
      let parts = both_true (is_known packages dep.target.id) (list_all (λ (dep : DepText). is_known packages dep.target.id) deps) e in
      (parts.0, all_listed deps parts.1)

  -- ---- the package of a declaration

  abbrev IsGood : FoundPackage → Type 0
  IsGood nothing = Unit {0}
  IsGood (one p) = IsKnownPackage p
  IsGood several = Unit {0}

  found_good : (ps : List PackageText) → AllByRecursion IsKnownPackage ps → IsGood (found_of ps)
  found_good [] all = tt
  found_good (p ∷ []) all = all.0
  found_good (p ∷ q ∷ ps) all = tt

  picked_good : (test : DepText → Bool) (deps : List DepText) → AllByRecursion (λ (dep : DepText). IsKnownPackage dep.target) deps → AllByRecursion IsKnownPackage (map (λ (dep : DepText). dep.target) (filter test deps))
  picked_good test [] all = tt
  picked_good test (dep ∷ deps) all = go (test dep) (picked_good test deps all.1)
    where
      go : (b : Bool) → AllByRecursion IsKnownPackage (map (λ (dep : DepText). dep.target) (filter test deps)) → AllByRecursion IsKnownPackage (map (λ (dep : DepText). dep.target) (cond b (dep ∷ filter test deps) (filter test deps)))
      go true rest = (all.0, rest)
      go false rest = rest

  pick_good : (test : DeclarationText → DepText → Bool) (id : Text) (d : DeclarationText) (deps : List DepText) → AllByRecursion (λ (dep : DepText). IsKnownPackage dep.target) deps → IsGood (pick test id d deps)
  unfolding pick
  pick_good test id d deps all = found_good (map (λ (dep : DepText). dep.target) (filter (λ dep. fits id d dep && test d dep) deps)) (picked_good (λ dep. fits id d dep && test d dep) deps all)

  choice_good : (optional : Bool) (used admitted both named : FoundPackage) → IsGood used → IsGood admitted → IsGood both → IsGood named → IsGood (choice_of optional used admitted both named)
  choice_good optional (one p) admitted both named a b c e = a
  choice_good true nothing admitted both named a b c e = b
  choice_good false nothing admitted both named a b c e = tt
  choice_good optional several admitted both (one p) a b c e = e
  choice_good optional several admitted nothing nothing a b c e = tt
  choice_good optional several admitted (one p) nothing a b c e = c
  choice_good optional several admitted several nothing a b c e = tt
  choice_good optional several admitted nothing several a b c e = tt
  choice_good optional several admitted (one p) several a b c e = c
  choice_good optional several admitted several several a b c e = tt

  target_good : (id name : Text) (found : FoundPackage) (p : PackageText) → IsGood found → led_to id name found ≡ Ok (Some p) → IsKnownPackage p
  target_good id name nothing p good e = absurd (cc)
  target_good id name (one q) p good e = let same : q ≡ p = cc in subst IsKnownPackage same good
  target_good id name several p good e = absurd (cc)

  target_known : (id : Text) (d : DeclarationText) (deps : List DepText) (p : PackageText) → AllByRecursion (λ (dep : DepText). IsKnownPackage dep.target) deps → target_of id d deps ≡ Ok (Some p) → IsKnownPackage p
  unfolding target_of
  target_known id d deps p all e = target_good id d.name (choice id d deps) p (choice_good d.is_optional (pick _ id d deps) (pick _ id d deps) (pick _ id d deps) (pick _ id d deps) (pick_good _ id d deps all) (pick_good _ id d deps all) (pick_good _ id d deps all) (pick_good _ id d deps all)) e

  abbrev TargetsKnown : List DependencyText → Type 0
  TargetsKnown es = AllByRecursion (λ (e : DependencyText). IsKnownPackage e.target) es

  with_known : (d : DeclarationText) (target : Option PackageText) (rest : List DependencyText) → ((p : PackageText) → target ≡ Some p → IsKnownPackage p) → TargetsKnown rest → TargetsKnown (with_target d target rest)
  with_known d None rest f all = all
  with_known d (Some p) rest f all = (f p refl, all)

  led_known : (id : Text) (deps : List DepText) (ds : List DeclarationText) (es : List DependencyText) → AllByRecursion (λ (dep : DepText). IsKnownPackage dep.target) deps → led id deps ds ≡ Ok es → TargetsKnown es
  led_known id deps [] es all e = subst TargetsKnown (ok_same [] es e) tt
  led_known id deps (d ∷ ds) es all e =
      let target = both_ok (target_of id d deps) _ es e in
      let rest = both_ok (led id deps ds) _ es target.2 in
      subst TargetsKnown (ok_same (with_target d target.0 rest.0) es rest.2)
      (with_known d target.0 rest.0 (λ p is. target_known id d deps p all (target.1 ∙ ap Ok is)) (led_known id deps ds rest.0 all rest.1))

  -- the targets of a package's declarations are packages of the document
  pub dependencies_known : (id : Text) (nodes : ById NodeText) (p : PackageText) (es : List DependencyText) → NodesKnown nodes → dependencies_of p (node_of id nodes).deps ≡ Ok es → AllByRecursion (λ (e : DependencyText). is_known packages e.target.id ≡ true) es
  unfolding dependencies_of
  dependencies_known id nodes p es all e = led_known p.id (node_of id nodes).deps p.declarations es (all_listed (node_of id nodes).deps (node_uses id nodes all)) e

-- ---- one name for a target

find_none : {X : Type 0} (test : X → Bool) (xs : List X) → find test xs ≡ None → AllByRecursion (λ x. test x ≡ false) xs
find_none test [] e = tt
find_none test (x ∷ xs) e = go (test x) refl (find_none test xs) e
  where
    go : (b : Bool) → test x ≡ b → (find test xs ≡ None → AllByRecursion (λ x. test x ≡ false) xs) → cond b (Some x) (find test xs) ≡ None → (test x ≡ false) × AllByRecursion (λ x. test x ≡ false) xs
    go true is rest h = absurd (cc)
    go false is rest h = (is, rest h)

of_all : (P : DependencyText → Type 0) (es : List DependencyText) (e : DependencyText) → AllByRecursion P es → Among e es → P e
of_all P [] e all among = absurd among
of_all P (x ∷ es) e all (inl same) = subst P same all.0
of_all P (x ∷ es) e all (inr later) = of_all P es e all.1 later

agrees_none : (id : Text) (a : DependencyText) (o : Option DependencyText) (b : ⊤) → agrees id a o ≡ Ok b → o ≡ None
agrees_none id a None b e = refl
agrees_none id a (Some x) b e = absurd (cc)

all_agree : (id : Text) (all es : List DependencyText) (b : ⊤) → agree id all es ≡ Ok b → AllByRecursion (λ (a : DependencyText). AllByRecursion (λ (x : DependencyText). is_other_name a x ≡ false) all) es
all_agree id all [] b e = tt
all_agree id all (a ∷ es) b e =
    let first = both_ok (agrees id a (find (is_other_name a) all)) _ b e in
    (find_none (is_other_name a) all (agrees_none id a (find (is_other_name a) all) first.0 first.1), all_agree id all es b first.2)

not_false : (b : Bool) → not b ≡ false → b ≡ true
not_false true e = refl
not_false false e = absurd (cc)

pub agreed : (id : Text) (es : List DependencyText) (b : ⊤) → agree id es es ≡ Ok b → Agree es
agreed id es b e x y among there same =
    let other : is_other_name x y ≡ false = of_all (λ (z : DependencyText). is_other_name x z ≡ false) es y (of_all (λ (a : DependencyText). AllByRecursion (λ (z : DependencyText). is_other_name a z ≡ false) es) es x (all_agree id es es b e) among) there in
    let one_id : bytes_eq y.target.id x.target.id ≡ true = (bytes_decides y.target.id x.target.id).1 (sym same) in
    let names : bytes_eq (name_of y.declaration) (name_of x.declaration) ≡ true = not_false (bytes_eq (name_of y.declaration) (name_of x.declaration)) (sym (ap (λ c. c && not (bytes_eq (name_of y.declaration) (name_of x.declaration))) one_id) ∙ other) in
    sym ((bytes_decides (name_of y.declaration) (name_of x.declaration)).0 names)
