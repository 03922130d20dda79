-- Values by their ids stay in the order of the ids, and a package's features are in the order of their names.
use Rattle.std.proofs.Common.{◌≡◌, ◌∙◌, sym, ap, refl, subst, ℕ, ◌+◌, List, [], ◌∷◌, map, Bool, true, false}
use Rattle.std.specs.Prelude.{Result, Ok, Err, codes, is_some, if◌then◌else◌, option_and_then}
use Rattle.std.specs.List.{AllByRecursion}
use Rattle.std.specs.List.Sorted.{IsStrictlySortedBy}
use Rattle.std.specs.Map.{keys_of}
use Rattle.std.specs.BTreeMap.{insert_entry}
use Rattle.std.specs.Ordering.{match_ordering, ordering_reverse}
use Rattle.std.specs.declared.cmp.Ordering.{Ordering}
use Rattle.std.specs.declared.cmp.Ordering.TheVariants.{Less, Equal, Greater}
use Rattle.std.proofs.lemmas.Cmp.{nat_list_cmp_total}
use Rattle.std.proofs.lemmas.Map.Lookups.{exact_bytes}
use Rattle.json.specs.Json.{Json, Items, no_items, item, Members, no_members, member}
use Rattle.json.specs.Find.{as_array}
use Rattle.cargo_json.specs.declared.fault.Place.{Place}
use Rattle.cargo_json.specs.declared.fault.Place.TheVariants as place
use Rattle.cargo_json.specs.Faults.{Text, Refusal, repeated, ◌>>=◌}
use Rattle.cargo_json.specs.Fields.{wanted, all_texts}
use Rattle.cargo_workspaces.specs.Workspaces.{FeatureText}
use Rattle.workspace_documents.specs.Lists.{ById, id_cmp, at_id, each, each_by_id}
use Rattle.workspace_documents.specs.Packages.{PackageText, sorted, feature_in, features_of, first_library, declaration_in, lists_in, names_in, package_in, package_with_id}
use Rattle.workspace_documents.specs.Rules.{HasSortedFeatures}

pub ok_same : {A : Type 0} (a b : A) → ◌≡◌ {A = Result A Refusal} (Ok a) (Ok b) → a ≡ b
ok_same a b h = cc

-- both steps of a read without a fault
pub both_ok : {A B : Type 0} (r : Result A Refusal) (f : A → Result B Refusal) (b : B) → (r >>= f) ≡ Ok b → (a : A) × (r ≡ Ok a) × (f a ≡ Ok b)
both_ok (Ok a) f b h = (a, refl, h)
both_ok (Err e) f b h = cc

weaker : {X : Type 0} (P Q : X → Type 0) → ((x : X) → P x → Q x) → (xs : List X) → AllByRecursion P xs → AllByRecursion Q xs
weaker P Q f [] a = tt
weaker P Q f (x ∷ xs) a = (f x a.0, weaker P Q f xs a.1)

module _ {X : Type 0} (k : Text) (v : X) where
  keys_by : (P : Text → Type 0) (o : Ordering) (e : Text × X) (es more : ById X) → P k → AllByRecursion P (keys_of (e ∷ es)) → AllByRecursion P (keys_of more) → AllByRecursion P (keys_of (match_ordering o ((k, v) ∷ e ∷ es) ((e.0, v) ∷ es) (e ∷ more)))
  keys_by P Less e es more p a b = (p, a)
  keys_by P Equal e es more p a b = a
  keys_by P Greater e es more p a b = (a.0, b)

  keys_inserted : (P : Text → Type 0) (es : ById X) → P k → AllByRecursion P (keys_of es) → AllByRecursion P (keys_of (insert_entry id_cmp es k v))
  keys_inserted P [] p a = (p, tt)
  keys_inserted P (e ∷ es) p a = keys_by P (id_cmp k e.0) e es (insert_entry id_cmp es k v) p a (keys_inserted P es p a.1)

  sorted_by : (o : Ordering) (e : Text × X) (es more : ById X) → id_cmp k e.0 ≡ o → IsStrictlySortedBy id_cmp (keys_of (e ∷ es)) → (id_cmp e.0 k ≡ Less → AllByRecursion (λ y. id_cmp e.0 y ≡ Less) (keys_of more)) → IsStrictlySortedBy id_cmp (keys_of more) → IsStrictlySortedBy id_cmp (keys_of (match_ordering o ((k, v) ∷ e ∷ es) ((e.0, v) ∷ es) (e ∷ more)))
  unfolding IsStrictlySortedBy
  sorted_by Less e es more h s all m = ((h, weaker (λ y. id_cmp e.0 y ≡ Less) (λ y. id_cmp k y ≡ Less) (λ y q. nat_list_cmp_total.trans k e.0 y h q) (keys_of es) s.0), s)
  sorted_by Equal e es more h s all m = s
  sorted_by Greater e es more h s all m = (all (nat_list_cmp_total.antisymm e.0 k ∙ ap ordering_reverse h), m)

  sorted_inserted : (es : ById X) → IsStrictlySortedBy id_cmp (keys_of es) → IsStrictlySortedBy id_cmp (keys_of (insert_entry id_cmp es k v))
  unfolding IsStrictlySortedBy
  sorted_inserted [] s = (tt, tt)
  sorted_inserted (e ∷ es) s = sorted_by (id_cmp k e.0) e es (insert_entry id_cmp es k v) refl s (λ q. keys_inserted (λ y. id_cmp e.0 y ≡ Less) es q s.0) (sorted_inserted es s.1)

  entries_by : (P : Text × X → Type 0) (o : Ordering) (e : Text × X) (es more : ById X) → id_cmp k e.0 ≡ o → P (k, v) → AllByRecursion P (e ∷ es) → AllByRecursion P more → AllByRecursion P (match_ordering o ((k, v) ∷ e ∷ es) ((e.0, v) ∷ es) (e ∷ more))
  entries_by P Less e es more h p a b = (p, a)
  entries_by P Equal e es more h p a b = (subst (λ q. P (q, v)) (exact_bytes k e.0 h) p, a.1)
  entries_by P Greater e es more h p a b = (a.0, b)

  entries_inserted : (P : Text × X → Type 0) (es : ById X) → P (k, v) → AllByRecursion P es → AllByRecursion P (insert_entry id_cmp es k v)
  entries_inserted P [] p a = (p, tt)
  entries_inserted P (e ∷ es) p a = entries_by P (id_cmp k e.0) e es (insert_entry id_cmp es k v) refl p a (entries_inserted P es p a.1)

not_repeated : {Y : Type 0} (b : Bool) (e : Refusal) (r : Result Y Refusal) (y : Y) → (if b then Err e else r) ≡ Ok y → r ≡ Ok y
not_repeated true e r y h = cc
not_repeated false e r y h = h

-- what is read by ids
module _ {X : Type 0} (read : ℕ → Json → Result (Text × X) Refusal) (at : ℕ → Place) where
  abbrev next : ℕ → ById X → Items → Text × X → Result (ById X) Refusal
  next n xs ds x = if is_some (at_id x.0 xs) then Err (repeated (at n)) else each_by_id read at (n + 1) (insert_entry id_cmp xs x.0 x.1) ds

  pub by_id_sorted : (ds : Items) (n : ℕ) (xs ys : ById X) → each_by_id read at n xs ds ≡ Ok ys → IsStrictlySortedBy id_cmp (keys_of xs) → IsStrictlySortedBy id_cmp (keys_of ys)
  by_id_sorted no_items n xs ys h s = subst (λ zs. IsStrictlySortedBy id_cmp (keys_of zs)) (ok_same xs ys h) s
  by_id_sorted (item d ds) n xs ys h s =
      let first = both_ok (read n d) (next n xs ds) ys h in
      let x : Text × X = first.0 in
      by_id_sorted ds (n + 1) (insert_entry id_cmp xs x.0 x.1) ys (not_repeated (is_some (at_id x.0 xs)) (repeated (at n)) (each_by_id read at (n + 1) (insert_entry id_cmp xs x.0 x.1) ds) ys first.2) (sorted_inserted x.0 x.1 xs s)

  pub by_id_all : (P : Text × X → Type 0) → ((n : ℕ) (d : Json) (x : Text × X) → read n d ≡ Ok x → P x) → (ds : Items) (n : ℕ) (xs ys : ById X) → each_by_id read at n xs ds ≡ Ok ys → AllByRecursion P xs → AllByRecursion P ys
  by_id_all P one no_items n xs ys h a = subst (λ zs. AllByRecursion P zs) (ok_same xs ys h) a
  by_id_all P one (item d ds) n xs ys h a =
      let first = both_ok (read n d) (next n xs ds) ys h in
      let x : Text × X = first.0 in
      by_id_all P one ds (n + 1) (insert_entry id_cmp xs x.0 x.1) ys (not_repeated (is_some (at_id x.0 xs)) (repeated (at n)) (each_by_id read at (n + 1) (insert_entry id_cmp xs x.0 x.1) ds) ys first.2) (entries_inserted x.0 x.1 P xs (one n d x first.1) a)

-- the features of a package
sorted_members : (ms : Members) (xs : ById Json) → IsStrictlySortedBy id_cmp (keys_of xs) → IsStrictlySortedBy id_cmp (keys_of (sorted xs ms))
sorted_members no_members xs s = s
sorted_members (member name j ms) xs s = sorted_members ms (insert_entry id_cmp xs name j) (sorted_inserted name j xs s)

none_sorted : IsStrictlySortedBy id_cmp (keys_of {X = Json} [])
unfolding IsStrictlySortedBy
none_sorted = tt

abbrev names_of : List FeatureText → List Text
names_of = map (λ f. f.name)

name_kept : (at : Place) (m : Text × Json) (f : FeatureText) → feature_in at m ≡ Ok f → f.name ≡ m.0
name_kept at m f h =
    let items = both_ok (wanted at (codes "features") (option_and_then all_texts (as_array m.1))) _ f h in
    ap (λ (g : FeatureText). g.name) (sym (ok_same _ f items.2))

names_kept : (at : Place) (ms : ById Json) (fs : List FeatureText) → features_of at ms ≡ Ok fs → names_of fs ≡ keys_of ms
names_kept at [] fs h = ap names_of (sym (ok_same [] fs h))
names_kept at (m ∷ ms) fs h =
    let feature = both_ok (feature_in at m) (λ (f : FeatureText). features_of at ms >>= λ (rest : List FeatureText). Ok (f ∷ rest)) fs h in
    let rest = both_ok (features_of at ms) (λ (rest : List FeatureText). Ok (feature.0 ∷ rest)) fs feature.2 in
    ap names_of (sym (ok_same (feature.0 ∷ rest.0) fs rest.2)) ∙ ap (λ (n : Text). n ∷ names_of rest.0) (name_kept at m feature.0 feature.1) ∙ ap (λ (ns : List Text). m.0 ∷ ns) (names_kept at ms rest.0 rest.1)

pub features_sorted : (n : ℕ) (d : Json) (p : PackageText) → package_in n d ≡ Ok p → HasSortedFeatures p
unfolding package_in
features_sorted n d p h =
    let lists = both_ok (lists_in (place.Package n) d) _ p h in
    let names = both_ok (names_in (place.Package n) d) _ p lists.2 in
    let library = both_ok (first_library n lists.0.1.0) _ p names.2 in
    let features = both_ok (features_of (place.Package n) (sorted [] lists.0.1.1)) _ p library.2 in
    let declarations = both_ok (each (λ (i : ℕ). declaration_in (place.Dependency n i)) 0 lists.0.0) _ p features.2 in
    let same : names_of p.features ≡ keys_of (sorted [] lists.0.1.1) = ap (λ (q : PackageText). names_of q.features) (sym (ok_same _ p declarations.2)) ∙ names_kept (place.Package n) (sorted [] lists.0.1.1) features.0 features.1 in
    subst (IsStrictlySortedBy id_cmp) (sym same) (sorted_members lists.0.1.1 [] none_sorted)

pub own_id : (n : ℕ) (d : Json) (x : Text × PackageText) → package_with_id n d ≡ Ok x → x.1.id ≡ x.0
own_id n d x h =
    let read = both_ok (package_in n d) (λ p. Ok (p.id, p)) x h in
    let is : (read.0.id, read.0) ≡ x = ok_same (read.0.id, read.0) x read.2 in
    ap (λ (y : Text × PackageText). y.1.id) (sym is) ∙ ap (λ (y : Text × PackageText). y.0) is

pub own_features : (n : ℕ) (d : Json) (x : Text × PackageText) → package_with_id n d ≡ Ok x → HasSortedFeatures x.1
own_features n d x h =
    let read = both_ok (package_in n d) (λ p. Ok (p.id, p)) x h in
    subst (λ (y : Text × PackageText). HasSortedFeatures y.1) (ok_same (read.0.id, read.0) x read.2) (features_sorted n d read.0 read.1)
