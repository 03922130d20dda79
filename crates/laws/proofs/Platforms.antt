-- No declaration of a document has the platform `*`.
use Rattle.std.proofs.Common.{◌≡◌, ℕ, ◌+◌, Bool, true, false, List, [], ◌∷◌, Option, Some, None, Result, Ok, Err, refl, subst, cond}
use Rattle.std.specs.Prelude.{codes, option_and_then}
use Rattle.std.specs.List.{AllByRecursion}
use Rattle.std.specs.Str.{bytes_eq}
use Rattle.json.specs.Find.{as_array, get}
use Rattle.json.specs.Json.{Json, Items, no_items, item}
use Rattle.cargo_json.specs.declared.fault.Place.{Place}
use Rattle.cargo_json.specs.declared.fault.Place.TheVariants as place
use Rattle.cargo_json.specs.Faults.{Text, Refusal, every_platform}
use Rattle.cargo_json.specs.Fields.{optional_text_in, texts_in, wanted}
use Rattle.workspace_documents.specs.Dependencies.{DependencyText, dependencies_of, led, target_of, with_target}
use Rattle.workspace_documents.specs.Lists.{ById, each}
use Rattle.workspace_documents.specs.Nodes.{DepText}
use Rattle.workspace_documents.specs.Packages.{DeclarationText, PackageText, declaration_in, features_of, first_library, flags_in, kind_in, lists_in, names_in, package_in, package_with_id, packages_at, packages_in, platform_in, platform_of, sorted, use_in, UseText, wanted_in}
use Rattle.workspace_documents.proofs.Sorted.{both_ok, by_id_all, ok_same}

-- Another text than `*`, or none.
abbrev pub IsPlain : Option Text → Type 0
IsPlain None = Unit {0}
IsPlain (Some s) = bytes_eq s (codes "*") ≡ false

abbrev pub ArePlain : PackageText → Type 0
ArePlain p = AllByRecursion (λ (d : DeclarationText). IsPlain d.platform) p.declarations

named_plain : (at : Place) (s : Text) (b : Bool) (p : Option Text) → bytes_eq s (codes "*") ≡ b → ◌≡◌ {A = Result (Option Text) Refusal} (cond b (Err (every_platform at)) (Ok (Some s))) (Ok p) → IsPlain p
named_plain at s true p is e = absurd (cc)
named_plain at s false p is e = subst IsPlain (ok_same (Some s) p e) is

read_plain : (at : Place) (found p : Option Text) → platform_of at found ≡ Ok p → IsPlain p
read_plain at None p e = subst IsPlain (ok_same None p e) tt
read_plain at (Some s) p e = named_plain at s (bytes_eq s (codes "*")) p refl e

platform_plain : (at : Place) (d : Json) (p : Option Text) → platform_in at d ≡ Ok p → IsPlain p
platform_plain at d p e = let s = both_ok (optional_text_in at (codes "target") d) (platform_of at) p e in read_plain at s.0 p s.2

use_plain : (at : Place) (d : Json) (u : UseText) → use_in at d ≡ Ok u → IsPlain u.platform
unfolding use_in
use_plain at d u e =
    let kind = both_ok (kind_in at d) _ u e in
    let platform = both_ok (platform_in at d) _ u kind.2 in
    let same = ok_same _ u platform.2 in
    subst (λ (z : UseText). IsPlain z.platform) same (platform_plain at d platform.0 platform.1)

declaration_plain : (at : Place) (d : Json) (x : DeclarationText) → declaration_in at d ≡ Ok x → IsPlain x.platform
unfolding declaration_in
declaration_plain at d x e =
    let wanted = both_ok (wanted_in at d) _ x e in
    let used = both_ok (use_in at d) _ x wanted.2 in
    let flags = both_ok (flags_in at d) _ x used.2 in
    let features = both_ok (texts_in at (codes "features") d) _ x flags.2 in
    let same = ok_same _ x features.2 in
    subst (λ (z : DeclarationText). IsPlain z.platform) same (use_plain at d used.0 used.1)

each_plain : {X : Type 0} (P : X → Type 0) (read : ℕ → Json → Result X Refusal) → ((n : ℕ) (d : Json) (x : X) → read n d ≡ Ok x → P x) → (n : ℕ) (items : Items) (xs : List X) → each read n items ≡ Ok xs → AllByRecursion P xs
each_plain P read one n no_items xs e = subst (AllByRecursion P) (ok_same [] xs e) tt
each_plain P read one n (item d ds) xs e =
    let first = both_ok (read n d) _ xs e in
    let rest = both_ok (each read (n + 1) ds) _ xs first.2 in
    subst (AllByRecursion P) (ok_same (first.0 ∷ rest.0) xs rest.2) (one n d first.0 first.1, each_plain P read one (n + 1) ds rest.0 rest.1)

package_plain : (n : ℕ) (d : Json) (p : PackageText) → package_in n d ≡ Ok p → ArePlain p
unfolding package_in
package_plain n d p e =
    let lists = both_ok (lists_in (place.Package n) d) _ p e in
    let names = both_ok (names_in (place.Package n) d) _ p lists.2 in
    let library = both_ok (first_library n lists.0.1.0) _ p names.2 in
    let features = both_ok (features_of (place.Package n) (sorted [] lists.0.1.1)) _ p library.2 in
    let declarations = both_ok (each (λ i. declaration_in (place.Dependency n i)) 0 lists.0.0) _ p features.2 in
    let same = ok_same _ p declarations.2 in
    subst ArePlain same (each_plain (λ (x : DeclarationText). IsPlain x.platform) (λ i. declaration_in (place.Dependency n i)) (λ i j x h. declaration_plain (place.Dependency n i) j x h) 0 lists.0.0 declarations.0 declarations.1)

with_id_plain : (n : ℕ) (d : Json) (x : Text × PackageText) → package_with_id n d ≡ Ok x → ArePlain x.1
with_id_plain n d x e =
    let found = both_ok (package_in n d) _ x e in
    subst (λ (z : Text × PackageText). ArePlain z.1) (ok_same (found.0.id, found.0) x found.2) (package_plain n d found.0 found.1)

abbrev pub AllPlain : ById PackageText → Type 0
AllPlain packages = AllByRecursion (λ (e : Text × PackageText). ArePlain e.1) packages

found_plain : (found : Option Json) (packages : ById PackageText) → packages_at found ≡ Ok packages → AllPlain packages
unfolding packages_at
found_plain found packages e = let items = both_ok (wanted place.Document (codes "packages") (option_and_then as_array found)) _ packages e in by_id_all package_with_id place.Package (λ (e : Text × PackageText). ArePlain e.1) with_id_plain items.0 0 [] packages items.2 tt

pub packages_plain : (d : Json) (packages : ById PackageText) → packages_in d ≡ Ok packages → AllPlain packages
unfolding packages_in
packages_plain d packages e = found_plain (get (codes "packages") d) packages e

abbrev pub ArePlainDependencies : List DependencyText → Type 0
ArePlainDependencies es = AllByRecursion (λ (e : DependencyText). IsPlain e.declaration.platform) es

with_plain : (d : DeclarationText) (target : Option PackageText) (rest : List DependencyText) → IsPlain d.platform → ArePlainDependencies rest → ArePlainDependencies (with_target d target rest)
with_plain d None rest one all = all
with_plain d (Some p) rest one all = (one, all)

led_plain : (id : Text) (deps : List DepText) (ds : List DeclarationText) (es : List DependencyText) → AllByRecursion (λ (d : DeclarationText). IsPlain d.platform) ds → led id deps ds ≡ Ok es → ArePlainDependencies es
led_plain id deps [] es all e = subst ArePlainDependencies (ok_same [] es e) tt
led_plain id deps (d ∷ ds) es all e =
    let target = both_ok (target_of id d deps) _ es e in
    let rest = both_ok (led id deps ds) _ es target.2 in
    subst ArePlainDependencies (ok_same (with_target d target.0 rest.0) es rest.2) (with_plain d target.0 rest.0 all.0 (led_plain id deps ds rest.0 all.1 rest.1))

pub dependencies_plain : (p : PackageText) (deps : List DepText) (es : List DependencyText) → ArePlain p → dependencies_of p deps ≡ Ok es → ArePlainDependencies es
unfolding dependencies_of
dependencies_plain p deps es all e = led_plain p.id deps p.declarations es all e
