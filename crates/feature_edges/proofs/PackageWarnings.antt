-- The warnings of packages, one after another.
use Rattle.std.proofs.Common.{◌≡◌, ℕ, ◌+◌, ◌<◌, [], ◌++◌, length, Some, ap, sym, ◌∙◌, subst}
use Rattle.std.specs.Prelude.{slice_get, flat_map}
use Rattle.std.specs.List.{enumerate_from}
use Rattle.std.proofs.lemmas.Grind.{flat_map-append}
use Rattle.std.specs.Option.{option_map_or}
use Rattle.guppy_packages.specs.Tables.{FeatureTable, PackageTable, Tables, AreTables}
use Rattle.feature_links.specs.Links.{IsPackage}
use Rattle.feature_edges.specs.Nodes.{features_in}
use Rattle.feature_edges.specs.declared.collect.Collected.{Collected}
use Rattle.feature_edges.specs.Warnings.{of_link, of_package, warnings, warnings_in}
use Rattle.feature_edges.specs.inner.Collects.{AreWarningsBelow, links_from, links_below, of_feature, of_feature_at, of_features}
use Rattle.feature_edges.proofs.LeavingLinks.{below-next, below-none, below-all}
use Rattle.feature_edges.proofs.NodeLemmas.{append-none}
use Rattle.feature_edges.proofs.WarningLemmas.{added-next, added-all, enumerated_at, enumerated_end}

-- no warnings before the first package
pub warnings-start : (t : Tables) (a : Collected) → warnings_in a.item_warnings ≡ [] → warnings_in a.name_warnings ≡ [] → AreWarningsBelow t 0 a
warnings-start t a items names = record {
  of_items = items;
  of_names = names ∙ ap (flat_map (of_link t)) (sym (below-none t));
}

-- one more package: the names that declarations of its links list, and its items
pub warnings-next : (t : Tables) (p q : ℕ) (table : PackageTable) (a b c : Collected) → AreTables t → slice_get t.packages p ≡ Some table → q ≡ p → AreWarningsBelow t p a
    → warnings_in b.item_warnings ≡ warnings_in a.item_warnings → warnings_in b.name_warnings ≡ warnings_in a.name_warnings ++ flat_map (of_link t) (links_from t q)
    → warnings_in c.item_warnings ≡ warnings_in b.item_warnings ++ of_package t (q, table) → warnings_in c.name_warnings ≡ warnings_in b.name_warnings ++ [] → AreWarningsBelow t (p + 1) c
warnings-next t p q table a b c tables is same below kept links items nothing = record {
  of_items =
      let after : warnings_in c.item_warnings ≡ warnings_in a.item_warnings ++ of_package t (p, table) =
      items ∙ ap (λ z. z ++ of_package t (q, table)) kept ∙ ap (λ z. warnings_in a.item_warnings ++ of_package t (z, table)) same in
      added-next (of_package t) (enumerate_from 0 t.packages) p (p, table) [] (warnings_in a.item_warnings) (warnings_in c.item_warnings) (enumerated_at t.packages p table is) below.of_items after;
  of_names =
      nothing ∙ append-none (warnings_in b.name_warnings) ∙ links
      ∙ ap (λ z. z ++ flat_map (of_link t) (links_from t q)) below.of_names
      ∙ ap (λ z. flat_map (of_link t) (links_below t p) ++ flat_map (of_link t) (links_from t z)) same
      ∙ sym (flat_map-append (of_link t) (links_below t p) (links_from t p))
      ∙ sym (ap (flat_map (of_link t)) (below-next t p tables.order));
}

-- the features of a package, and their warnings
pub count_of : (t : Tables) (p : ℕ) (table : PackageTable) → IsPackage t p table → features_in t p ≡ length table.features
count_of t p table is = ap (λ o. option_map_or (λ z. length z.features) o 0) is

pub at_feature : (t : Tables) (p k : ℕ) (table : PackageTable) (feature : FeatureTable) → IsPackage t p table → slice_get table.features k ≡ Some feature → of_feature_at t p k ≡ of_feature t p table feature
at_feature t p k table feature is at = ap (λ o. option_map_or (λ z. option_map_or (of_feature t p z) (slice_get z.features k) []) o []) is ∙ ap (λ o. option_map_or (of_feature t p table) o []) at

pub of_table : (t : Tables) (p : ℕ) (table : PackageTable) → IsPackage t p table → of_features t p ≡ of_package t (p, table)
of_table t p table is = ap (λ o. option_map_or (λ z. of_package t (p, z)) o []) is

-- all warnings
pub warnings-all : (t : Tables) (n : ℕ) (a : Collected) → AreTables t → n ≡ length t.packages → AreWarningsBelow t n a → warnings_in a.item_warnings ++ warnings_in a.name_warnings ≡ warnings t
warnings-all t n a tables end below =
    let items : warnings_in a.item_warnings ≡ flat_map (of_package t) (enumerate_from 0 t.packages) = added-all (of_package t) (enumerate_from 0 t.packages) n [] (warnings_in a.item_warnings) (enumerated_end t.packages n end) below.of_items in
    let names : warnings_in a.name_warnings ≡ flat_map (of_link t) t.links = below.of_names ∙ ap (flat_map (of_link t)) (below-all t n (λ k link at. subst (λ z. link.from < z) (sym end) (tables.ends k link at).0)) in
    ap (λ z. z ++ warnings_in a.name_warnings) items ∙ ap (λ z. flat_map (of_package t) (enumerate_from 0 t.packages) ++ z) names
