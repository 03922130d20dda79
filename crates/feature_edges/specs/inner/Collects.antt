-- The keys and warnings that a pass over the tables collects.
use Rattle.std.specs.Prelude.{◌≡◌, ℕ, List, [], ◌++◌, ◌==◌, nat_lt, filter, flat_map, slice_get, take}
use Rattle.std.specs.List.{enumerate_from}
use Rattle.std.specs.Option.{option_map_or}
use Rattle.guppy_packages.specs.Rows.{Text}
use Rattle.guppy_packages.specs.Items.{item_of}
use Rattle.guppy_packages.specs.Tables.{FeatureTable, LinkTable, PackageTable, Tables}
use Rattle.feature_edges.specs.Warnings.{Warning, lack_over, of_item, of_package, of_link, warnings_in}
use Rattle.feature_edges.specs.inner.Adds.{Adds}
use Rattle.feature_edges.specs.declared.candidate.Key.{Key}
use Rattle.feature_edges.specs.declared.collect.Collected.{Collected}

-- The keys that satisfy `P` are added, and the warnings `items` and `names` are appended.
pub record Collects (P : Key → Type 0) (items names : List Warning) (old new : Collected) : Type 0 where
  pub keys : Adds P old.keys.items new.keys.items
  pub of_items : warnings_in new.item_warnings ≡ warnings_in old.item_warnings ++ items
  pub of_names : warnings_in new.name_warnings ≡ warnings_in old.name_warnings ++ names

-- A warning if the target of link `k` has no named feature `g`.
abbrev pub lack_by : Tables → Text → ℕ → List Warning
lack_by t g k = option_map_or (λ link. lack_over t link g) (slice_get t.links k) []

-- The links that leave package `p`, and those that leave the packages before it.
abbrev pub links_from : Tables → ℕ → List LinkTable
links_from t p = filter (λ link. link.from == p) t.links

abbrev pub links_below : Tables → ℕ → List LinkTable
links_below t p = filter (λ link. nat_lt link.from p) t.links

-- The warnings of the items of feature `f` of package `p`.
abbrev pub of_feature : Tables → ℕ → PackageTable → FeatureTable → List Warning
of_feature t p table f = flat_map (λ text. of_item t p table f.name (item_of text)) f.items

-- The warnings of the items of named feature `k` of package `p`.
abbrev pub of_feature_at : Tables → ℕ → ℕ → List Warning
of_feature_at t p k = option_map_or (λ table. option_map_or (of_feature t p table) (slice_get table.features k) []) (slice_get t.packages p) []

-- The warnings of the items of all features of package `p`.
abbrev pub of_features : Tables → ℕ → List Warning
of_features t p = option_map_or (λ table. of_package t (p, table)) (slice_get t.packages p) []

-- The warnings are those of the items of the packages before `p`, and of the names that declarations of their links list.
pub record AreWarningsBelow (t : Tables) (p : ℕ) (collected : Collected) : Type 0 where
  pub of_items : warnings_in collected.item_warnings ≡ flat_map (of_package t) (take p (enumerate_from 0 t.packages))
  pub of_names : warnings_in collected.name_warnings ≡ flat_map (of_link t) (links_below t p)
