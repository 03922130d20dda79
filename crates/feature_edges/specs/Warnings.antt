-- Warnings: of items that name something missing, then of the names that declarations list.
use Rattle.std.specs.Prelude.{ℕ, List, [], ◌∷◌, ◌++◌, flat_map, map, slice_get, codes, string_bytes, if◌then◌else◌}
use Rattle.std.specs.List.{enumerate_from}
use Rattle.std.specs.Option.{option_map_or}
use Rattle.std.specs.Str.{bytes_eq}
use Rattle.std.specs.declared.vec.Vec.{Vec}
use Rattle.guppy_packages.specs.Rows.{Text}
use Rattle.guppy_packages.specs.Tables.{PackageTable, LinkTable, Tables, has_feature, has_name}
use Rattle.guppy_packages.specs.Items.{Item, feature_item, optional_item, slash_item, item_of}
use Rattle.feature_links.specs.Links.{links_named}
use Rattle.feature_edges.specs.declared.warnings.FeatureGraphWarning.{FeatureGraphWarning}
use Rattle.feature_edges.specs.declared.warnings.FeatureGraphWarning.TheVariants.{MissingFeature, SelfLoop}

-- A package's id, and the missing name or the feature that names itself.
pub data Warning : Type 0 where
  missing_feature : Text → Text → Warning
  self_loop : Text → Text → Warning

-- A warning if a package has no named feature `g`.
abbrev pub lack_of : PackageTable → Text → List Warning
lack_of table g = if has_feature g table.features then [] else missing_feature table.id g ∷ []

-- A warning if the target of a link has no named feature `g`.
abbrev pub lack_over : Tables → LinkTable → Text → List Warning
lack_over t link g = option_map_or (λ target. lack_of target g) (slice_get t.packages link.to) []

-- A warning if no link has the name `d`; otherwise one for each link whose target has no named feature `g`.
abbrev pub lacks_over : Tables → PackageTable → Text → Text → List (ℕ × LinkTable) → List Warning
lacks_over t table d g [] = missing_feature table.id d ∷ []
lacks_over t table d g (link ∷ links) = flat_map (λ l. lack_over t l.1 g) (link ∷ links)

-- The warnings of an item of feature `f` of package `p`.
abbrev pub of_item : Tables → ℕ → PackageTable → Text → Item → List Warning
of_item t p table f (feature_item g) = if bytes_eq g f then self_loop table.id f ∷ [] else lack_of table g
of_item t p table f (optional_item d) = if has_name d table.optional_names then [] else missing_feature table.id (codes "dep:" ++ d) ∷ []
of_item t p table f (slash_item d g weak) = lacks_over t table d g (links_named t p d)

-- The warnings of the items of a package, which is paired with its number.
abbrev pub of_package : Tables → ℕ × PackageTable → List Warning
of_package t (p, table) = flat_map (λ f. flat_map (λ text. of_item t p table f.name (item_of text)) f.items) table.features

-- The warnings of the names that the declarations of a link list.
abbrev pub of_link : Tables → LinkTable → List Warning
of_link t link = flat_map (λ d. flat_map (lack_over t link) d.features) link.declarations

-- All warnings: of items, by packages, features and places; then of listed names, by links, declarations and places.
abbrev pub warnings : Tables → List Warning
warnings t = flat_map (of_package t) (enumerate_from 0 t.packages) ++ flat_map (of_link t) t.links

-- A warning as a plain value.
abbrev pub warning_of : FeatureGraphWarning → Warning
warning_of (MissingFeature package_id feature_name) = missing_feature package_id (string_bytes feature_name)
warning_of (SelfLoop package_id feature_name) = self_loop package_id (string_bytes feature_name)

abbrev pub warnings_in : {Z : Type 0} → Vec FeatureGraphWarning Z → List Warning
warnings_in found = map warning_of found.items
