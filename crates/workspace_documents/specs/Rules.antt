-- The rules that every described workspace satisfies.
use Rattle.std.specs.Prelude.{◌≡◌, List, Bool, true, Option, IsTrue, length, map}
use Rattle.std.specs.List.{list_all, list_any, AllByRecursion, AllZip}
use Rattle.std.specs.List.Sorted.{IsStrictlySortedBy}
use Rattle.std.specs.Map.{keys_of}
use Rattle.std.specs.Option.{option_map_or}
use Rattle.std.specs.Str.{bytes_eq}
use Rattle.cargo_json.specs.Faults.{Text}
use Rattle.workspace_documents.specs.Lists.{ById, id_cmp}
use Rattle.workspace_documents.specs.Packages.{PackageText}
use Rattle.workspace_documents.specs.Leads.{DescribedText}

-- Whether one of the packages has this id.
abbrev pub is_known : {X : Type 0} → ById X → Text → Bool
is_known packages id = list_any (bytes_eq id) (keys_of packages)

-- Whether an id, if there is one, is a package's.
abbrev pub is_known_if_any : {X : Type 0} → ById X → Option Text → Bool
is_known_if_any packages id = option_map_or (is_known packages) id true

-- The features of a package are in the order of the bytes of their names.
abbrev pub HasSortedFeatures : PackageText → Type 0
HasSortedFeatures p = IsStrictlySortedBy id_cmp (map (λ f. f.name) p.features)

-- Where the declarations of a package lead: as many as it declares, each to one of the packages or to none.
abbrev pub LeadsOf : ById PackageText → Text × PackageText → Text × List (Option Text) → Type 0
LeadsOf packages e leads = (leads.0 ≡ e.0) × (length leads.1 ≡ length e.1.declarations) × IsTrue (list_all (is_known_if_any packages) leads.1)

-- Packages are in the order of their ids, each under its own; their features are in the order of the features' names; and each id
-- of a member, of the root or of a package that a declaration leads to is a package's.
pub record IsDescribed (t : DescribedText) : Type 0 where
  pub ids : IsStrictlySortedBy id_cmp (keys_of t.packages)
  pub own_ids : AllByRecursion (λ e. e.1.id ≡ e.0) t.packages
  pub features : AllByRecursion (λ e. HasSortedFeatures e.1) t.packages
  pub members : IsTrue (list_all (is_known t.packages) t.links.members)
  pub default_members : IsTrue (list_all (is_known t.packages) t.links.default_members)
  pub root : IsTrue (is_known_if_any t.packages t.links.root)
  pub leads : AllZip (LeadsOf t.packages) t.packages t.links.leads
