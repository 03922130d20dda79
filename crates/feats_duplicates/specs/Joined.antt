-- The workspace after members have got lines for the packages that they build differently.
use Rattle.std.specs.Prelude.{ℕ, ◌+◌, List, [], ◌∷◌, ◌++◌, Bool, false, Some, None, map, flat_map, nat_eq, slice_get, if◌then◌else◌}
use Rattle.std.specs.List.{filter, list_any}
use Rattle.std.specs.Option.{option_map_or}
use Rattle.cargo_workspaces.specs.Workspaces.{Text, DeclarationText, PackageText, WorkspaceText, both_lead_to}
use Rattle.cargo_workspaces.specs.declared.package.Kind.{Kind}
use Rattle.cargo_workspaces.specs.declared.package.Kind.TheVariants as kind
use Rattle.feats_duplicates.specs.Alone.{AloneText}
use Rattle.cargo_plans.specs.declared.plan_units.unit.Place.{Place}
use Rattle.cargo_plans.specs.declared.plan_units.unit.Place.TheVariants as place
use Rattle.cargo_manifests.specs.Edits.{with_declarations}
use Rattle.feats_duplicates.specs.Features.{is_from_default_registry, joined_features}

-- The kind of a dependency for a place.
abbrev pub kind_for : Place → Kind
kind_for place.Host = kind.Build
kind_for (place.Target k) = kind.Normal

-- A line for the manifests of these members: it asks for package `number` of this name, with exactly these features.
pub record JoinText : Type 0 where
  pub number : ℕ
  pub name : Text
  pub kind : Kind
  pub features : List Text
  pub members : List ℕ

-- The line for package `x`, with its features in all these plans together, for each member that has one of them.
abbrev pub join_of : AloneText → PackageText → JoinText
join_of a x = record { number = a.number; name = x.name; kind = kind_for a.place; features = joined_features x a.units; members = map (λ r. r.member) a.units }

-- Only a package of the registry that manifests name by default has a line.
abbrev pub join_if : AloneText → PackageText → List JoinText
join_if a x = if is_from_default_registry x then join_of a x ∷ [] else []

abbrev pub joins_at : List PackageText → AloneText → List JoinText
joins_at packages a = option_map_or (join_if a) (slice_get packages a.number) []

abbrev pub joins_of : List PackageText → List AloneText → List JoinText
joins_of packages alone = flat_map (joins_at packages) alone

-- The name by which the first of the declarations that leads to package `p` calls it; without one, `name`.
abbrev pub name_among : ℕ → Text → List DeclarationText → Text
name_among p name [] = name
name_among p name (d ∷ ds) = if both_lead_to (Some p) d.leads_to then d.name else name_among p name ds

-- The declaration of a line in the manifest with these declarations. The name is theirs if they have one for the package, since Cargo
-- accepts no second name. As in the line, default features are off, and a feature `default` is listed like others.
abbrev pub declaration_of : List DeclarationText → JoinText → DeclarationText
declaration_of ds j = record {
  name = name_among j.number j.name ds;
  kind = j.kind;
  optional = false;
  platform = None;
  default_features = false;
  features = j.features;
  leads_to = Some j.number;
}

-- Whether the line is for member `m`.
abbrev pub is_for : ℕ → JoinText → Bool
is_for m j = list_any (nat_eq m) j.members

-- The declarations of member `m`, and then those of its lines.
abbrev pub joined_declarations : List JoinText → ℕ → List DeclarationText → List DeclarationText
joined_declarations joins m ds = ds ++ map (declaration_of ds) (filter (is_for m) joins)

abbrev pub joined_package : List JoinText → ℕ → PackageText → PackageText
joined_package joins m x = with_declarations (joined_declarations joins m x.declarations) x

-- The packages from number `m` on, with their lines.
abbrev pub joined_from : List JoinText → ℕ → List PackageText → List PackageText
joined_from joins m [] = []
joined_from joins m (x ∷ xs) = joined_package joins m x ∷ joined_from joins (m + 1) xs

abbrev pub joined_packages : List JoinText → List PackageText → List PackageText
joined_packages joins packages = joined_from joins 0 packages

-- THE JOINED WORKSPACE: in all else that of the document, each member has the line of each of these packages that its plan alone builds.
abbrev pub joined_workspace : WorkspaceText → List AloneText → WorkspaceText
joined_workspace w alone = record {
  packages = joined_packages (joins_of w.packages alone) w.packages;
  members = w.members;
  default_members = w.default_members;
  root = w.root;
}
