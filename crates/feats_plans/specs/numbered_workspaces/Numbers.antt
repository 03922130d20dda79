-- A described workspace, with its packages numbered in the order of their ids.
use Rattle.std.specs.Prelude.{ℕ, List, Option, map, option_map, zip}
use Rattle.std.specs.List.{position_or_len}
use Rattle.std.specs.Map.{keys_of}
use Rattle.std.specs.Str.{bytes_eq}
use Rattle.cargo_workspaces.specs.Workspaces.{Text, DeclarationText, PackageText, WorkspaceText}
use Rattle.workspace_documents.specs.Lists.{ById}
use Rattle.workspace_documents.specs.Packages as read
use Rattle.workspace_documents.specs.Dependencies.{name_of}
use Rattle.workspace_documents.specs.Leads.{DescribedText}

-- The ids of the packages, in their order.
abbrev pub ids_of : ById read.PackageText → List Text
ids_of packages = keys_of packages

-- The number of a package: the place of its id.
abbrev pub number_of : List Text → Text → ℕ
number_of ids id = position_or_len (bytes_eq id) ids

-- A declaration, with the number of the package that it leads to in place of that package's id.
abbrev pub numbered_declaration : List Text → read.DeclarationText × Option Text → DeclarationText
numbered_declaration ids d = record {
  name = name_of d.0;
  kind = d.0.kind;
  optional = d.0.is_optional;
  platform = d.0.platform;
  default_features = d.0.has_default_features;
  features = d.0.features;
  leads_to = option_map (number_of ids) d.1;
}

-- A package, beside the ids of the packages that its declarations lead to.
abbrev pub numbered_package : List Text → read.PackageText → List (Option Text) → PackageText
numbered_package ids p leads = record {
  id = p.id;
  name = p.name;
  version = p.version;
  source = p.source;
  features = p.features;
  declarations = map (numbered_declaration ids) (zip p.declarations leads);
  targets = p.targets;
}

abbrev pub numbered_packages : List Text → ById read.PackageText → ById (List (Option Text)) → List PackageText
numbered_packages ids packages leads = map (λ e. numbered_package ids e.0.1 e.1.1) (zip packages leads)

abbrev pub numbered : DescribedText → WorkspaceText
numbered t = record {
  packages = numbered_packages (ids_of t.packages) t.packages t.links.leads;
  members = map (number_of (ids_of t.packages)) t.links.members;
  default_members = map (number_of (ids_of t.packages)) t.links.default_members;
  root = option_map (number_of (ids_of t.packages)) t.links.root;
}
