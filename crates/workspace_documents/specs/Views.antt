-- The values that Rust's types contain.
use Rattle.std.specs.Prelude.{Bool, List, Option, None, Some, map, option_map}
use Rattle.std.specs.Borrow.{Bor}
use Rattle.std.specs.List.{list_any}
use Rattle.std.specs.Ordering.{is_eq}
use Rattle.cargo_workspaces.specs.declared.package.Kind.{Kind}
use Rattle.cargo_workspaces.specs.declared.package.Kind.TheVariants as kind
use Rattle.workspace_documents.specs.declared.packages.Declaration.{Declaration}
use Rattle.cargo_workspaces.specs.Views.{feature_text, target_text}
use Rattle.workspace_documents.specs.declared.packages.Use.{Use}
use Rattle.workspace_documents.specs.declared.packages.Package.{Package}
use Rattle.workspace_documents.specs.declared.nodes.Dep.{Dep}
use Rattle.workspace_documents.specs.declared.nodes.Node.{Node}
use Rattle.workspace_documents.specs.declared.nodes.Resolved.{Resolved}
use Rattle.workspace_documents.specs.declared.dependencies.Dependency.{Dependency}
use Rattle.cargo_json.specs.Faults.{Text}
use Rattle.workspace_documents.specs.declared.uses.Platforms.{Platforms}
use Rattle.workspace_documents.specs.declared.uses.Uses.{Uses}
use Rattle.workspace_documents.specs.Lists.{ById, id_cmp}
use Rattle.workspace_documents.specs.Packages.{UseText, DeclarationText, PackageText}
use Rattle.workspace_documents.specs.Nodes.{DepText, NodeText, ResolvedText}
use Rattle.workspace_documents.specs.Dependencies.{DependencyText}

abbrev pub text_view : Bor Text → Text
text_view s = s.now

abbrev pub declaration_view : Declaration → DeclarationText
declaration_view d = record {
  name = d.name.now;
  rename = option_map text_view d.rename;
  requirement = d.requirement.now;
  kind = d.kind;
  platform = option_map text_view d.platform;
  is_optional = d.is_optional;
  has_default_features = d.has_default_features;
  features = map text_view d.features.items;
}

abbrev pub package_view : Package → PackageText
package_view p = record {
  id = p.id.now;
  name = p.name.now;
  version = p.version.now;
  source = option_map text_view p.source;
  library = option_map text_view p.library;
  targets = map target_text p.targets.items;
  features = map feature_text p.features.items;
  declarations = map declaration_view p.declarations.items;
}

abbrev pub use_view : Use → UseText
use_view u = record { kind = u.kind; platform = option_map text_view u.platform }

-- whether a platform is among these; None is every platform
abbrev pub platforms_view : Platforms → Option Text → Bool
platforms_view p None = p.every
platforms_view p (Some name) = list_any (λ k. is_eq (id_cmp name k.now)) p.named.keys

-- the platforms of a kind
abbrev pub of_kind : Uses → Kind → Platforms
of_kind uses kind.Normal = uses.normal
of_kind uses kind.Build = uses.build
of_kind uses kind.Development = uses.development

abbrev pub uses_view : Uses → UseText → Bool
uses_view uses u = platforms_view (of_kind uses u.kind) u.platform

abbrev pub dep_view : Dep → DepText
dep_view d = record { extern_name = d.extern_name.now; target = package_view d.target.now; uses = uses_view d.uses }

abbrev pub node_view : Node → NodeText
node_view n = record { features = map text_view n.features.items; deps = map dep_view n.deps.items }

abbrev pub dependency_view : Dependency → DependencyText
dependency_view d = record { declaration = declaration_view d.declaration.now; target = package_view d.target.now }

-- entries of a map from ids
abbrev pub entries_view : {X Y : Type 0} → (X → Y) → List (Bor Text × X) → ById Y
entries_view view xs = map (λ e. (e.0.now, view e.1)) xs

abbrev pub resolved_view : Resolved → ResolvedText
resolved_view r = record { members = map text_view r.members.items; nodes = entries_view node_view r.nodes.entries }
