-- The values that Rust's types contain.
use Rattle.std.specs.Prelude.{List, map, option_map}
use Rattle.std.specs.Borrow.{Bor}
use Rattle.cargo_workspaces.specs.Workspaces.{Text, FeatureText, DeclarationText, TargetText, PackageText}
use Rattle.cargo_workspaces.specs.declared.package.Declaration.{Declaration}
use Rattle.cargo_workspaces.specs.declared.package.Feature.{Feature}
use Rattle.cargo_workspaces.specs.declared.package.Package.{Package}
use Rattle.cargo_workspaces.specs.declared.package.Target.{Target}

abbrev pub texts : List (Bor Text) → List Text
texts = map (λ t. t.now)

abbrev pub feature_text : Feature → FeatureText
feature_text f = record { name = f.name.now; items = texts f.items.items }

abbrev pub declaration_text : Declaration → DeclarationText
declaration_text d = record {
  name = d.name.now;
  kind = d.kind;
  optional = d.optional;
  platform = option_map (λ t. t.now) d.platform;
  default_features = d.default_features;
  features = texts d.features.items;
  leads_to = d.leads_to;
}

abbrev pub target_text : Target → TargetText
target_text t = record {
  name = t.name.now;
  kinds = texts t.kinds.items;
  crate_types = texts t.crate_types.items;
  test = t.test;
  doctest = t.doctest;
  required_features = texts t.required_features.items;
}

abbrev pub package_text : Package → PackageText
package_text p = record {
  id = p.id.now;
  name = p.name.now;
  version = p.version.now;
  source = option_map (λ t. t.now) p.source;
  features = map feature_text p.features.items;
  declarations = map declaration_text p.declarations.items;
  targets = map target_text p.targets.items;
}
