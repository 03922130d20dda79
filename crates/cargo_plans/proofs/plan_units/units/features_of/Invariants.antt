use Rattle.std.proofs.Common.{◌≡◌, ◌++◌, map, drop}
use Rattle.std.specs.Prelude.{filter}
use Rattle.plan_starts.specs.feature_labels.Names.LabelName.{named}
use Rattle.cargo_workspaces.specs.Views.{feature_text, package_text, texts}
use Rattle.cargo_workspaces.specs.Workspaces.{FeatureText}
use Rattle.plan_starts.specs.PackageVisits.{is_on}
use Rattle.cargo_plans.specs.plan_units.Units.{features_on}
use Rattle.cargo_plans.proofs.plan_units.units.features_of.Given as goal

abbrev pub invariant-loop-feature : goal.invariant-loop-feature
invariant-loop-feature l =
    let test = λ (f : FeatureText). is_on l.on l.side l.ix (named f.name) in
    features_on l.on l.side l.ix (package_text l.«package»)
    ≡ texts l.names.items ++ map (λ f. f.name) (filter test (map feature_text (drop l.feature-index l.«package».features.items)))
