use Rattle.std.proofs.Common.{◌≡◌, map, drop}
use Rattle.cargo_workspaces.specs.Views.{declaration_text, feature_text}
use Rattle.plan_starts.specs.Lists.{first_some}
use Rattle.cargo_plans.specs.plan_units.Lacking.{lack_of_feature}
use Rattle.cargo_plans.proofs.plan_units.lacking.lack_of_features.Given as goal

abbrev pub invariant-loop-feature : goal.invariant-loop-feature
invariant-loop-feature l =
    let f = lack_of_feature l.on l.ix (map declaration_text l.declarations) in
    first_some f (map feature_text l.features) ≡ first_some f (map feature_text (drop l.feature-index l.features))
