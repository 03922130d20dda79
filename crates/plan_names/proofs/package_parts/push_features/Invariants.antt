use Rattle.std.proofs.Common.{◌≡◌, ◌++◌, List, map, drop}
use Rattle.std.specs.List.{filter}
use Rattle.cargo_workspaces.specs.Views.{feature_text}
use Rattle.cargo_workspaces.specs.Workspaces.{FeatureText}
use Rattle.plan_names.specs.Names as spec
use Rattle.plan_words.specs.Patterns.{fits}
use Rattle.plan_names.specs.Views.{named_text}
use Rattle.plan_names.proofs.package_parts.push_features.Given as goal

abbrev pub invariant-loop-feature : goal.invariant-loop-feature
invariant-loop-feature l =
    let parts = λ (fs : List FeatureText). map (spec.of_package l.ix) (map spec.feature (filter (fits l.pattern) (map (λ f. f.name) fs))) in
    map named_text l.initial.named.items ++ parts (map feature_text l.«package».features.items)
    ≡ map named_text l.named.items ++ parts (map feature_text (drop l.feature-index l.«package».features.items))
