use Rattle.std.proofs.Common.{◌≡◌, ◌++◌, map, drop}
use Rattle.cargo_plans.specs.built_parts.BuiltViews.{is_built_in}
use Rattle.cargo_workspaces.specs.Views.{feature_text}
use Rattle.feats_list.specs.features.Lists.{listed_features}
use Rattle.feats_list.specs.features.inner.Listed.{listed_text}
use Rattle.feats_list.proofs.features.listed.push_features.Given as goal

abbrev pub invariant-loop-feature : goal.invariant-loop-feature
invariant-loop-feature l =
    map listed_text l.initial.list.items ++ listed_features (is_built_in l.parts) l.ix (map feature_text l.features)
    ≡ map listed_text l.list.items ++ listed_features (is_built_in l.parts) l.ix (map feature_text (drop l.feature-index l.features))
