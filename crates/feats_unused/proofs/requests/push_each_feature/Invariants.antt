use Rattle.std.proofs.Common.{◌≡◌, ◌++◌, List, flat_map, map, drop}
use Rattle.cargo_workspaces.specs.Views.{feature_text}
use Rattle.cargo_workspaces.specs.Workspaces.{DeclarationText}
use Rattle.feats_unused.specs.Requests.{by_feature}
use Rattle.feats_unused.specs.Views.{request_text}
use Rattle.feats_unused.specs.inner.Groups.{HasLeads}
use Rattle.feats_unused.proofs.requests.push_each_feature.Given as goal

abbrev pub invariant-loop-feature : goal.invariant-loop-feature
invariant-loop-feature l =
    (ds : List DeclarationText) → HasLeads l.leads ds →
    map request_text l.initial.requests.items ++ flat_map (by_feature l.from ds) (map feature_text l.features)
    ≡ map request_text l.requests.items ++ flat_map (by_feature l.from ds) (map feature_text (drop l.feature-index l.features))
