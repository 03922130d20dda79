use Rattle.std.proofs.Common.{◌≡◌, ◌++◌, flat_map, map, drop}
use Rattle.cargo_workspaces.specs.Views.{texts}
use Rattle.feats_unused.specs.Requests.{request}
use Rattle.feats_unused.specs.Views.{request_text}
use Rattle.feats_unused.proofs.requests.push_features.Given as goal

abbrev pub invariant-loop-feature : goal.invariant-loop-feature
invariant-loop-feature l =
    map request_text l.initial.requests.items ++ flat_map (request l.from l.to) (texts l.features) ≡ map request_text l.requests.items ++ flat_map (request l.from l.to) (texts (drop l.feature-index l.features))
