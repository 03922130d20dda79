use Rattle.std.proofs.Common.{◌≡◌, map, drop}
use Rattle.cargo_workspaces.specs.Views.{feature_text}
use Rattle.workspace_documents.specs.Lists.{first_some}
use Rattle.feats_plans.specs.numbered_workspaces.Faults.{bad_name}
use Rattle.feats_plans.proofs.numbered_workspaces.rules.bad_name.Given as goal

abbrev pub invariant-loop-feature : goal.invariant-loop-feature
invariant-loop-feature l = first_some (map bad_name (map feature_text l.features)) ≡ first_some (map bad_name (map feature_text (drop l.feature-index l.features)))
