use Rattle.std.proofs.Common.{◌≡◌, map, take}
use Rattle.cargo_workspaces.specs.Views.{feature_text}
use Rattle.plan_rows.specs.Gates.{gated_text}
use Rattle.plan_rows.specs.Steps.{gated_feature}
use Rattle.plan_rows.proofs.gated_features.gated_features.Given as goal

abbrev pub invariant-loop-ix : goal.invariant-loop-ix
invariant-loop-ix l = map gated_text l.all.items ≡ map gated_feature (map feature_text (take l.ix l.features))
