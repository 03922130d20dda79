use Rattle.std.proofs.Common.{◌≡◌, map, take}
use Rattle.std.specs.String.{string_bytes}
use Rattle.cargo_workspaces.specs.Views.{feature_text}
use Rattle.plan_rows.specs.Gates.{gates_of}
use Rattle.plan_rows.proofs.gates.gates_of_features.Given as goal

abbrev pub invariant-loop-feature : goal.invariant-loop-feature
invariant-loop-feature l = map (λ f. map string_bytes f.items) l.all.items ≡ map gates_of (map feature_text (take l.feature-index l.features))
