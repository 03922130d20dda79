use Rattle.std.proofs.Common.{◌≡◌, map, take}
use Rattle.cargo_workspaces.specs.Views.{package_text}
use Rattle.plan_rows.specs.Gates.{gated_text}
use Rattle.plan_rows.specs.Steps.{gated_feature}
use Rattle.plan_rows.proofs.gated_features.features_of_packages.Given as goal

abbrev pub invariant-loop-ix : goal.invariant-loop-ix
invariant-loop-ix l = map (λ p. map gated_text p.items) l.all.items ≡ map (λ p. map gated_feature p.features) (map package_text (take l.ix l.packages))
