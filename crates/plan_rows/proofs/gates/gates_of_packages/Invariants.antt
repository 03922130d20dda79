use Rattle.std.proofs.Common.{◌≡◌, map, take}
use Rattle.std.specs.String.{string_bytes}
use Rattle.cargo_workspaces.specs.Views.{package_text}
use Rattle.plan_rows.specs.Gates.{gates_of}
use Rattle.plan_rows.proofs.gates.gates_of_packages.Given as goal

abbrev pub invariant-loop-package : goal.invariant-loop-package
invariant-loop-package l = map (λ p. map (λ f. map string_bytes f.items) p.items) l.all.items ≡ map (λ p. map gates_of p.features) (map package_text (take l.package-index l.packages))
