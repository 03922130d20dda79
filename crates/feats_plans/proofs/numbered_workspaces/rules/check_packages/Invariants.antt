use Rattle.std.proofs.Common.{◌≡◌, map, drop}
use Rattle.cargo_workspaces.specs.Views.{package_text}
use Rattle.workspace_documents.specs.Lists.{first_some}
use Rattle.feats_plans.specs.numbered_workspaces.Faults.{fault_of}
use Rattle.feats_plans.proofs.numbered_workspaces.rules.check_packages.Given as goal

abbrev pub invariant-loop-package : goal.invariant-loop-package
invariant-loop-package l = first_some (map fault_of (map package_text l.packages)) ≡ first_some (map fault_of (map package_text (drop l.package-index l.packages)))
