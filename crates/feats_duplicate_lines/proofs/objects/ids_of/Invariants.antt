use Rattle.std.proofs.Common.{◌≡◌, ◌++◌, map, drop}
use Rattle.cargo_workspaces.specs.Views.{texts}
use Rattle.cargo_workspaces.specs.Workspaces.{PackageText}
use Rattle.feats_duplicate_lines.specs.Views.{dependents_text}
use Rattle.feats_duplicate_lines.proofs.objects.ids_of.Given as goal

abbrev pub invariant-loop-dependent : goal.invariant-loop-dependent
invariant-loop-dependent l =
    let id = λ (p : PackageText). p.id in
    map id (dependents_text l.dependents) ≡ texts l.ids.items ++ map id (dependents_text (drop l.dependent-index l.dependents))
