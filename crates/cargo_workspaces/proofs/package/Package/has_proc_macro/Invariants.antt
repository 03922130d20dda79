use Rattle.std.proofs.Common.{◌≡◌, map, drop}
use Rattle.std.specs.List.{list_any}
use Rattle.cargo_workspaces.specs.Workspaces.{is_macro_target}
use Rattle.cargo_workspaces.specs.Views.{target_text}
use Rattle.cargo_workspaces.proofs.package.Package.has_proc_macro.Given as goal

abbrev pub invariant-loop-target : goal.invariant-loop-target
invariant-loop-target l =
    list_any is_macro_target (map target_text l.self.targets.items) ≡ list_any is_macro_target (map target_text (drop l.target-index l.self.targets.items))
