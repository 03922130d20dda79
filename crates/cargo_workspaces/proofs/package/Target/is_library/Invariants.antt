use Rattle.std.proofs.Common.{◌≡◌, drop}
use Rattle.std.specs.List.{list_any}
use Rattle.cargo_workspaces.specs.Workspaces.{is_library_kind}
use Rattle.cargo_workspaces.specs.Views.{texts}
use Rattle.cargo_workspaces.proofs.package.Target.is_library.Given as goal

abbrev pub invariant-loop-word : goal.invariant-loop-word
invariant-loop-word l =
    list_any is_library_kind (texts l.self.kinds.items) ≡ list_any is_library_kind (texts (drop l.word-index l.self.kinds.items))
