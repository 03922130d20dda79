use Rattle.std.proofs.Common.{◌≡◌, ◌++◌, map, drop}
use Rattle.json.specs.Value.{items_view}
use Rattle.cargo_workspaces.specs.Views.{target_text}
use Rattle.workspace_documents.specs.Targets.{targets_in}
use Rattle.workspace_documents.proofs.targets.targets_of.Given as goal

abbrev pub invariant-loop-object : goal.invariant-loop-object
invariant-loop-object l = targets_in (items_view l.objects.items) ≡ map target_text l.targets.items ++ targets_in (items_view (drop l.object-index l.object-items))
