use Rattle.std.proofs.Common.{◌≡◌, ◌++◌, map}
use Rattle.workspace_documents.specs.Views.{text_view, package_view, entries_view}
use Rattle.feats_plans.specs.numbered_workspaces.Numbers.{ids_of}
use Rattle.feats_plans.proofs.numbered_workspaces.numbers.ids_of.Given as goal

abbrev pub invariant-loop-id : goal.invariant-loop-id
invariant-loop-id l = ids_of (entries_view package_view l.packages.entries) ≡ map text_view l.ids.items ++ ids_of (entries_view package_view l.id-iterator)
