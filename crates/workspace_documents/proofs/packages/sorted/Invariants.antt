use Rattle.std.proofs.Common.{◌≡◌, [], drop}
use Rattle.json.specs.Value.{members_view}
use Rattle.workspace_documents.specs.Packages.{sorted}
use Rattle.workspace_documents.specs.Views.{entries_view}
use Rattle.workspace_documents.proofs.Entries.{shown_value}
use Rattle.workspace_documents.proofs.packages.sorted.Given as goal

abbrev pub invariant-loop-name : goal.invariant-loop-name
invariant-loop-name l = sorted [] (members_view l.members.items) ≡ sorted (entries_view shown_value l.sorted.entries) (members_view (drop l.name-index l.name-items))
