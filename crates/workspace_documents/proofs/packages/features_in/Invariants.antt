use Rattle.std.proofs.Common.{◌≡◌, map}
use Rattle.workspace_documents.specs.Packages.{features_of}
use Rattle.cargo_workspaces.specs.Views.{feature_text}
use Rattle.workspace_documents.specs.Views.{entries_view}
use Rattle.workspace_documents.proofs.Lists.{prepend, shown}
use Rattle.workspace_documents.proofs.packages.features_in.Given as goal

abbrev pub invariant-loop-name : goal.invariant-loop-name
invariant-loop-name l =
    features_of l.place (entries_view shown l.members.entries) ≡ prepend (map feature_text l.features.items) (features_of l.place (entries_view shown l.name-iterator))
