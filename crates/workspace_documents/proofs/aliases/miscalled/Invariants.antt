use Rattle.std.proofs.Common.{◌≡◌, take}
use Rattle.std.specs.List.{list_any}
use Rattle.cargo_json.specs.Faults.{Text}
use Rattle.workspace_documents.specs.inner.Aliases.{has_id, is_miscalled}
use Rattle.workspace_documents.proofs.aliases.miscalled.Given as goal

abbrev pub invariant-loop-dependency : goal.invariant-loop-dependency
invariant-loop-dependency l = (q : Text) → has_id l.ids q ≡ list_any (is_miscalled l.names q) (take l.dependency-index l.dependencies)
