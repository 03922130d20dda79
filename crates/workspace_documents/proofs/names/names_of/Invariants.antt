use Rattle.std.proofs.Common.{◌≡◌, ◌++◌, drop, map}
use Rattle.cargo_json.specs.Faults.{Text}
use Rattle.workspace_documents.specs.Names.{at_places, of_name, places_of}
use Rattle.workspace_documents.specs.Views.{dep_view}
use Rattle.workspace_documents.proofs.names.names_of.Given as goal

abbrev pub invariant-loop-place : goal.invariant-loop-place
invariant-loop-place l = (q : Text) → of_name q (map dep_view l.deps) ≡ at_places (map dep_view l.deps) (places_of l.names q) ++ of_name q (map dep_view (drop l.place l.deps))
