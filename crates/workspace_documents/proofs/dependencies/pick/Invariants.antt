use Rattle.std.proofs.Common.{◌≡◌, map, take}
use Rattle.workspace_documents.specs.Dependencies.{pick}
use Rattle.workspace_documents.specs.Names.{at_places}
use Rattle.workspace_documents.specs.inner.Picks.{found_view, answers}
use Rattle.workspace_documents.specs.Views.{declaration_view, dep_view}
use Rattle.workspace_documents.proofs.dependencies.pick.Given as goal

abbrev pub invariant-loop-place : goal.invariant-loop-place
invariant-loop-place l = found_view l.found ≡ pick (answers l.asked) l.owner (declaration_view l.declaration) (at_places (map dep_view l.deps) (take l.place-index l.places))
