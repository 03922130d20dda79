use Rattle.std.proofs.Common.{◌≡◌, ℕ, map, drop}
use Rattle.json.specs.Value.{items_view}
use Rattle.cargo_json.specs.declared.fault.Place.TheVariants as place
use Rattle.workspace_documents.specs.Lists.{each}
use Rattle.workspace_documents.specs.Packages.{declaration_in}
use Rattle.workspace_documents.specs.Views.{declaration_view}
use Rattle.workspace_documents.proofs.Lists.{prepend}
use Rattle.workspace_documents.proofs.packages.declarations_of.Given as goal

abbrev pub invariant-loop-dependency : goal.invariant-loop-dependency
invariant-loop-dependency l =
    let read = λ (i : ℕ). declaration_in (place.Dependency l.package i) in
    each read 0 (items_view l.objects.items) ≡ prepend (map declaration_view l.declarations.items) (each read l.dependency (items_view (drop l.dependency l.object-items)))
