use Rattle.std.proofs.Common.{◌≡◌, ℕ, drop}
use Rattle.json.specs.Value.{items_view}
use Rattle.cargo_json.specs.declared.fault.Place.TheVariants as place
use Rattle.workspace_documents.specs.Lists.{each}
use Rattle.workspace_documents.specs.Nodes.{uses_in}
use Rattle.workspace_documents.specs.Packages.{use_in}
use Rattle.workspace_documents.specs.Views.{uses_view}
use Rattle.workspace_documents.proofs.UseSets.{with_rest}
use Rattle.workspace_documents.proofs.uses.uses_of.Given as goal

abbrev pub invariant-loop-kind : goal.invariant-loop-kind
invariant-loop-kind l =
    let read = λ (k : ℕ). use_in (place.DepKind l.node l.dep k) in
    uses_in l.node l.dep (items_view l.objects.items) ≡ with_rest (uses_view l.uses) (each read l.kind (items_view (drop l.kind l.object-items)))
