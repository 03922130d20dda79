use Rattle.std.proofs.Common.{◌≡◌, ℕ, ◌∷◌, drop, option_map}
use Rattle.std.specs.Prelude.{Ok}
use Rattle.json.specs.Value.{items_view}
use Rattle.cargo_json.specs.declared.fault.Place.TheVariants as place
use Rattle.cargo_json.specs.Faults.{◌>>=◌}
use Rattle.workspace_documents.specs.Lists.{each, first_some}
use Rattle.workspace_documents.specs.Packages.{library_in, first_library}
use Rattle.workspace_documents.specs.Views.{text_view}
use Rattle.workspace_documents.proofs.packages.first_library.Given as goal

abbrev pub invariant-loop-target : goal.invariant-loop-target
invariant-loop-target l =
    first_library l.package (items_view l.objects.items) ≡ (each (λ (i : ℕ). library_in (place.Target l.package i)) l.target (items_view (drop l.target l.objects.items)) >>= λ names. Ok (first_some (option_map text_view l.first ∷ names)))
