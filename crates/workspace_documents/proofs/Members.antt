-- The ids of members, one after the other.
use Rattle.std.proofs.Common.{◌≡◌, ◌∙◌, refl, ℕ, ◌+◌, ◌<◌, List, ◌∷◌, map, length, drop, get_or, add-one, drop-cons, Bor}
use Rattle.std.specs.Prelude.{Result, Ok, Err, ⊤}
use Rattle.cargo_json.specs.declared.fault.Place.TheVariants as place
use Rattle.cargo_json.specs.Faults.{Text, Refusal, IfNotMemory}
use Rattle.workspace_documents.specs.Lists.{ById}
use Rattle.workspace_documents.specs.Packages.{PackageText}
use Rattle.workspace_documents.specs.Nodes.{package_at, known}
use Rattle.workspace_documents.specs.Views.{text_view}
use Rattle.workspace_documents.proofs.Lists.{if_not_memory}

module _ (packages : ById PackageText) (name : Text) (ids : List (Bor Text)) (i : ℕ) (z : Bor Text) (whole : Result ⊤ Refusal) (within : i < length ids) (so : whole ≡ known packages name (map text_view (drop i ids))) where
  abbrev here : Text
  here = (get_or ids i z).now

  at : map text_view (drop i ids) ≡ here ∷ map text_view (drop (i + 1) ids)
  at = rw (add-one, drop-cons ids i z within) refl

  pub known_more : (p : PackageText) → package_at packages place.Document name here ≡ Ok p → whole ≡ known packages name (map text_view (drop (i + 1) ids))
  known_more p found = so ∙ rw (at, found) refl

  pub known_refused : (e : Refusal) → IfNotMemory e (package_at packages place.Document name here ≡ Err e) → IfNotMemory e (whole ≡ Err e)
  known_refused e refused = if_not_memory e (λ (q : package_at packages place.Document name here ≡ Err e). so ∙ (rw (at, q) refl)) refused
