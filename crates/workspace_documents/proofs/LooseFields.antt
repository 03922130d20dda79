-- Fields that may be missing, and the targets of a package, one after the other.
use Rattle.std.proofs.Common.{◌≡◌, ◌∙◌, sym, refl, ℕ, ◌+◌, ◌<◌, List, [], ◌∷◌, ◌++◌, length, drop, get_or, append_assoc}
use Rattle.std.specs.Prelude.{Option, Some, None, Ok, Err, option_and_then}
use Rattle.std.specs.Option.{unwrap_or}
use Rattle.std.specs.declared.alloc.Global.{Global}
use Rattle.json.specs.Json.{Json}
use Rattle.json.specs.Find.{get, as_array}
use Rattle.json.specs.Value.{value_view, items_view}
use Rattle.json.specs.declared.value.Value.{Value}
use Rattle.cargo_json.specs.declared.fault.Place.{Place}
use Rattle.cargo_json.specs.Faults.{Text, Refusal}
use Rattle.cargo_json.specs.Fields.{wanted, all_texts, texts_in}
use Rattle.cargo_workspaces.specs.Workspaces.{TargetText}
use Rattle.workspace_documents.specs.Targets.{texts_at, target_in, targets_in}
use Rattle.workspace_documents.proofs.Entries.{item_at}

read : (at : Place) (name : Text) (found : Option (List Text)) (texts : List Text) → wanted at name found ≡ Ok texts → texts ≡ unwrap_or found []
read at name (Some found) texts e = cc
read at name None texts e = cc

unread : (at : Place) (name : Text) (found : Option (List Text)) (refusal : Refusal) → wanted at name found ≡ Err refusal → [] ≡ unwrap_or found []
unread at name (Some found) refusal e = cc
unread at name None refusal e = refl

pub texts_read : (at : Place) (name : Text) (d : Json) (texts : List Text) → texts_in at name d ≡ Ok texts → texts ≡ texts_at name d
unfolding texts_at
texts_read at name d texts e = read at name (option_and_then all_texts (option_and_then as_array (get name d))) texts e

pub texts_unread : (at : Place) (name : Text) (d : Json) (refusal : Refusal) → texts_in at name d ≡ Err refusal → [] ≡ texts_at name d
unfolding texts_at
texts_unread at name d refusal e = unread at name (option_and_then all_texts (option_and_then as_array (get name d))) refusal e

-- one more target
pub targets_more : (vs : List (Value Global)) (i : ℕ) (v : Value Global) (so_far whole : List TargetText) (t : TargetText) → i < length vs → v ≡ get_or vs i v → t ≡ target_in (value_view v) → whole ≡ so_far ++ targets_in (items_view (drop i vs)) → whole ≡ (so_far ++ t ∷ []) ++ targets_in (items_view (drop (i + 1) vs))
targets_more vs i v so_far whole t within is read so =
    so ∙ rw (item_at vs i v within is, sym read) (sym (append_assoc so_far (t ∷ []) (targets_in (items_view (drop (i + 1) vs)))))
