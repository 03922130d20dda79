use Rattle.std.proofs.Common.{map, ◌≡◌, drop}
use Rattle.json.specs.Value.{items_view}
use Rattle.cargo_json.specs.Fields.{all_texts}
use Rattle.cargo_json.proofs.Texts.{after}
use Rattle.cargo_json.proofs.fields.texts_of.Given as goal

-- The texts so far, then the texts of the items to come, are the texts of all items.
abbrev pub invariant-loop-item : goal.invariant-loop-item
invariant-loop-item l = all_texts (items_view l.items.items) ≡ after (map (λ s. s.now) l.texts.items) (all_texts (items_view (drop l.item-index l.item-items)))
