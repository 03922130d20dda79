use Rattle.std.proofs.Common.{◌≡◌, drop}
use Rattle.toml.specs.View.{items_view}
use Rattle.cargo_manifests.specs.inherited.Entries.{has_text}
use Rattle.cargo_manifests.proofs.inherited.entries.has_text.Given as goal

abbrev pub invariant-loop-value : goal.invariant-loop-value
invariant-loop-value l = has_text l.text (items_view l.items) ≡ has_text l.text (items_view (drop l.value-index l.items))
