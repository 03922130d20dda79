use Rattle.std.proofs.Common.{◌≡◌, ◌++◌, flat_map, drop}
use Rattle.guppy_packages.specs.Items.{item_of}
use Rattle.cargo_workspaces.specs.Views.{feature_text, texts}
use Rattle.cargo_workspaces.specs.Workspaces.{Text}
use Rattle.feats_unused.specs.Used.{own_feature, turned_on}
use Rattle.feats_unused.proofs.used.names_in.Given as goal

abbrev pub invariant-loop-item : goal.invariant-loop-item
invariant-loop-item l =
    turned_on (feature_text l.feature) ≡ texts l.names.items ++ flat_map (λ (t : Text). own_feature (item_of t)) (texts (drop l.item-index l.feature.items.items))
