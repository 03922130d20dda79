use Rattle.std.proofs.Common.{◌≡◌, ◌++◌, List, flat_map, map, drop}
use Rattle.guppy_packages.specs.Items.{item_of}
use Rattle.cargo_workspaces.specs.Views.{texts}
use Rattle.cargo_workspaces.specs.Workspaces.{DeclarationText, Text}
use Rattle.feats_unused.specs.Requests.{by_item}
use Rattle.feats_unused.specs.Views.{request_text}
use Rattle.feats_unused.specs.inner.Groups.{HasLeads}
use Rattle.feats_unused.proofs.requests.push_items.Given as goal

abbrev pub invariant-loop-item : goal.invariant-loop-item
invariant-loop-item l =
    (ds : List DeclarationText) → HasLeads l.leads ds →
    map request_text l.initial.requests.items ++ flat_map (λ (t : Text). by_item l.from ds (item_of t)) (texts l.items)
    ≡ map request_text l.requests.items ++ flat_map (λ (t : Text). by_item l.from ds (item_of t)) (texts (drop l.item-index l.items))
