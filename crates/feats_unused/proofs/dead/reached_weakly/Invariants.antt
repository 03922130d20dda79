use Rattle.std.proofs.Common.{◌≡◌, ◌++◌, List, filter, map, drop}
use Rattle.cargo_workspaces.specs.Views.{declaration_text, texts}
use Rattle.cargo_workspaces.specs.Workspaces.{DeclarationText, Text}
use Rattle.feats_unused.specs.Dead.{can_be_on, leading}
use Rattle.feats_unused.specs.inner.Groups.{HasTexts}
use Rattle.feats_unused.proofs.dead.reached_weakly.Given as goal

abbrev pub invariant-loop-declaration : goal.invariant-loop-declaration
invariant-loop-declaration l =
    (some : List Text) → HasTexts l.on some →
    map (λ (d : DeclarationText). d.name) (filter (can_be_on some) (leading (map declaration_text l.declarations)))
    ≡ texts l.names.items ++ map (λ (d : DeclarationText). d.name) (filter (can_be_on some) (leading (map declaration_text (drop l.declaration-index l.declarations))))
