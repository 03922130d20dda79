use Rattle.std.proofs.Common.{List, ◌++◌, take}
use Rattle.cargo_workspaces.specs.Views.{texts}
use Rattle.cargo_workspaces.specs.Workspaces.{Text}
use Rattle.feats_duplicates.specs.inner.Sets.{HasTexts}
use Rattle.feats_duplicates.proofs.features.insert_all.Given as goal

abbrev pub invariant-loop-feature : goal.invariant-loop-feature
invariant-loop-feature l =
    (names : List Text) → HasTexts l.initial.set names → HasTexts l.set (names ++ texts (take l.feature-index l.features))
