use Rattle.std.proofs.Common.{◌++◌, List, drop, map}
use Rattle.cargo_workspaces.specs.Views.{feature_text, package_text, texts}
use Rattle.cargo_workspaces.specs.Workspaces.{Text}
use Rattle.feats_unused.specs.Unused.{AreUnused}
use Rattle.feats_unused.specs.inner.Marks.{AreUsed}
use Rattle.feats_unused.proofs.unused.names_without.Given as goal

abbrev pub invariant-loop-number : goal.invariant-loop-number
invariant-loop-number l =
    (asked : List Text) → AreUsed asked (package_text l.«package»).features l.used → (rest : List Text) →
    AreUnused asked (package_text l.«package»).features (map feature_text (drop l.number l.«package».features.items)) rest →
    AreUnused asked (package_text l.«package»).features (package_text l.«package»).features (texts l.names.items ++ rest)
