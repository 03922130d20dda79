use Rattle.std.proofs.Common.{◌≡◌, ◌++◌, List, filter, map, drop}
use Rattle.std.specs.List.{list_any}
use Rattle.std.specs.Str.{bytes_eq}
use Rattle.cargo_workspaces.specs.Views.{feature_text, package_text, texts}
use Rattle.cargo_workspaces.specs.Workspaces.{FeatureText, Text}
use Rattle.feats_duplicates.specs.Features.{names_among}
use Rattle.feats_duplicates.specs.inner.Sets.{HasTexts}
use Rattle.feats_duplicates.proofs.features.names_in.Given as goal

abbrev pub invariant-loop-feature : goal.invariant-loop-feature
invariant-loop-feature l =
    (some : List Text) → HasTexts l.set some →
    names_among (package_text l.«package») some
    ≡ texts l.names.items ++ map (λ (f : FeatureText). f.name) (filter (λ (f : FeatureText). list_any (bytes_eq f.name) some) (map feature_text (drop l.feature-index l.«package».features.items)))
