use Rattle.std.proofs.Common.{◌≡◌, drop}
use Rattle.std.specs.List.{list_any}
use Rattle.std.specs.Str.{bytes_eq}
use Rattle.cargo_workspaces.specs.Views.{texts}
use Rattle.feats_slim.proofs.edits.places.is_listed.Given as goal

abbrev pub invariant-loop-feature : goal.invariant-loop-feature
invariant-loop-feature l = list_any (bytes_eq l.name) (texts l.features) ≡ list_any (bytes_eq l.name) (texts (drop l.feature-index l.features))
