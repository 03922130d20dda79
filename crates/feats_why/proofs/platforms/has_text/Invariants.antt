use Rattle.std.proofs.Common.{◌≡◌, drop}
use Rattle.std.specs.List.{list_any}
use Rattle.std.specs.Str.{bytes_eq}
use Rattle.cargo_workspaces.specs.Views.{texts}
use Rattle.feats_why.proofs.platforms.has_text.Given as goal

abbrev pub invariant-loop-other : goal.invariant-loop-other
invariant-loop-other l = list_any (bytes_eq l.text) (texts l.texts) ≡ list_any (bytes_eq l.text) (texts (drop l.other-index l.texts))
