use Rattle.std.proofs.Common.{◌≡◌, drop}
use Rattle.std.specs.List.{list_any}
use Rattle.std.specs.Str.{bytes_eq}
use Rattle.cargo_workspaces.specs.Views.{texts}
use Rattle.feats_policies.proofs.checks.platforms.is_among.Given as goal

abbrev pub invariant-loop-known : goal.invariant-loop-known
invariant-loop-known l =
    list_any (bytes_eq l.triple) (texts l.triples) ≡ list_any (bytes_eq l.triple) (texts (drop l.known-index l.triples))
