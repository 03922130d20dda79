use Rattle.std.proofs.Common.{◌≡◌, map, drop}
use Rattle.toml.specs.View.{view}
use Rattle.cargo_manifests.specs.inherited.Inheritances.{table_in}
use Rattle.cargo_manifests.proofs.inherited.inheritance.table_in.Given as goal

abbrev pub invariant-loop-manifest : goal.invariant-loop-manifest
invariant-loop-manifest l = table_in (map view l.manifests) ≡ table_in (map view (drop l.manifest-index l.manifests))
