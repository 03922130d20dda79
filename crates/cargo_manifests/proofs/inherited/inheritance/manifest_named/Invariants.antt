use Rattle.std.proofs.Common.{◌≡◌, map, drop}
use Rattle.toml.specs.View.{view}
use Rattle.cargo_manifests.specs.inherited.Inheritances.{manifest_named}
use Rattle.cargo_manifests.proofs.inherited.inheritance.manifest_named.Given as goal

abbrev pub invariant-loop-manifest : goal.invariant-loop-manifest
invariant-loop-manifest l = manifest_named l.name (map view l.manifests) ≡ manifest_named l.name (map view (drop l.manifest-index l.manifests))
