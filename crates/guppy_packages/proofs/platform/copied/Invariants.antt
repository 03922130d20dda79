use Rattle.std.proofs.Common.{◌≡◌, map, take}
use Rattle.guppy_packages.specs.Platform.{spec_text}
use Rattle.guppy_packages.proofs.platform.copied.Given as goal

abbrev pub invariant-loop-spec : goal.invariant-loop-spec
invariant-loop-spec l = map spec_text l.all.items ≡ map spec_text (take l.spec-index l.specs)
