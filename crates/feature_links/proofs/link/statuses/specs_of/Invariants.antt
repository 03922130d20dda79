use Rattle.std.proofs.Common.{◌≡◌, map, take}
use Rattle.guppy_packages.specs.Platform.{spec_text}
use Rattle.feature_links.proofs.link.statuses.specs_of.Given as goal

abbrev pub invariant-loop-text : goal.invariant-loop-text
invariant-loop-text l = map spec_text l.specs.items ≡ map (λ t. t.now) (take l.text-index l.texts)
