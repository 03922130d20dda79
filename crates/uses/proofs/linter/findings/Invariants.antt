use Rattle.std.proofs.Common.{map, take}
use Rattle.guppy_features.specs.Platforms.{platform_offers}
use Rattle.guppy_features.specs.PlatformViews.{kinds_of, specs_of}
use Rattle.uses.specs.Linted.{finding_name}
use Rattle.uses.proofs.Linted.{AreCleared}
use Rattle.uses.proofs.linter.findings.Given as goal

-- each that was looked at is named, or off
abbrev pub invariant-loop-id : goal.invariant-loop-id
invariant-loop-id l = AreCleared l.fn.query (platform_offers (kinds_of l.fn.platform) (specs_of l.fn.platform) l.fn.query.graph) (map finding_name l.found.items) (take l.id-index l.forbidden)
