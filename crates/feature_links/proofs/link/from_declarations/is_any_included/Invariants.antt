use Rattle.std.proofs.Common.{◌≡◌, false, take}
use Rattle.std.specs.List.{list_any}
use Rattle.guppy_packages.specs.Stored.{declared}
use Rattle.feature_links.specs.Links.{includes}
use Rattle.feature_links.proofs.link.from_declarations.is_any_included.Given as goal

abbrev pub invariant-loop-declaration : goal.invariant-loop-declaration
invariant-loop-declaration l = list_any (λ d. includes l.which (declared d)) (take l.declaration-index l.declarations) ≡ false
