use Rattle.std.proofs.Common.{map, take}
use Rattle.std.specs.Prelude.{filter}
use Rattle.guppy_packages.specs.Stored.{declared}
use Rattle.feature_links.specs.Links.{includes}
use Rattle.feature_links.proofs.LinkLemmas.{Gathers}
use Rattle.feature_links.proofs.link.from_declarations.add_all_included.Given as goal

abbrev pub invariant-loop-declaration : goal.invariant-loop-declaration
invariant-loop-declaration l = Gathers l.initial.statuses l.statuses l.any (filter (λ d. includes l.which d) (map declared (take l.declaration-index l.declarations)))
