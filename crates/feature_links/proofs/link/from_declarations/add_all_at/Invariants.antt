use Rattle.std.proofs.Common.{map, take}
use Rattle.guppy_packages.specs.Stored.{declared}
use Rattle.feature_links.specs.Links.{at_places}
use Rattle.feature_links.proofs.LinkLemmas.{Gathers}
use Rattle.feature_links.proofs.link.from_declarations.add_all_at.Given as goal

abbrev pub invariant-loop-place : goal.invariant-loop-place
invariant-loop-place l = Gathers l.initial.statuses l.statuses l.any (at_places (map declared l.declarations) (take l.place-index l.places))
