use Rattle.std.proofs.Common.{◌∙◌, ◌+◌, ◌<◌, ◌∷◌, [], length, map, take, get_or, arith}
use Rattle.std.specs.Prelude.{slice_get}
use Rattle.guppy_packages.specs.Stored.{declared}
use Rattle.feature_links.specs.Links.{at_places}
use Rattle.feature_links.proofs.LinkLemmas.{gathers_more, at_places_more, some_one}
use Rattle.feature_links.proofs.link.from_declarations.add_all_at.Goals as goal

pub loop-place-preserved : goal.loop-place-preserved
loop-place-preserved c =
    let ds = map declared c.args.declarations.now in
    let i = c.loop-place.place-index in
    let places = c.args.places.now in
    let below : i < length places = omega arith in
    gathers_more c.args.statuses.now c.loop-place.statuses c.add_at.new.statuses c.loop-place.any c.in_ok-added.added (at_places ds (take i places)) (at_places ds (get_or places i 0 ∷ [])) (at_places ds (take (i + 1) places))
    c.loop-place.invariant c.in_ok-added.ensures.kinds (c.in_ok-added.ensures.added ∙ some_one (slice_get ds (get_or places i 0))) (at_places_more ds places i below)
