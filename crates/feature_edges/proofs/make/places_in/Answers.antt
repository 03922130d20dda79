use Rattle.std.proofs.Common.{◌∙◌, ap, eqb}
use Rattle.std.specs.List.{dedup}
use Rattle.std.proofs.lemmas.List.Filters.{dedup_is}
use Rattle.feature_edges.proofs.make.places_in.Goals as goal

pub returns : goal.returns
returns c = dedup_is eqb _ _ c.dedup.ensures.filtered ∙ ap (dedup eqb) c.in_ok-places.ensures
