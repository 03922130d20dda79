use Rattle.std.proofs.Common.{◌≡◌, ◌∙◌, ◌∷◌, [], Some, ap, get_or, length, map, refl}
use Rattle.std.specs.Prelude.{slice_get}
use Rattle.std.specs.Option.{option_map}
use Rattle.std.proofs.lemmas.Option.{slice_get-map, slice_get_read}
use Rattle.guppy_packages.specs.Metadata.{link_table_of}
use Rattle.guppy_packages.specs.Stored.{declared}
use Rattle.std.specs.List.{cons_option}
use Rattle.feature_links.specs.inner.Collected.{wanted_parts}
use Rattle.feature_links.specs.Links.{at_places, over_parts}
use Rattle.std.proofs.lemmas.Result.{IfOk-weaker}
use Rattle.feature_links.proofs.LinkLemmas.{one_link, one_place}
use Rattle.feature_links.proofs.SectionLemmas.{passing_over}
use Rattle.feature_links.proofs.link.from_declarations.section_link.Goals as goal

pub returns : goal.returns
returns c =
    let ds = c.declarations-declarations.result.now in
    let which = c.args.which in
    let places = c.args.places.now in
    let place = get_or places 0 0 in
    let d = c.index-declarations-place.result in
    let there : slice_get (map declared ds) place ≡ Some (declared d) = slice_get-map declared ds place ∙ ap (option_map declared) (slice_get_read ds (length ds) place d refl c.if-place-declarations.true c.index-declarations-place.is) in
    IfOk-weaker c.link_over_one.result _ _ (λ l holds link passes is passing.
    holds
    ∙ one_place which c.args.link_ix (map declared ds) places (declared d) c.in-len1.len_at_least c.in-len1.len_below there
    ∙ ap (λ z. over_parts which ((c.args.link_ix, at_places z places) ∷ [])) c.declarations-declarations.ensures
    ∙ ap (λ l. over_parts which ((c.args.link_ix, at_places l.declarations places) ∷ [])) (one_link c.args.graph.now c.args.link_ix (link_table_of c.link.result) link c.link.ensures.link is)
    ∙ passing_over passes which c.args.link_ix link places passing) c.link_over_one.ensures

pub returns-2 : goal.returns-2
returns-2 c =
    let k = c.args.link_ix in
    IfOk-weaker c.collected.result _ _ (λ l holds link passes is passing.
    holds ∙ ap (λ o. over_parts c.args.which (wanted_parts c.args.which (Some c.args.places) (cons_option (option_map (λ l. (k, l)) o) []))) is ∙ passing_over passes c.args.which k link c.args.places.now passing) c.collected.ensures
