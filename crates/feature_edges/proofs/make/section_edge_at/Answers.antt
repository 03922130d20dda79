use Rattle.std.proofs.Common.{◌≡◌, ◌∙◌, ◌∷◌, ap, sym, refl, subst, []}
use Rattle.feature_edges.specs.Candidates.{section, requesting}
use Rattle.feature_links.specs.Links.{ArePassing, over}
use Rattle.feature_links.specs.Facts as edges
use Rattle.feature_edges.proofs.PairLemmas.{names_differ}
use Rattle.feature_edges.proofs.KeySays.{SaysSection}
use Rattle.feature_edges.proofs.KeyEdges.{told_section, value_over}
use Rattle.feature_edges.proofs.MaterialLemmas.{link_within}
use Rattle.feature_edges.proofs.SectionPlaces.{run_requests, places_passing, half_is, start_within}
use Rattle.feature_links.specs.Values.{link_facts}
use Rattle.feature_links.specs.Facts.{section_edge}
use Rattle.feature_edges.proofs.make.section_edge_at.Goals as goal

pub half_from-which-requires-clause-node : goal.half_from-which-requires-clause-node
half_from-which-requires-clause-node c =
    let t = c.args.material.numbers.graph.now in
    let o = told_section t (names_differ t c.facts.ensures) [] c.args.key c.requires.of_tables c.requires.kind in
    start_within t c.args.material.packages.now c.args.key o.link o.tells c.requires.material.packages

pub section_link-requires : goal.section_link-requires
section_link-requires c =
    let t = c.args.material.numbers.graph.now in
    let s = (told_section t (names_differ t c.facts.ensures) [] c.args.key c.requires.of_tables c.requires.kind).tells in
    link_within t c.args.key.source s.link s.is_link

pub returns : goal.returns
returns c weak =
    let t = c.args.material.numbers.graph.now in
    let x = c.args.key in
    let o = told_section t (names_differ t c.facts.ensures) weak x c.requires.of_tables c.requires.kind in
    let s = o.tells in
    let passing = places_passing t c.facts.ensures x o.link s c.args.run.now (run_requests t c.args.run.now x c.requires.kind c.requires.run) in
    let which = half_is t x o.link s c.half_from-which.result c.half_from-which.ensures.required c.half_from-which.ensures.optional in
    let there : ArePassing (requesting s.asked s.which) s.link.declarations c.args.places.now = subst (ArePassing (requesting s.asked s.which) s.link.declarations) (sym c.requires.places) passing in
    let made = c.in_ok-link.ensures s.link (requesting s.asked s.which) s.is_link there in
    let link : link_facts c.in_ok-link.link ≡ o.link = made ∙ ap (λ z. over z (requesting s.asked s.which) ((x.source, s.link) ∷ [])) which ∙ sym s.is in
    value_over t weak x section edges.section_edge (SaysSection t x) (λ l. refl) o (link_facts c.in_ok-link.link) link
