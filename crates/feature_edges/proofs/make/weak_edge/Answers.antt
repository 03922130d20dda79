use Rattle.std.proofs.Common.{◌≡◌, ◌∙◌, ◌++◌, ap, sym, []}
use Rattle.std.specs.Option.{option_map_or}
use Rattle.indexmap.specs.IndexMap.{keys}
use Rattle.feature_edges.specs.Candidates.{slash_weak}
use Rattle.feature_edges.specs.Edges.{weak_facts}
use Rattle.feature_links.specs.Facts as edges
use Rattle.feature_edges.proofs.PairLemmas.{names_differ}
use Rattle.feature_edges.proofs.KeyEdges.{told_weak}
use Rattle.feature_edges.proofs.WeakLemmas.{place_stays}
use Rattle.feature_edges.proofs.MaterialLemmas.{link_within, same_weak}
use Rattle.feature_links.specs.Values.{weak_facts_of, weak_link_of}
use Rattle.feature_links.specs.Facts.{weak_edge}
use Rattle.feature_edges.proofs.make.weak_edge.Goals as goal

pub link_of-requires : goal.link_of-requires
link_of-requires c =
    let t = c.args.material.numbers.graph.now in
    let s = (told_weak t (names_differ t c.facts.ensures) [] c.args.key c.requires.of_tables c.requires.kind).tells in
    link_within t c.args.key.source s.link s.is_link

pub half_of-requires : goal.half_of-requires
half_of-requires c =
    let t = c.args.material.numbers.graph.now in
    let s = (told_weak t (names_differ t c.facts.ensures) [] c.args.key c.requires.of_tables c.requires.kind).tells in
    link_within t c.args.key.source s.link s.is_link

pub half_of-requires-2 : goal.half_of-requires-2
half_of-requires-2 c =
    let t = c.args.material.numbers.graph.now in
    let s = (told_weak t (names_differ t c.facts.ensures) [] c.args.key c.requires.of_tables c.requires.kind).tells in
    link_within t c.args.key.source s.link s.is_link

pub returns : goal.returns
returns c rest =
    let t = c.args.material.numbers.graph.now in
    let numbers = keys c.args.table.now in
    let weak = numbers ++ rest in
    let x = c.args.key in
    let o = told_weak t (names_differ t c.facts.ensures) weak x c.requires.of_tables c.requires.kind in
    let s = o.tells in
    let made = weak_facts_of c.in_ok-weak.weak.value in
    let over = weak_link_of c.in_ok-weak.weak.value in
    let value : c.in_ok-weak.weak.value ≡ c.new-held.result = c.in_ok-weak.ensures.ok in
    let facts : made ≡ weak_facts t weak x.source = ap weak_facts_of value ∙ same_weak (weak_facts_of c.new-held.result) (weak_facts t weak x.source)
    (c.new-held.ensures.index ∙ c.index_in-index.ensures ∙ ap (λ z. option_map_or (λ i. i) z 0) (sym (place_stays x.source numbers rest c.requires.noted)))
    (c.new-held.ensures.required ∙ c.in_ok-required.ensures)
    (c.new-held.ensures.optional ∙ c.in_ok-optional.ensures) in
    let link : over ≡ o.link = ap weak_link_of value ∙ c.new-held.ensures.link ∙ c.in_ok-link.ensures s.link s.is_link ∙ sym s.is in
    record { edge = slash_weak x.source o.link; candidate = o.candidate; kind = o.kind; is = ap (λ z. edges.weak_edge z made) link ∙ ap (λ z. edges.weak_edge o.link z) facts }
