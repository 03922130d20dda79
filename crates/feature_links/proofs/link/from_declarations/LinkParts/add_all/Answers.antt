use Rattle.std.proofs.Common.{◌<◌, ◌≤◌, ◌++◌, ◌∷◌, [], subst, length, take, arith}
use Rattle.std.proofs.lemmas.List.{take_all}
use Rattle.guppy_packages.specs.Metadata.{link_table_of}
use Rattle.feature_links.specs.inner.Collected.{HasParts, wanted, wanted_parts}
use Rattle.feature_links.specs.Links.{links_at}
use Rattle.feature_links.proofs.LinkLemmas.{given_next}
use Rattle.feature_links.proofs.link.from_declarations.LinkParts.add_all.Goals as goal

pub loop-link_ix-preserved : goal.loop-link_ix-preserved
loop-link_ix-preserved c none =
    let t = c.args.graph.now in
    let i = c.loop-link_ix.link_ix-index in
    let link = link_table_of c.link.result in
    let below : i < length c.args.links.now = omega arith in
    let before = wanted_parts c.args.which c.args.places (links_at t (take i c.args.links.now)) in
    subst (HasParts c.add.new.self) (given_next t (wanted c.args.which c.args.places) c.args.links.now i link below c.link.ensures.link)
    (subst (λ k. HasParts c.add.new.self (before ++ (k, wanted c.args.which c.args.places link) ∷ [])) c.link.ensures.number (c.in_ok-add.ensures before (c.loop-link_ix.invariant none)))

pub returns : goal.returns
returns c none =
    let t = c.args.graph.now in
    let i = c.loop-link_ix.link_ix-index in
    let links = c.args.links.now in
    let end : length links ≤ i = omega arith in
    subst (λ z. HasParts c.loop-link_ix.self (wanted_parts c.args.which c.args.places (links_at t z))) (take_all i links end) (c.loop-link_ix.invariant none)
