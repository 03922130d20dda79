use Rattle.std.proofs.Common.{◌≡◌, ◌∙◌, [], sym, subst, arith, length}
use Rattle.std.specs.Prelude.{flat_map}
use Rattle.guppy_packages.specs.Metadata.{link_number_of, link_table_of}
use Rattle.guppy_packages.specs.Stored.{declared}
use Rattle.feature_edges.specs.Warnings.{lack_over, of_link, warnings_in}
use Rattle.feature_edges.specs.inner.Adds.{Adds, Below}
use Rattle.feature_edges.specs.inner.Collects.{Collects}
use Rattle.feature_edges.specs.inner.Parts.{IsOfDeclarationAt, IsOfLinkAt}
use Rattle.feature_edges.proofs.CollectLemmas.{collects-start, names-turn}
use Rattle.feature_edges.proofs.Places.{got_same}
use Rattle.feature_edges.proofs.RequestLemmas.{mapped_at, mapped_length}
use Rattle.feature_edges.proofs.RequestLemmas as request
use Rattle.feature_edges.proofs.WarningLemmas.{added-all}
use Rattle.feature_edges.proofs.collect.declarations.push_link.Goals as goal

pub loop-place-init : goal.loop-place-init
loop-place-init c = collects-start (IsOfDeclarationAt c.args.input.numbers.graph.now (link_number_of c.link-link.result) (link_table_of c.link-link.result)) c.args.collected.now

pub push_declaration-requires : goal.push_declaration-requires
push_declaration-requires c =
    let link = link_table_of c.link-link.result in
    record {
      graph = c.link-link.ensures.graph;
      declaration = mapped_at declared c.declarations-declarations.result.now link.declarations c.loop-place.place c.index-declarations-place.result c.declarations-declarations.ensures (omega arith) c.index-declarations-place.is;
    }

pub loop-place-preserved : goal.loop-place-preserved
loop-place-preserved c =
    let t = c.args.input.numbers.graph.now in
    let link = link_table_of c.link-link.result in
    let at = mapped_at declared c.declarations-declarations.result.now link.declarations c.loop-place.place c.index-declarations-place.result c.declarations-declarations.ensures (omega arith) c.index-declarations-place.is in
    names-turn (IsOfDeclarationAt t (link_number_of c.link-link.result) link) (λ d. flat_map (lack_over t link) d.features) link.declarations c.loop-place.place (declared c.index-declarations-place.result) c.args.collected.now c.loop-place.collected c.push_declaration.new.collected
    at c.loop-place.invariant c.in_ok-push_declaration.ensures

pub returns : goal.returns
returns c other is =
    let t = c.args.input.numbers.graph.now in
    let link = link_table_of c.link-link.result in
    let n = c.loop-place.place in
    let before = c.args.collected.now in
    let after = c.loop-place.collected in
    let all = c.loop-place.invariant in
    let long = mapped_length declared c.declarations-declarations.result.now link.declarations c.declarations-declarations.ensures in
    let end : n ≡ length c.declarations-declarations.result.now = omega arith in
    let keys : Adds (Below n (IsOfDeclarationAt t c.args.ix link)) before.keys.items after.keys.items = subst (λ z. Adds (Below n (IsOfDeclarationAt t z link)) before.keys.items after.keys.items) c.link-link.ensures.number all.keys in
    subst (λ z. Collects (IsOfLinkAt t c.args.ix) [] (of_link t z) before after) (got_same link other (sym c.link-link.ensures.link ∙ is))
    (record {
      keys = request.of_link t c.args.ix n link before.keys.items after.keys.items c.link-link.ensures.link (end ∙ long) keys;
      of_items = all.of_items;
      of_names = added-all (λ d. flat_map (lack_over t link) d.features) link.declarations n (warnings_in before.name_warnings) (warnings_in after.name_warnings) (omega (arith, end, long)) all.of_names;
    })
