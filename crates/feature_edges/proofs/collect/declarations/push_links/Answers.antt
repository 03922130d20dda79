use Rattle.std.proofs.Common.{◌∙◌, ◌++◌, ap, sym, subst, arith, take}
use Rattle.std.specs.Prelude.{filter, flat_map, ◌==◌}
use Rattle.guppy_packages.specs.Tables.{AreLinksFrom}
use Rattle.feature_edges.specs.Warnings.{of_link, warnings_in}
use Rattle.feature_edges.proofs.AddsLemmas.{Adds-turn}
use Rattle.feature_edges.proofs.CollectLemmas.{nothing}
use Rattle.feature_edges.proofs.LeavingLinks.{leaving-none, leaving-more, leaving-all}
use Rattle.feature_edges.proofs.NodeLabels.{element_within}
use Rattle.feature_edges.proofs.NodeLemmas.{append-none}
use Rattle.feature_edges.proofs.PushLemmas.{IsOfLinkFrom, leaving_start, leaving_next, leaving_end}
use Rattle.feature_edges.proofs.WarningLemmas.{added-more}
use Rattle.feature_edges.proofs.collect.declarations.push_links.Goals as goal

pub loop-ix-init : goal.loop-ix-init
loop-ix-init c =
    let t = c.args.input.numbers.graph.now in
    let p = c.args.input.metadata.package_ix in
    let links = c.direct_links-links.result in
    let before = c.args.collected.now in
    let are : AreLinksFrom t.links p links.start links.end = subst (λ z. AreLinksFrom z.links p links.start links.end) c.args.input.of_graph c.direct_links-links.ensures in
    record {
      keys = leaving_start t p links.start links.end are before.keys.items;
      of_items = nothing (warnings_in before.item_warnings);
      of_names = nothing (warnings_in before.name_warnings) ∙ ap (λ z. warnings_in before.name_warnings ++ flat_map (of_link t) z) (sym (leaving-none t p links.start links.end are));
    }

pub push_link-requires : goal.push_link-requires
push_link-requires c =
    let t = c.args.input.numbers.graph.now in
    let p = c.args.input.metadata.package_ix in
    let links = c.direct_links-links.result in
    let are : AreLinksFrom t.links p links.start links.end = subst (λ z. AreLinksFrom z.links p links.start links.end) c.args.input.of_graph c.direct_links-links.ensures in
    omega (arith, are.within)

pub loop-ix-preserved : goal.loop-ix-preserved
loop-ix-preserved c =
    let t = c.args.input.numbers.graph.now in
    let p = c.args.input.metadata.package_ix in
    let links = c.direct_links-links.result in
    let ix = c.loop-ix.ix in
    let start = c.args.collected.now in
    let before = c.loop-ix.collected in
    let after = c.push_link.new.collected in
    let are : AreLinksFrom t.links p links.start links.end = subst (λ z. AreLinksFrom z.links p links.start links.end) c.args.input.of_graph c.direct_links-links.ensures in
    let link = element_within t.links ix (omega (arith, are.within)) in
    let this = c.in_ok-push_link.ensures link.0 link.1 in
    let all = c.loop-ix.invariant in
    record {
      keys = Adds-turn (IsOfLinkFrom t p) ix start.keys.items before.keys.items after.keys.items all.keys (leaving_next t p links.start links.end are ix before.keys.items after.keys.items (omega arith) (omega arith) this.keys);
      of_items = this.of_items ∙ append-none (warnings_in before.item_warnings) ∙ all.of_items;
      of_names = added-more (of_link t) (filter (λ link. link.from == p) (take ix t.links)) _ link.0 (warnings_in start.name_warnings) (warnings_in before.name_warnings) (warnings_in after.name_warnings)
          (leaving-more t p links.start links.end are ix link.0 link.1 (omega arith) (omega arith)) all.of_names this.of_names;
    }

pub returns : goal.returns
returns c =
    let t = c.args.input.numbers.graph.now in
    let p = c.args.input.metadata.package_ix in
    let links = c.direct_links-links.result in
    let start = c.args.collected.now in
    let after = c.loop-ix.collected in
    let are : AreLinksFrom t.links p links.start links.end = subst (λ z. AreLinksFrom z.links p links.start links.end) c.args.input.of_graph c.direct_links-links.ensures in
    let all = c.loop-ix.invariant in
    record {
      keys = leaving_end t p links.start links.end are c.loop-ix.ix start.keys.items after.keys.items (omega arith) all.keys;
      of_items = all.of_items;
      of_names = all.of_names ∙ ap (λ z. warnings_in start.name_warnings ++ flat_map (of_link t) z) (leaving-all t p links.start links.end are c.loop-ix.ix (omega arith));
    }
