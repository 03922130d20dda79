use Rattle.std.proofs.Common.{[], take}
use Rattle.std.specs.Prelude.{filter, flat_map, ◌==◌}
use Rattle.feature_edges.specs.Warnings.{of_link}
use Rattle.feature_edges.specs.inner.Adds.{Below}
use Rattle.feature_edges.specs.inner.Collects.{Collects}
use Rattle.feature_edges.proofs.PushLemmas.{IsOfLinkFrom}
use Rattle.feature_edges.proofs.collect.declarations.push_links.Given as goal

abbrev pub invariant-loop-ix : goal.invariant-loop-ix
invariant-loop-ix l =
    let t = l.input.numbers.graph.now in
    let p = l.input.metadata.package_ix in
    Collects (Below l.ix (IsOfLinkFrom t p)) [] (flat_map (of_link t) (filter (λ link. link.from == p) (take l.ix t.links))) l.initial.collected l.collected
