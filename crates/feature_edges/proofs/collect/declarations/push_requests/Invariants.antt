use Rattle.std.proofs.Common.{[], take}
use Rattle.std.specs.Prelude.{flat_map}
use Rattle.guppy_packages.specs.Metadata.{link_number_of, link_table_of}
use Rattle.guppy_packages.specs.Stored.{declared}
use Rattle.feature_edges.specs.Warnings.{lack_over}
use Rattle.feature_edges.specs.inner.Adds.{Below}
use Rattle.feature_edges.specs.inner.Collects.{Collects}
use Rattle.feature_edges.proofs.RequestLemmas.{IsListed}
use Rattle.feature_edges.proofs.collect.declarations.push_requests.Given as goal

abbrev pub invariant-loop-ix : goal.invariant-loop-ix
invariant-loop-ix l =
    let t = l.input.numbers.graph.now in
    let link = link_table_of l.link in
    let d = declared l.declaration in
    Collects (Below l.ix (IsListed t l.from link.to (link_number_of l.link) l.place d)) [] (flat_map (lack_over t link) (take l.ix d.features)) l.initial.collected l.collected
