use Rattle.std.proofs.Common.{[], take}
use Rattle.std.specs.Prelude.{flat_map}
use Rattle.guppy_packages.specs.Metadata.{link_number_of, link_table_of}
use Rattle.feature_edges.specs.Warnings.{lack_over}
use Rattle.feature_edges.specs.inner.Adds.{Below}
use Rattle.feature_edges.specs.inner.Collects.{Collects}
use Rattle.feature_edges.specs.inner.Parts.{IsOfDeclarationAt}
use Rattle.feature_edges.proofs.collect.declarations.push_link.Given as goal

abbrev pub invariant-loop-place : goal.invariant-loop-place
invariant-loop-place l =
    let t = l.input.numbers.graph.now in
    let link = link_table_of l.link in
    Collects (Below l.place (IsOfDeclarationAt t (link_number_of l.link) link)) [] (flat_map (λ d. flat_map (lack_over t link) d.features) (take l.place link.declarations)) l.initial.collected l.collected
