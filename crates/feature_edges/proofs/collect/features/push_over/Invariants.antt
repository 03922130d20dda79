use Rattle.std.proofs.Common.{[], take}
use Rattle.std.specs.Prelude.{flat_map}
use Rattle.feature_edges.specs.inner.Adds.{Below}
use Rattle.feature_edges.specs.inner.Collects.{Collects, lack_by}
use Rattle.feature_edges.proofs.PushLemmas.{OverAt}
use Rattle.feature_edges.proofs.collect.features.push_over.Given as goal

abbrev pub invariant-loop-place : goal.invariant-loop-place
invariant-loop-place l =
    let t = l.input.numbers.graph.now in
    Collects (Below l.place (OverAt t l.from l.feature l.weak l.links)) (flat_map (lack_by t l.feature) (take l.place l.links)) [] l.initial.collected l.collected
