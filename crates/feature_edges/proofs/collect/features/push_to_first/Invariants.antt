use Rattle.feature_edges.specs.inner.Adds.{Adds, Below}
use Rattle.feature_edges.specs.inner.Parts.{IsToFirstFrom}
use Rattle.feature_edges.proofs.collect.features.push_to_first.Given as goal

abbrev pub invariant-loop-place : goal.invariant-loop-place
invariant-loop-place l = Adds (Below l.place (IsToFirstFrom l.start l.first)) l.initial.keys.items l.keys.items
