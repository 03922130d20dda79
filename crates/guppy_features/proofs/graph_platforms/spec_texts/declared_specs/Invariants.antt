use Rattle.std.proofs.Common.{◌≡◌, take}
use Rattle.std.specs.Prelude.{flat_map}
use Rattle.std.specs.Str.{bytes_eq}
use Rattle.guppy_packages.specs.Graph.{firsts}
use Rattle.guppy_features.specs.graph_platforms.DeclaredSpecs.{link_specs}
use Rattle.guppy_features.specs.graph_platforms.inner.TextSets.{texts_in}
use Rattle.guppy_features.proofs.graph_platforms.spec_texts.declared_specs.Given as goal

abbrev pub invariant-loop-ix : goal.invariant-loop-ix
invariant-loop-ix l = texts_in l.set ≡ firsts bytes_eq (flat_map link_specs (take l.ix l.graph.links))
