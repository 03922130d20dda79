use Rattle.std.proofs.Common.{◌≡◌, List, ◌++◌, map, take}
use Rattle.std.specs.Str.{bytes_eq}
use Rattle.guppy_packages.specs.Graph.{firsts}
use Rattle.guppy_packages.specs.Platform.{spec_text}
use Rattle.guppy_packages.specs.Rows.{Text}
use Rattle.guppy_features.specs.graph_platforms.inner.TextSets.{texts_in}
use Rattle.guppy_features.proofs.graph_platforms.spec_texts.insert_all.Given as goal

abbrev pub invariant-loop-spec : goal.invariant-loop-spec
invariant-loop-spec l = (before : List Text) → texts_in l.initial.set ≡ firsts bytes_eq before → texts_in l.set ≡ firsts bytes_eq (before ++ map spec_text (take l.spec-index l.specs))
