use Rattle.std.proofs.Common.{◌≡◌, List, ◌++◌, take}
use Rattle.std.specs.Prelude.{filter_map}
use Rattle.std.specs.Str.{bytes_eq}
use Rattle.guppy_packages.specs.Graph.{firsts}
use Rattle.guppy_packages.specs.Rows.{Text}
use Rattle.guppy_packages.specs.Stored.{declared}
use Rattle.guppy_features.specs.graph_platforms.inner.TextSets.{texts_in}
use Rattle.guppy_features.proofs.graph_platforms.spec_texts.insert_link.Given as goal

abbrev pub invariant-loop-declaration : goal.invariant-loop-declaration
invariant-loop-declaration l = (before : List Text) → texts_in l.initial.set ≡ firsts bytes_eq before
    → texts_in l.set ≡ firsts bytes_eq (before ++ filter_map (λ d. (declared d).platform) (take l.declaration-index l.declarations))
