use Rattle.std.proofs.Common.{◌≡◌, ◌++◌, drop, flat_map}
use Rattle.build_summaries.specs.Paths.{after_slash}
use Rattle.build_summaries.specs.Views.{texts}
use Rattle.build_summaries.proofs.paths.push_more.Given as goal

abbrev pub invariant-loop-name : goal.invariant-loop-name
invariant-loop-name l =
    l.initial.text.items ++ flat_map after_slash (texts l.names) ≡ l.text.items ++ flat_map after_slash (texts (drop l.name-index l.names))
