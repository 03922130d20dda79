use Rattle.std.proofs.Common.{◌≡◌, ◌++◌, drop, flat_map}
use Rattle.build_summaries.specs.Strings.{after_comma}
use Rattle.build_summaries.specs.Views.{texts}
use Rattle.build_summaries.proofs.strings.push_more.Given as goal

abbrev pub invariant-loop-part : goal.invariant-loop-part
invariant-loop-part l =
    l.initial.text.items ++ flat_map after_comma (texts l.parts) ≡ l.text.items ++ flat_map after_comma (texts (drop l.part-index l.parts))
