use Rattle.std.proofs.Common.{◌≡◌, ◌++◌, drop, map}
use Rattle.build_summaries.specs.Summaries.{tables}
use Rattle.build_summaries.specs.Views.{package_text}
use Rattle.build_summaries.proofs.summaries.push_tables.Given as goal

abbrev pub invariant-loop-package : goal.invariant-loop-package
invariant-loop-package l =
    l.initial.text.items ++ tables l.name (map package_text l.packages) ≡ l.text.items ++ tables l.name (map package_text (drop l.package-index l.packages))
