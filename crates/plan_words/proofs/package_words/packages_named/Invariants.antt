use Rattle.std.proofs.Common.{◌≡◌, ◌++◌, map, drop}
use Rattle.cargo_workspaces.specs.Views.{package_text}
use Rattle.plan_words.specs.PackageWords.{is_named, numbers_from}
use Rattle.plan_words.proofs.package_words.packages_named.Given as goal

abbrev pub invariant-loop-ix : goal.invariant-loop-ix
invariant-loop-ix l =
    numbers_from (is_named l.word) 0 (map package_text l.packages) ≡ l.numbers.items ++ numbers_from (is_named l.word) l.ix (map package_text (drop l.ix l.packages))
