use Rattle.std.proofs.Common.{◌≡◌, ◌++◌, map, drop}
use Rattle.cargo_workspaces.specs.Views.{package_text}
use Rattle.plan_words.specs.PackageWords.{has_id, numbers_from}
use Rattle.plan_words.proofs.package_words.packages_with_id.Given as goal

abbrev pub invariant-loop-ix : goal.invariant-loop-ix
invariant-loop-ix l =
    numbers_from (has_id l.word) 0 (map package_text l.packages) ≡ l.numbers.items ++ numbers_from (has_id l.word) l.ix (map package_text (drop l.ix l.packages))
