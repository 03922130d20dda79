use Rattle.std.proofs.Common.{◌≡◌, ◌++◌, map, drop}
use Rattle.cargo_workspaces.specs.Views.{package_text}
use Rattle.plan_words.specs.PackageWords.{numbers_from}
use Rattle.plan_names.specs.Matches.{has_name_like}
use Rattle.plan_names.proofs.matches.packages_like.Given as goal

abbrev pub invariant-loop-ix : goal.invariant-loop-ix
invariant-loop-ix l =
    numbers_from (has_name_like l.pattern) 0 (map package_text l.packages) ≡ l.numbers.items ++ numbers_from (has_name_like l.pattern) l.ix (map package_text (drop l.ix l.packages))
