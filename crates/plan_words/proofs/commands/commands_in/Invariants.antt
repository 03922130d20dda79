use Rattle.std.proofs.Common.{◌≡◌, ◌++◌, map, drop}
use Rattle.std.specs.Option.{option_map}
use Rattle.cargo_workspaces.specs.Views.{feature_text, package_text}
use Rattle.plan_words.specs.Choices as spec
use Rattle.plan_words.specs.Selections.{selection_text}
use Rattle.plan_words.specs.inner.Views.{started_text}
use Rattle.plan_words.proofs.commands.commands_in.Given as goal

abbrev pub invariant-loop-ix : goal.invariant-loop-ix
invariant-loop-ix l =
    let rest = spec.commands_from (selection_text l.selection) (started_text l.begun) in
    rest 0 (map package_text l.packages) ≡ map (option_map feature_text) l.commands.items ++ rest l.ix (map package_text (drop l.ix l.packages))
