use Rattle.std.proofs.Common.{◌≡◌, ◌++◌, drop}
use Rattle.std.specs.List.{filter_map}
use Rattle.cargo_workspaces.specs.Views.{package_text, texts}
use Rattle.cargo_workspaces.specs.Workspaces.{Text}
use Rattle.plan_words.specs.FeatureWords as spec
use Rattle.plan_words.proofs.feature_words.own_items.Given as goal

abbrev pub invariant-loop-word : goal.invariant-loop-word
invariant-loop-word l =
    let own = λ (word : Text). spec.own_item word (package_text l.package) in
    filter_map own (texts l.words) ≡ texts l.items.items ++ filter_map own (texts (drop l.word-index l.words))
