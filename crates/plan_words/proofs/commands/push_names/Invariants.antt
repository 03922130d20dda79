use Rattle.std.proofs.Common.{◌≡◌, ◌++◌, map, drop}
use Rattle.cargo_workspaces.specs.Views.{feature_text, texts}
use Rattle.plan_words.proofs.commands.push_names.Given as goal

abbrev pub invariant-loop-feature : goal.invariant-loop-feature
invariant-loop-feature l =
    texts l.initial.items.items ++ map (λ f. f.name) (map feature_text l.package.features.items)
    ≡ texts l.items.items ++ map (λ f. f.name) (map feature_text (drop l.feature-index l.package.features.items))
