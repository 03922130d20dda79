use Rattle.std.proofs.Common.{◌≡◌, drop}
use Rattle.cargo_workspaces.specs.Views.{package_text, texts}
use Rattle.cargo_workspaces.specs.WorkspaceView.{workspace_text}
use Rattle.plan_words.specs.FeatureWords.{first_of}
use Rattle.plan_words.specs.ItemChecks as spec
use Rattle.plan_words.proofs.item_checks.check_items.Given as goal

abbrev pub invariant-loop-item : goal.invariant-loop-item
invariant-loop-item l =
    let check = spec.item_refusal (workspace_text l.workspace) l.ix (package_text l.package) in
    first_of check (texts l.items) ≡ first_of check (texts (drop l.item-index l.items))
