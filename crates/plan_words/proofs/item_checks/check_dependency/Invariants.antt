use Rattle.std.proofs.Common.{◌≡◌, map, drop}
use Rattle.cargo_workspaces.specs.Views.{declaration_text}
use Rattle.cargo_workspaces.specs.WorkspaceView.{workspace_text}
use Rattle.plan_words.specs.FeatureWords.{first_of}
use Rattle.plan_words.specs.ItemChecks as spec
use Rattle.plan_words.proofs.item_checks.check_dependency.Given as goal

abbrev pub invariant-loop-declaration : goal.invariant-loop-declaration
invariant-loop-declaration l =
    let check = spec.lead_refusal (workspace_text l.workspace) l.name l.feature in
    first_of check (map declaration_text l.package.declarations.items) ≡ first_of check (map declaration_text (drop l.declaration-index l.package.declarations.items))
