use Rattle.std.proofs.Common.{◌≡◌, ◌++◌, drop, map}
use Rattle.cargo_plans.specs.WordsView.{words_text}
use Rattle.cargo_workspaces.specs.WorkspaceView.{workspace_text}
use Rattle.plan_rows.specs.platforms.HeldSpecs.{holds_on}
use Rattle.feats_why_not.specs.inner.Lists.{texts_of, told_sections, told_value}
use Rattle.feats_why_not.proofs.widened_sections.told_sections.Given as goal

abbrev pub invariant-loop-told : goal.invariant-loop-told
invariant-loop-told l =
    let sections = told_sections l.form (workspace_text l.workspace).packages (words_text holds_on l.words) l.widening in
    sections (map told_value l.tolds) ≡ texts_of l.sections.items ++ sections (map told_value (drop l.told-index l.tolds))
