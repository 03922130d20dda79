use Rattle.std.proofs.Common.{map, take}
use Rattle.std.specs.List.{AllZip}
use Rattle.cargo_plans.specs.WordsView.{words_text}
use Rattle.cargo_workspaces.specs.WorkspaceView.{workspace_text}
use Rattle.plan_rows.specs.platforms.HeldSpecs.{holds_on}
use Rattle.feats_why_not.specs.inner.Lists.{IsTold, about_value, told_value}
use Rattle.feats_why_not.proofs.small_words.told_each.Given as goal

abbrev pub invariant-loop-about : goal.invariant-loop-about
invariant-loop-about l =
    AllZip (λ about. IsTold l.base.alone (workspace_text l.base.workspace.now) (words_text holds_on l.base.words.now) (words_text holds_on l.words) (about_value about)) (take l.about-index l.abouts) (map told_value l.tolds.items)
