use Rattle.std.proofs.Common.{map, take}
use Rattle.std.specs.List.{AllZip}
use Rattle.cargo_plans.specs.WordsView.{words_text}
use Rattle.cargo_plans.specs.plan_steps.PlanViews.{plan_text}
use Rattle.cargo_workspaces.specs.WorkspaceView.{workspace_text}
use Rattle.plan_rows.specs.platforms.HeldSpecs.{holds_on}
use Rattle.plan_names.specs.wider.widenings.Widenings.{widened}
use Rattle.feats_why_not.specs.PartView.{part_text}
use Rattle.feats_why_not.specs.Texts.{IsSection, head_text}
use Rattle.feats_why_not.specs.inner.Lists.{texts_of}
use Rattle.feats_why_not.proofs.Each.{IsSo}
use Rattle.feats_why_not.proofs.texts.texts_about.Given as goal

abbrev pub invariant-loop-widening : goal.invariant-loop-widening
invariant-loop-widening l =
    let w = workspace_text l.workspace in
    let words = words_text holds_on l.words in
    AllZip (IsSo (λ part v text. IsSection l.form l.base.alone w words (widened (holds_on l.every) v words) v part text) (head_text l.form w words (plan_text l.plan)) (take l.widening-index l.widening-items))
    (map part_text l.parts) (texts_of l.texts.items)
