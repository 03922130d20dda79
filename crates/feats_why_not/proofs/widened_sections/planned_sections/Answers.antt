use Rattle.std.proofs.lemmas.Result.{IfOk-weaker}
use Rattle.cargo_plans.specs.WordsView.{words_text}
use Rattle.cargo_workspaces.specs.WorkspaceView.{workspace_text}
use Rattle.plan_rows.specs.platforms.HeldSpecs.{holds_on}
use Rattle.cargo_plans.specs.plan_steps.PlanViews.{plan_text}
use Rattle.feats_why_not.specs.inner.Lists.{texts_of}
use Rattle.feats_why_not.proofs.FoundLemmas.{all_off}
use Rattle.feats_why_not.proofs.widened_sections.planned_sections.Goals as goal

pub returns-else-is_one_on : goal.returns-else-is_one_on
returns-else-is_one_on c =
    IfOk-weaker c.same_sections.result _ _ (λ sections shown.
    all_off c.args.form c.args.base.alone (workspace_text c.args.base.workspace.now) (words_text holds_on c.args.base.words.now) (words_text holds_on c.args.words.now) c.args.widening (plan_text c.args.plan.now) c.args.parts.now
    c.is_one_on.result (texts_of sections.items) c.requires c.is_one_on.ensures c.if-is_one_on.false shown)
    c.same_sections.ensures
