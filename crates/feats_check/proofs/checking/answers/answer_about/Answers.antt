use Rattle.std.proofs.Common.{None, Option, sym, subst}
use Rattle.std.specs.Borrow.{Bor}
use Rattle.std.specs.Prelude.{IfErr, option_map}
use Rattle.cargo_plans.specs.WordsView.{words_text}
use Rattle.cargo_workspaces.specs.WorkspaceView.{workspace_text}
use Rattle.feats_files.specs.Messages.{Says}
use Rattle.plan_rows.specs.platforms.HeldSpecs.{holds_on}
use Rattle.plan_rows.specs.declared.platforms.holding.HeldSpecs.{HeldSpecs}
use Rattle.cargo_plans.specs.plan_steps.PlanViews.{plan_text}
use Rattle.feats_check.specs.checking.Answers.{IsRefusalWith}
use Rattle.feats_check.specs.checking.QuestionViews.{question_text}
use Rattle.feats_check.specs.checking.Scenes.{scene_of}
use Rattle.feats_policies.specs.declared.checks.judged.Judged.TheVariants.{InBuild}
use Rattle.feats_check.proofs.Scened.{alone, unchecked}
use Rattle.feats_check.proofs.checking.answers.answer_about.Goals as goal

pub returns-in-None-clause-fault : goal.returns-in-None-clause-fault
returns-in-None-clause-fault c =
    let asked = question_text c.args.asked in
    let here = scene_of (workspace_text c.args.workspace.now) c.args.selected.now asked (words_text holds_on c.args.words.now) (plan_text c.args.plan.now) InBuild in
    subst (λ (every : Option (Bor HeldSpecs)). IfErr c.printed_rules.result (λ f. Says f (IsRefusalWith here asked (option_map (λ held. holds_on held.now) every)))) (sym c.in-None.is)
    (unchecked asked here None (record { here = here; wide = None }) (alone asked here) c.printed_rules.result c.printed_rules.ensures.fault)
