use Rattle.std.proofs.Common.{◌∙◌, ap, ℕ, Bool}
use Rattle.cargo_plans.specs.built_parts.Scripts.{lacking_script}
use Rattle.cargo_plans.specs.WordsView.{words_text}
use Rattle.cargo_workspaces.specs.WorkspaceView.{workspace_text}
use Rattle.feature_labels.specs.Names.{LabelName}
use Rattle.plan_rows.specs.platforms.HeldSpecs.{holds_on}
use Rattle.plan_rows.specs.declared.side.Side.{Side}
use Rattle.feats_why_not.proofs.builds.builds_of.Goals as goal

pub returns-clause-scripts : goal.returns-clause-scripts
returns-clause-scripts c = λ q.
    c.in_ok-scripts.ensures q
    ∙ ap (λ (built : Side → ℕ → LabelName → Bool). lacking_script built (words_text holds_on c.args.words.now).host (workspace_text c.args.workspace.now).packages q) c.in_ok-parts.ensures.built
